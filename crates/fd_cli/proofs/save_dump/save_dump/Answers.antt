use Rattle.fd_cli.specs.Rows.Save.{SavesJudged, save_row}
use Rattle.fd_cli.proofs.Good.{good_of}
use Rattle.fd_cli.proofs.Saves.{partition_refused}
use Rattle.fd_cli.proofs.save_dump.save_dump.Goals as goal

pub returns-then-not-good_partition-clause-works : goal.returns-then-not-good_partition-clause-works
returns-then-not-good_partition-clause-works g c =
    partition_refused (save_row c.args.options c.args.keep) (SavesJudged c.args.options c.args.keep) _ _ _ c.in_ok-reply.reply (λ w does. does) c.size-size.ensures
    c.block-block.ensures
    (good_of _ _ _ _ _ _ c.size-size.ensures c.block-block.ensures c.good_partition.ensures c.if-not-good_partition.true) c.in_ok-reply.ensures
