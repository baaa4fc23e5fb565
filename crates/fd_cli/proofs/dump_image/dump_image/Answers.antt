use Rattle.fd_cli.proofs.Dumps.{image_dumped, image_refused, refused_partition}
use Rattle.fd_cli.proofs.Good.{good_of}
use Rattle.fd_cli.proofs.dump_image.dump_image.Goals as goal

pub returns-then-not-good_partition-clause-works : goal.returns-then-not-good_partition-clause-works
returns-then-not-good_partition-clause-works g c =
    refused_partition _ c.args.mark c.args.source.now _ _ _ c.size-size.ensures c.block-block.ensures
    (good_of _ _ _ _ _ _ c.size-size.ensures c.block-block.ensures c.good_partition.ensures c.if-not-good_partition.true) c.in_ok-reply.ensures

pub returns-in-Err-clause-works : goal.returns-in-Err-clause-works
returns-in-Err-clause-works g c =
    image_refused _ _ c.args.mark c.args.source.now c.in-Err.fault _
    (good_of _ _ _ _ _ _ c.size-size.ensures c.block-block.ensures c.good_partition.ensures c.if-not-good_partition.false) c.in-Err.ensures.given
    c.refuse_image.ensures.answer c.in-Err.ensures.untouched.told

pub returns-clause-works : goal.returns-clause-works
returns-clause-works g c =
    image_dumped _ _ _ c.args.mark c.args.source.now c.in-Ok.image _
    (good_of _ _ _ _ _ _ c.size-size.ensures c.block-block.ensures c.good_partition.ensures c.if-not-good_partition.false) c.in-Ok.ensures.given
    c.in-Ok.ensures.untouched c.write_plan.ensures.works
