use Rattle.std.proofs.Common.{OnErr}
use Rattle.fd_site.specs.Begun.{IsBegun}
use Rattle.fd_site.specs.Contents.{Adds}
use Rattle.fd_cli.proofs.Saves.{cleared_unless}
use Rattle.fd_cli.proofs.save_dump.clear_saved.Goals as goal

pub returns-clause-err : goal.returns-clause-err
returns-clause-err g c =
    let old = g.S.Site.seen c.args.site.now in
    cleared_unless c.args.keep old.size old.block c.args.saved.now.sector (λ planned. OnErr c.clear.result (Adds (IsBegun planned) old.told (g.S.Site.seen c.clear.new.site).told))
    c.if-keep.false c.clear.ensures.err
