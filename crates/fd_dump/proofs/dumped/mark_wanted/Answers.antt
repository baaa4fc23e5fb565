-- The first wanted page that is left is marked, and then the later ones.
use Rattle.std.proofs.Common.{arith}
use Rattle.std.specs.Prelude.{◌==◌}
use Rattle.fd_dump.proofs.Marking.{marked-next, marked-past}
use Rattle.fd_dump.proofs.dumped.mark_wanted.Goals as goal

pub loop-page-preserved : goal.loop-page-preserved
loop-page-preserved c =
    let next = marked-next c.args.windows.now (λ address page. page == address) c.args.wanted.now c.loop-page.page-index 0 c.args.avail.now c.loop-page.map (omega arith) in
    record { marks = cc; bits = omega arith }

pub returns-clause-marks : goal.returns-clause-marks
returns-clause-marks c =
    let past = marked-past c.args.windows.now (λ address page. page == address) c.args.wanted.now c.loop-page.page-index c.args.avail.now c.loop-page.map (omega arith) in
    cc
