-- The bytes of a page that is dumped follow one another in the file.
use Rattle.std.proofs.Common.{◌%◌, sym, subst, ◌+◌}
use Rattle.fd_kvm.specs.Answer.{byte_in}
use Rattle.fd_kvm.specs.Runs.{IsRun}
use Rattle.fd_kvm.proofs.Located.{dumped, undumped}
use Rattle.fd_kvm.proofs.vmcore.Vmcore.run_of.Goals as goal

pub returns-in-Some-clause-run : goal.returns-in-Some-clause-run
returns-in-Some-clause-run c f stands is =
    let s = c.args.self.now.sections in
    let span = c.args.span in
    subst (λ n. IsRun f (byte_in f s) c.args.va (record { place = c.in-Some.page + span.pa % 4096; len = n })) (sym c.min.ensures)
    (dumped f s c.args.va span c.in-Some.page stands is (sym c.in-Some.ensures.place))

pub returns-in-None-clause-run : goal.returns-in-None-clause-run
returns-in-None-clause-run c f stands is = undumped f c.args.self.now.sections c.args.va c.args.span c.requires is (sym c.in-None.ensures.place)
