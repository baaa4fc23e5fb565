-- A page that is found has a number.
use Rattle.std.proofs.Common.{sym, ap}
use Rattle.fd_kvm.specs.declared.page.Page.{Page}
use Rattle.fd_kvm.proofs.Numbered.{numbered}
use Rattle.fd_kvm.proofs.vmcore.Vmcore.dumped_page.Goals as goal

pub returns-in-Some-clause-number : goal.returns-in-Some-clause-number
returns-in-Some-clause-number c =
    numbered c.args.self.now.sections c.args.pa c.in-Some.place c.page_at.result (sym c.in-Some.ensures.place) (ap (λ (p : Page). p.offset) c.page_at.ensures)
