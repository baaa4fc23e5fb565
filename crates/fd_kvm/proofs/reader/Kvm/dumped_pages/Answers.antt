-- No page is marked.
use Rattle.std.proofs.Common.{◌≡◌, List, subst, ap, ◌∙◌}
use Rattle.fd_kvm.specs.Reader.{Reader}
use Rattle.fd_kvm.specs.Visits.{AreGiven}
use Rattle.fd_kvm.specs.Walk.{dumped_pages}
use Rattle.fd_kvm.specs.declared.page.Page.{Page}
use Rattle.fd_kvm.proofs.Others.{others_unmarked}
use Rattle.fd_kvm.proofs.reader.Kvm.dumped_pages.Goals as goal

pub returns-clause-given : goal.returns-clause-given
returns-clause-given g c =
    let s = c.self.inside.vmcore.sections in
    let taken = c.walk_others.ensures.taken in
    record {
      pages = taken.pages;
      went_on = c.walk_others.result;
      taken = taken.taken;
      are = subst (λ (l : List Page). AreGiven taken.pages l c.walk_others.result)
          (others_unmarked s c.clear_all.new.self _ c.clear_all.ensures ∙ ap (λ (r : Reader). dumped_pages r.sections) c.self.view_is) taken.are;
    }
