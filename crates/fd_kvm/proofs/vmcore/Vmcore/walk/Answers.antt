-- The pages of the kernel window are given, and then the others; or some of them, up to one after which no more are wanted or to
-- a fault of the site.
use Rattle.std.proofs.Common.{◌≡◌, ◌++◌, length, true, false, subst, arith}
use Rattle.std.proofs.lemmas.List.{length-append}
use Rattle.fd_kvm.specs.Parts.{other_page, other_pages}
use Rattle.fd_kvm.specs.Visits.{AreGiven, Took}
use Rattle.fd_kvm.specs.Walk.{walk_of, window_pages}
use Rattle.fd_kvm.proofs.Others.{failed_true, failed_walk, window_first, whole_walk}
use Rattle.fd_kvm.proofs.Visited.{given_few, mapped_few, took_then}
use Rattle.fd_kvm.proofs.vmcore.Vmcore.walk.Goals as goal

pub returns-in_err-walk_window-clause-walk : goal.returns-in_err-walk_window-clause-walk
returns-in_err-walk_window-clause-walk g c =
    let s = c.args.self.now.sections in
    let part = c.in_err-walk_window.ensures.part in
    record {
      pages = part.pages;
      went_on = true;
      taken = part.taken;
      few = omega (arith, part.are.0);
      fault = failed_true c.from_residual.result;
      are = λ told is f there. failed_walk (walk_of f s) part.pages c.from_residual.result true c.from_residual.ensures.0 (window_first f s part.pages (part.are.1 told is f there));
    }

pub returns-then-branch-clause-walk : goal.returns-then-branch-clause-walk
returns-then-branch-clause-walk g c =
    let s = c.args.self.now.sections in
    let window = c.in_ok-walk_window.ensures.part in
    let goes : c.in_ok-walk_window.field-0 ≡ true = c.if-branch.true in
    let others = c.walk_others.ensures.taken in
    record {
      pages = window.pages ++ others.pages;
      went_on = c.walk_others.result;
      taken = took_then g.V.Visit.took window.pages others.pages c.walk_others.result c.args.visit.now c.walk_window.new.visit c.walk_others.new.visit
          (subst (λ b. Took g.V.Visit.took c.args.visit.now window.pages b c.walk_window.new.visit) goes window.taken) others.taken;
      few = omega (
        arith,
        window.are.0,
        length-append window.pages others.pages,
        c.walk_others.ensures.few,
        given_few others.pages (other_pages s c.walk_window.new.walked (length s.bits)) c.walk_others.result others.are,
        mapped_few (other_page s c.walk_window.new.walked) 0 (length s.bits),
      );
      fault = tt;
      are = λ told is f there. whole_walk f s window.pages others.pages c.walk_window.new.walked c.args.walked.now c.walk_others.result
          (subst (AreGiven window.pages (window_pages f s)) goes (window.are.1 told is f there)) window.marked c.requires.marks others.are;
    }

pub returns-else-branch-clause-walk : goal.returns-else-branch-clause-walk
returns-else-branch-clause-walk g c =
    let s = c.args.self.now.sections in
    let part = c.in_ok-walk_window.ensures.part in
    let ended : c.in_ok-walk_window.field-0 ≡ false = c.if-branch.false in
    record {
      pages = part.pages;
      went_on = false;
      taken = subst (λ b. Took g.V.Visit.took c.args.visit.now part.pages b c.walk_window.new.visit) ended part.taken;
      few = omega (arith, part.are.0);
      fault = tt;
      are = λ told is f there. window_first f s part.pages (subst (AreGiven part.pages (window_pages f s)) ended (part.are.1 told is f there));
    }
