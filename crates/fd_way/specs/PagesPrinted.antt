-- What printing a walk of pages does to the sink, and what it answers.
use Rattle.std.specs.Prelude.{◌≡◌, ℕ, ◌+◌, ◌-◌, ◌^◌, ◌≤◌, Bool, true, false, min, List, length, take, Option, Result, Ok, Err}
use Rattle.fd_site.specs.Fault.{Rose}
use Rattle.fd_site.specs.Seen.{Watched}
use Rattle.fd_site.specs.Trace.{grown}
use Rattle.fd_kvm.specs.declared.page.Page.{Page}
use Rattle.fd_way.specs.PagesText.{page_line, pages_text}
use Rattle.fd_way.specs.declared.pages.PagesFault.{PagesFault}
use Rattle.fd_way.specs.declared.pages.Printer.{Printer}

-- what is seen of a printer's sink
abbrev pub sink_of : {O : Type 0} → (O → Watched ℕ) → Printer O → Watched ℕ
sink_of seen printer = seen printer.out.now

-- a page's line was printed, and the page was counted
pub record IsLine {O : Type 0} (seen : O → Watched ℕ) (old : Printer O) (page : Page) (new : Printer O) : Type 0 where
  pub told : (sink_of seen new).told ≡ grown (sink_of seen old).told (page_line page)
  pub faults : (sink_of seen old).faults ≤ (sink_of seen new).faults
  pub count : new.count ≡ min (old.count + 1) (2 ^ 64 - 1)
  pub failed : new.failed ≡ old.failed
  pub same_reference : new.out.ghost_name ≡ old.out.ghost_name

-- the sink failed, and has some of the line
pub record IsCut {O : Type 0} (seen : O → Watched ℕ) (old : Printer O) (page : Page) (new : Printer O) : Type 0 where
  pub size : ℕ
  pub told : (sink_of seen new).told ≡ grown (sink_of seen old).told (take size (page_line page))
  pub faults : (sink_of seen old).faults ≤ (sink_of seen new).faults
  pub cause : Rose (sink_of seen old).faults (sink_of seen new).faults
  pub failed : new.failed ≡ true
  pub same_reference : new.out.ghost_name ≡ old.out.ghost_name

-- what a printer may do with a page
abbrev pub Prints : {O : Type 0} → (O → Watched ℕ) → Printer O → Page → (answer : Bool) → Printer O → Type 0
Prints seen old page true new = IsLine seen old page new
Prints seen old page false new = IsCut seen old page new

-- The sink grew by the text of these pages, of which the answer is the number; or, with a fault, by some first bytes of it.
abbrev pub IsPagesPrinted : List Page → (old new : Option (List ℕ)) → Result ℕ PagesFault → Type 0
IsPagesPrinted pages old new (Ok count) = (count ≡ length pages) × (new ≡ grown old (pages_text pages))
IsPagesPrinted pages old new (Err fault) = (size : ℕ) × (new ≡ grown old (take size (pages_text pages)))
