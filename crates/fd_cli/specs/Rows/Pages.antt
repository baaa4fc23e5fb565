-- `pages FILE`: the dumped pages of a saved minidump, in the order of a walk.
use Rattle.std.specs.Prelude.{◌≡◌, ◌⊎◌, ℕ, List, [], take, Option, Some, None, Result, Ok, Err}
use Rattle.fd_site.specs.Contents.{Contents, Told, file_of}
use Rattle.fd_vmcore.specs.declared.open.OpenFault.{OpenFault}
use Rattle.fd_vmcore.specs.declared.open.OpenFault.TheVariants as vmcore
use Rattle.fd_kvm.specs.Walk.{walk_in}
use Rattle.fd_kvm.specs.declared.page.Page.{Page}
use Rattle.fd_way.specs.PagesText.{pages_text}
use Rattle.fd_way.specs.declared.pages.PagesFault.{PagesFault}
use Rattle.fd_way.specs.declared.pages.PagesFault.TheVariants as print
use Rattle.fd_cli.specs.Row.{Row}
use Rattle.fd_cli.specs.Rows.Common.{AddsNothing, Answers, the_site}
use Rattle.fd_cli.specs.Rows.Read.{RefusesFor}
use Rattle.fd_cli.specs.declared.answer.Answer.{Answer}
use Rattle.fd_cli.specs.declared.answer.Answer.TheVariants.{Printed}

-- the walk of a file, if there is the file
abbrev pub file_walk : Option (List ℕ) → Result (List Page) OpenFault
file_walk None = Err vmcore.NoFile
file_walk (Some f) = walk_in f

-- what the file of this name gives, where files are told
abbrev pub IsWalkOf : Option Contents → (name : List ℕ) → Result (List Page) OpenFault → Type 0
IsWalkOf told name given = Told told (λ c. given ≡ file_walk (file_of c name))

-- a line for each page, and how many they are
abbrev pub pages_answer : List Page → Answer
pages_answer pages = Printed 0 (pages_text pages)

-- the answer, by what the file gives
abbrev pub IsAnswerToWalk : Result (List Page) OpenFault → Answer → Type 0
IsAnswerToWalk (Ok pages) answer = answer ≡ pages_answer pages
IsAnswerToWalk (Err fault) answer = RefusesFor fault answer

-- the answer over what the site tells
abbrev pub IsPagesAnswer : Option Contents → (name : List ℕ) → Answer → Type 0
IsPagesAnswer told name answer = (given : Result (List Page) OpenFault) × IsWalkOf told name given × IsAnswerToWalk given answer

-- some of the first bytes of the text of the file's walk
abbrev pub SaysFirst : Option Contents → (name early : List ℕ) → Type 0
SaysFirst told name early = (pages : List Page) × IsWalkOf told name (Ok pages) × ((size : ℕ) × (early ≡ take size (pages_text pages)))

-- the status that follows a walk, by how it was printed
abbrev pub pages_status : Result ℕ PagesFault → ℕ
pages_status (Ok count) = 0
pages_status (Err print.SiteFault) = 74
pages_status (Err print.SinkFault) = 74

abbrev pub pages_row : (name : List ℕ) → Row
pages_row name = record {
  Does = λ found w. IsPagesAnswer found.told name w.answer × Answers w.answer w;
  Leaves = AddsNothing;
  Starves = AddsNothing;
  Says = λ found added early. (early ≡ []) ⊎ SaysFirst found.told name early;
  blames = the_site;
}
