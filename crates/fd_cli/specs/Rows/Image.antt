-- `image ARCH NUMBER FILE`: the image that is made of a number is written to a file.
use Rattle.std.specs.Prelude.{◌≡◌, ◌⊎◌, ℕ, List, length}
use Rattle.fd_bytes.specs.declared.arch.Arch.{Arch}
use Rattle.fd_site.specs.FileJournal.{IsBegunFile, IsFileJournal}
use Rattle.fd_imgfile.specs.Spelling.{spelling_of}
use Rattle.fd_gen.specs.Generated.{generated}
use Rattle.fd_cli.specs.Row.{Added, Row, Work, nothing, only}
use Rattle.fd_cli.specs.Rows.Common.{AddsNothing, SaysNothing, the_site}
use Rattle.fd_cli.specs.declared.answer.Answer.TheVariants.{Made}

-- the file of the image that is made
abbrev pub made_file : Arch → ℕ → List ℕ
made_file arch number = spelling_of (generated arch number)

-- the whole file was written
pub record Writes (arch : Arch) (number : ℕ) (file : List ℕ) (w : Work) : Type 0 where
  pub answer : w.answer ≡ Made file (length (made_file arch number))
  pub is_file : IsFileJournal file (made_file arch number) w.added.entries
  pub alone : w.added ≡ only w.added.entries

-- writing it was begun
pub record HasBegunFile (arch : Arch) (number : ℕ) (file : List ℕ) (added : Added) : Type 0 where
  pub begun : IsBegunFile file (made_file arch number) added.entries
  pub alone : added ≡ only added.entries

abbrev pub image_row : Arch → (number : ℕ) → (file : List ℕ) → Row
image_row arch number file = record {
  Does = λ found w. Writes arch number file w;
  Leaves = λ found added. (added ≡ nothing) ⊎ HasBegunFile arch number file added;
  Starves = AddsNothing;
  Says = SaysNothing;
  blames = the_site;
}
