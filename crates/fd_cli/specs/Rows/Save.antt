-- `savecore [-f] [-k] [-m N]`: a partition's dump is saved to files, and then marked as saved.
use Rattle.std.specs.Prelude.{◌≡◌, ◌⊎◌, ℕ, ◌+◌, Bool, IsTrue, List, [], ◌++◌, slice_range, if◌then◌else◌, Some}
use Rattle.fd_site.specs.Begun.{IsBegun}
use Rattle.fd_site.specs.Contents.{Told, part_of}
use Rattle.fd_site.specs.Journal.{Entry}
use Rattle.fd_site.specs.Seen.{Seen}
use Rattle.fd_part.specs.Partition.{is_good}
use Rattle.fd_save.specs.Outcome as save
use Rattle.fd_save.specs.Saving.{IsSaveJournal, clearing, parity_of}
use Rattle.fd_save.specs.declared.saved.Options.{Options}
use Rattle.fd_save.specs.declared.saved.Saved.{Saved}
use Rattle.fd_cli.specs.Row.{Added, Row, Work, nothing, only}
use Rattle.fd_cli.specs.Rows.Clear.{IsRefused}
use Rattle.fd_cli.specs.Rows.Common.{AddsNothing, OnGood, Refuses, SaysNothing, the_site}
use Rattle.fd_cli.specs.declared.answer.Answer.TheVariants as answer
use Rattle.fd_cli.specs.declared.refusal.Refusal.TheVariants.{NoNumber}

-- of clearing a dump, unless it is kept
abbrev pub clearing_unless : (keep : Bool) → (size block : ℕ) → (sector : List ℕ) → List Entry
clearing_unless keep size block sector = if keep then [] else clearing size block sector

-- what saving a dump adds: the journal of the save, and then, unless the dump is kept, of clearing it
pub record IsSavecore (keep : Bool) (size block : ℕ) (body : List ℕ) (saved : Saved) (entries : List Entry) : Type 0 where
  pub saving : List Entry
  pub is_save : IsSaveJournal body saved.header (parity_of saved.sector) saved.number saving
  pub is : entries ≡ saving ++ clearing_unless keep size block saved.sector

-- the dump that judging finds, its bytes, and the number that it gets
pub record IsToSave (options : Options) (found : Seen) (saved : Saved) (body : List ℕ) : Type 0 where
  pub finds : save.Finds options.force found saved.header saved.at saved.sector
  pub number : save.Numbers options.max found (Some saved.number)
  pub bytes : Told found.told (λ c. body ≡ slice_range (part_of c) saved.at (saved.at + saved.header.dumplength))

-- it was saved
pub record Saves (options : Options) (keep : Bool) (found : Seen) (w : Work) : Type 0 where
  pub saved : Saved
  pub body : List ℕ
  pub to_save : IsToSave options found saved body
  pub answer : w.answer ≡ answer.Saved saved.number saved.header.dumplength
  pub entries : IsSavecore keep found.size found.block body saved w.added.entries
  pub alone : w.added ≡ only w.added.entries

-- saving it was begun
pub record HasBegunToSave (options : Options) (keep : Bool) (found : Seen) (added : Added) : Type 0 where
  pub good : IsTrue (is_good found.size found.block)
  pub saved : Saved
  pub body : List ℕ
  pub to_save : IsToSave options found saved body
  pub planned : List Entry
  pub is_planned : IsSavecore keep found.size found.block body saved planned
  pub begun : IsBegun planned added.entries
  pub alone : added ≡ only added.entries

-- a dump is there, and no number for it
pub record IsUnnumbered (options : Options) (found : Seen) (w : Work) : Type 0 where
  pub none : save.HasNoNumber options found
  pub refuses : Refuses NoNumber w

-- what is done over a good partition
abbrev pub SavesJudged : Options → (keep : Bool) → Seen → Work → Type 0
SavesJudged options keep found w = IsRefused options.force found w ⊎ (IsUnnumbered options found w ⊎ Saves options keep found w)

-- nothing was added, or saving was begun
abbrev pub MayHaveBegunToSave : Options → (keep : Bool) → Seen → Added → Type 0
MayHaveBegunToSave options keep found added = (added ≡ nothing) ⊎ HasBegunToSave options keep found added

-- the row over a partition that is known to be good
abbrev pub judged_save_row : Options → (keep : Bool) → Row
judged_save_row options keep = record {
  Does = SavesJudged options keep;
  Leaves = MayHaveBegunToSave options keep;
  Starves = AddsNothing;
  Says = SaysNothing;
  blames = the_site;
}

abbrev pub save_row : Options → (keep : Bool) → Row
save_row options keep = record {
  Does = λ found w. OnGood found (SavesJudged options keep found) w;
  Leaves = MayHaveBegunToSave options keep;
  Starves = AddsNothing;
  Says = SaysNothing;
  blames = the_site;
}
