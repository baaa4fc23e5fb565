-- What stands after a call of `dump` or `savecore`, whole or cut by a machine that stops.
use Rattle.std.specs.Prelude.{◌≡◌, ◌⊎◌, ℕ, ◌+◌, true, false, IsTrue, All, List, Option, Some, slice_range}
use Rattle.fd_site.specs.Contents.{Contents, file_of, part_of, with_entries}
use Rattle.fd_site.specs.Cut.{Disk}
use Rattle.fd_site.specs.Journal.{Entry, is_on, stable_after}
use Rattle.fd_image.specs.Image.{MachineImage}
use Rattle.fd_dump.specs.Header.{header_of}
use Rattle.fd_dump.specs.Minidump.{minidump_of}
use Rattle.fd_part.specs.Partition.{IsClear}
use Rattle.fd_kdh.specs.declared.header.Header.{Header}
use Rattle.fd_judge.specs.Crash.{IsRefused, IsThisDump}
use Rattle.fd_judge.specs.Verdict.{judged}
use Rattle.fd_judge.specs.declared.verdict.Verdict.TheVariants as verdict
use Rattle.fd_save.specs.Crash.{IsSafe, IsSavedName}
use Rattle.fd_save.specs.Number.{IsNumberOf}
use Rattle.fd_save.specs.Saving.{parity_of}
use Rattle.fd_save.specs.declared.saved.Options.{Options}
use Rattle.fd_cli.specs.Rows.Dump.{Names}
use Rattle.fd_words.specs.declared.source.Source.{Source}

-- a partition is refused, or is judged a dump of the image that its source named: its header and its minidump
abbrev pub IsRefusedOrNamed : Contents → Source → (block : ℕ) → List ℕ → Type 0
IsRefusedOrNamed c source block part =
    IsRefused block part ⊎ ((m : MachineImage) × Names c source m × IsThisDump (minidump_of m) (header_of m block) block part)

-- over a partition that was clear, a cut of a dump is refused, or is a dump of the image
abbrev pub IsCutOfDump : Source → (block : ℕ) → Contents → Disk → Type 0
IsCutOfDump source block was disk = IsClear (part_of was) block → IsRefusedOrNamed was source block disk.part

-- over any partition, a cut of a dump that marks first is as it was, or refused, or a dump of the image
abbrev pub IsCutOfMarkedDump : Source → (block : ℕ) → Contents → Disk → Type 0
IsCutOfMarkedDump source block was disk = (disk.part ≡ part_of was) ⊎ IsRefusedOrNamed was source block disk.part

-- judging finds the dump of the image that its source named
abbrev pub IsFound : (old new : Option Contents) → Source → (block : ℕ) → Type 0
IsFound old new source block =
    (was now : Contents) → old ≡ Some was → new ≡ Some now
    → (m : MachineImage) × Names was source m × IsThisDump (minidump_of m) (header_of m block) block (part_of now)

-- nothing that was stable is another
pub record IsAsItWas (was : Contents) (disk : Disk) : Type 0 where
  pub part : disk.part ≡ part_of was
  pub files : (name file : List ℕ) → file_of was name ≡ Some file → IsTrue (stable_after name true was.journal) → disk.files name ≡ Some file

-- The dump that judging found stands: on the partition, which is as it was; or in its files, and the partition differs in
-- the cleared magic alone. Without a maximum the files of other dumps stand too.
pub record HoldsDump (options : Options) (block : ℕ) (was : Contents) (disk : Disk) : Type 0 where
  pub header : Header
  pub at : ℕ
  pub sector : List ℕ
  pub number : ℕ
  pub found : judged (part_of was) block options.force ≡ verdict.Dump header at sector
  pub free : IsNumberOf (file_of was) options.max (Some number)
  pub safe : IsSafe options.max block number (slice_range (part_of was) at (at + header.dumplength)) header (parity_of sector) was disk

-- each cut of a `savecore` that saves
abbrev pub IsCutOfSavecore : Options → (block : ℕ) → Contents → Disk → Type 0
IsCutOfSavecore options block was disk = IsAsItWas was disk ⊎ HoldsDump options block was disk

-- what was added has no entry on a file of a saved dump that was there
pub record LeavesSavedFiles (old new : Option Contents) : Type 0 where
  pub added : List Entry
  pub told : new ≡ with_entries old added
  pub others : (was : Contents) (name file : List ℕ) → old ≡ Some was → IsSavedName name → file_of was name ≡ Some file
      → All (λ e. is_on name e ≡ false) added
