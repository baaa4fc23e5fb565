-- A reader of a vmcore, and what its reads answer.
use Rattle.std.specs.Prelude.{◌≡◌, ℕ, List, ◌++◌, length, drop, Some, None, IsSomeAnd, Result, Ok, Err}
use Rattle.fd_site.specs.Contents.{Contents, file_of}
use Rattle.fd_cache.specs.Pages.{HoldsPagesOf}
use Rattle.fd_mini.specs.Kernel.{KernelBytes}
use Rattle.fd_vmcore.specs.Sections.{Sections, opened}
use Rattle.fd_vmcore.specs.declared.open.OpenFault.{OpenFault}
use Rattle.fd_kvm.specs.declared.fault.ReadFault.{ReadFault}
use Rattle.fd_kvm.specs.declared.fault.ReadFault.TheVariants.{Address, SiteFault}

-- a file's name, its sections, and those of its pages that are kept, by their places in it
pub record Reader : Type 0 where
  pub name : List ℕ
  pub sections : Sections
  pub pages : List (ℕ × List ℕ)

-- a file that opens as these sections, and of which these are pages
pub record IsFileOf (s : Sections) (pages : List (ℕ × List ℕ)) (f : List ℕ) : Type 0 where
  pub opens : opened f ≡ Ok s
  pub holds : HoldsPagesOf pages f

-- a reader stands for the file of its name: opening that gives its sections, and each page that it keeps is the file's
abbrev pub StandsFor : Reader → Contents → Type 0
StandsFor reader c = IsSomeAnd (file_of c reader.name) (IsFileOf reader.sections reader.pages)

-- the sections of an opened reader
abbrev pub sections_of : Result Reader OpenFault → Result Sections OpenFault
sections_of (Ok reader) = Ok reader.sections
sections_of (Err fault) = Err fault

-- What a read may answer, and what its buffer then holds, by what the addresses give: all the bytes, or those before
-- the first address that has none, and the rest of the buffer as it was. A fault of the site says nothing.
abbrev pub IsRead : KernelBytes → (old new : List ℕ) → Result (Unit {0}) ReadFault → Type 0
IsRead given old new (Ok done) = (given.fault ≡ None) × (new ≡ given.bytes)
IsRead given old new (Err (Address fault)) = (given.fault ≡ Some fault) × (new ≡ given.bytes ++ drop (length given.bytes) old)
IsRead given old new (Err SiteFault) = Unit {0}
