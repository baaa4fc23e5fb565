-- What the parts of opening need and answer, by the file's bytes. No public clause cites these.
use Rattle.std.specs.Prelude.{◌≡◌, ◌^◌, ◌<◌, ◌≤◌, ℕ, List, length, Option, Some, None, IsSomeAnd, option_map, Result, Ok, Err}
use Rattle.std.specs.List.{All}
use Rattle.fd_mini.specs.declared.header.MiniHeader.{MiniHeader}
use Rattle.fd_vmcore.specs.Ranges.{pages_in}
use Rattle.fd_vmcore.specs.Sections.{bad_range}
use Rattle.fd_vmcore.specs.declared.open.OpenFault.{OpenFault}
use Rattle.fd_vmcore.specs.declared.open.OpenFault.TheVariants.{BadAvail, SiteFault, NoMemory}

-- there is a file, of this length
abbrev pub HasLength : Option (List ℕ) → ℕ → Type 0
HasLength file len = Some len ≡ option_map (λ f. length f) file

-- there is a file, of at least so many bytes
abbrev pub HasRoom : Option (List ℕ) → ℕ → Type 0
HasRoom file need = IsSomeAnd file (λ f. need ≤ length f)

-- P holds of what was read, unless the site failed or no memory was left
abbrev pub IsReadAs : {A : Type 0} → (A → Type 0) → Result A OpenFault → Type 0
IsReadAs P (Ok part) = P part
IsReadAs P (Err SiteFault) = Unit {0}
IsReadAs P (Err NoMemory) = Unit {0}
IsReadAs P (Err fault) = ⊥

-- the pages of the ranges, or the first bad range
abbrev pub AreRanges : List ℕ → MiniHeader → Result (List ℕ) OpenFault → Type 0
AreRanges f h (Ok pages) = (bad_range f h ≡ None) × (pages ≡ pages_in f h)
AreRanges f h (Err (BadAvail index)) = bad_range f h ≡ Some index
AreRanges f h (Err SiteFault) = Unit {0}
AreRanges f h (Err NoMemory) = Unit {0}
AreRanges f h (Err fault) = ⊥

-- the pairs end below 2^64
abbrev pub EndBelow : List (ℕ × ℕ) → Type 0
EndBelow pairs = All (λ pair. pair.1 < 2 ^ 64) pairs
