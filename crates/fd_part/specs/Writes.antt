-- How far planned writes to a partition came.
use Rattle.std.specs.Prelude.{◌≡◌, ℕ, ◌<◌, List, [], ◌∷◌, length, take, Option}
use Rattle.std.specs.List.{concat}
use Rattle.fd_site.specs.Begun.{IsBegun}
use Rattle.fd_site.specs.Journal.{Entry, kept_sectors}
use Rattle.fd_site.specs.Contents.{Contents, whole_part, with_entries}
use Rattle.fd_part.specs.Dump.{AllSectors, writes_from}

-- one write of these bytes
abbrev pub IsWriteOf : ℕ → List ℕ → List Entry → Type 0
IsWriteOf at bytes writes = writes ≡ whole_part at bytes ∷ []

-- writes of these bytes from a place on, in pieces of whole sectors
pub record IsWritesOf (at : ℕ) (bytes : List ℕ) (writes : List Entry) : Type 0 where
  pub pieces : List (List ℕ)
  pub sectors : AllSectors pieces
  pub joined : concat pieces ≡ bytes
  pub is : writes ≡ writes_from at pieces

-- the first of some planned writes were added, and what failing the next may add
pub record Begins (IsPlanned : List Entry → Type 0) (old new : Option Contents) : Type 0 where
  pub planned : List Entry
  pub is_planned : IsPlanned planned
  pub added : List Entry
  pub begun : IsBegun planned added
  pub told : new ≡ with_entries old added

-- the first n sectors of some planned writes were written, and those aren't all
pub record Stops (IsPlanned : List Entry → Type 0) (n : ℕ) (old new : Option Contents) : Type 0 where
  pub begins : Begins IsPlanned old new
  pub sectors : kept_sectors begins.added ≡ take n (kept_sectors begins.planned)
  pub short : n < length (kept_sectors begins.planned)
