-- What a site holds, where it tells that.
use Rattle.std.specs.Prelude.{◌≡◌, ◌⊎◌, ℕ, ◌+◌, ◌*◌, ◌%◌, ◌<◌, ◌≤◌, Bool, List, [], ◌∷◌, ◌++◌, length, take, Option, Some, None}
use Rattle.fd_site.specs.Journal.{Entry, Part, Spoiled, all_kept, part_after, file_after}

-- the partition's bytes and the files that were there when the site was made, and its journal since
pub record Contents : Type 0 where
  pub base_part : List ℕ
  pub base_file : List ℕ → Option (List ℕ)
  pub journal : List Entry

-- the partition as it is
abbrev pub part_of : Contents → List ℕ
part_of c = part_after c.base_part c.journal

-- the file of this name as it is
abbrev pub file_of : Contents → List ℕ → Option (List ℕ)
file_of c q = file_after q (c.base_file q) c.journal

-- where contents are told, P holds of them
abbrev pub Told : Option Contents → (Contents → Type 0) → Type 0
Told told P = (c : Contents) → told ≡ Some c → P c

-- what is told with these entries at the journal's end
abbrev pub with_entries : Option Contents → List Entry → Option Contents
with_entries None es = None
with_entries (Some c) es = Some (record c { journal = c.journal ++ es })

-- a range of whole sectors of a partition, not empty
pub record IsSectors (at count size : ℕ) : Type 0 where
  pub start : at % 512 ≡ 0
  pub whole : count % 512 ≡ 0
  pub some : 0 < count
  pub inside : at + count ≤ size

-- a write that kept every sector
abbrev pub whole_part : ℕ → List ℕ → Entry
whole_part at bytes = Part at bytes (all_kept bytes)

-- what a failed write of these bytes may add: nothing, or a write of some of the first sectors, any of them kept
abbrev pub IsFailedPart : ℕ → List ℕ → List Entry → Type 0
IsFailedPart at bytes added =
    (added ≡ []) ⊎ ((kept : List Bool) × (length kept * 512 ≤ length bytes) × (added ≡ Part at (take (length kept * 512) bytes) kept ∷ []))

-- what a failed call on a file may add: nothing, or what the file then is
abbrev pub IsFailedFile : List ℕ → List Entry → Type 0
IsFailedFile name added = (added ≡ []) ⊎ ((now : Option (List ℕ)) × (added ≡ Spoiled name now ∷ []))

-- what is told grew by some entries of which P holds
abbrev pub Adds : (List Entry → Type 0) → Option Contents → Option Contents → Type 0
Adds P old new = (added : List Entry) × P added × (new ≡ with_entries old added)

-- what a site that tells nothing would tell meets anything
pub nothing_told : {P : Type 0} (c : Contents) → None ≡ Some c → P
nothing_told c is = absurd (is_some_of is)
  where
    is_none : Option Contents → Type 0
    is_none None = Unit {0}
    is_none (Some c) = ⊥

    is_some_of : None ≡ Some c → ⊥
    is_some_of e = Prim.cc
