-- What was asked of a site, in order, and what that makes of its partition and its files.
use Rattle.std.specs.Prelude.{ℕ, ◌+◌, ◌-◌, ◌/◌, Bool, true, false, List, [], ◌∷◌, ◌++◌, length, take, drop, replicate, if◌then◌else◌, Option, Some}
use Rattle.std.specs.Option.{option_map}
use Rattle.std.specs.Str.{bytes_eq}

-- One entry. A write to the partition keeps a list of sectors: one truth value for each 512 bytes of its
-- range, from the first on, true where the sector became new; what lies past a short list stayed old.
pub data Entry : Type 0 where
  Part : (at : ℕ) (bytes : List ℕ) (kept : List Bool) → Entry
  Create : (name : List ℕ) → Entry
  Write : (name : List ℕ) (at : ℕ) (bytes : List ℕ) → Entry
  Sync : (name : List ℕ) → Entry
  Spoiled : (name : List ℕ) (now : Option (List ℕ)) → Entry

-- writes of these pieces, each behind the one before; an entry says what a write of a piece at a place is
abbrev pub in_pieces : (ℕ → List ℕ → Entry) → ℕ → List (List ℕ) → List Entry
in_pieces entry at [] = []
in_pieces entry at (piece ∷ pieces) = entry at piece ∷ in_pieces entry (at + length piece) pieces

-- whole sectors of new bytes, sector by sector the new one where it was kept, else the old one
abbrev pub merged : List Bool → List ℕ → List ℕ → List ℕ
merged kept [] old = []
merged [] (b ∷ bs) old = take (length (b ∷ bs)) old
merged (k ∷ ks) (b ∷ bs) old = take 512 (if k then b ∷ bs else old) ++ merged ks (drop 512 (b ∷ bs)) (drop 512 old)

-- every sector of these bytes
abbrev pub all_kept : List ℕ → List Bool
all_kept bytes = replicate (length bytes / 512) true

-- the partition after a write at a place, of which these sectors were kept
abbrev pub written : List ℕ → ℕ → List ℕ → List Bool → List ℕ
written part at bytes kept = take at part ++ (merged kept bytes (drop at part) ++ drop (length bytes) (drop at part))

-- the partition after an entry
abbrev pub part_step : List ℕ → Entry → List ℕ
part_step part (Part at bytes kept) = written part at bytes kept
part_step part (Create name) = part
part_step part (Write name at bytes) = part
part_step part (Sync name) = part
part_step part (Spoiled name now) = part

-- the partition after a journal
abbrev pub part_after : List ℕ → List Entry → List ℕ
part_after part [] = part
part_after part (e ∷ es) = part_after (part_step part e) es

-- a file's bytes after a write at a place; a gap before it is filled with zeros
abbrev pub file_written : List ℕ → ℕ → List ℕ → List ℕ
file_written file at bytes = (take at file ++ replicate (at - length file) 0) ++ (bytes ++ drop (at + length bytes) file)

-- whether an entry is on the file of this name
abbrev pub is_on : List ℕ → Entry → Bool
is_on q (Part at bytes kept) = false
is_on q (Create name) = bytes_eq q name
is_on q (Write name at bytes) = bytes_eq q name
is_on q (Sync name) = bytes_eq q name
is_on q (Spoiled name now) = bytes_eq q name

-- a file's bytes, or no file, after an entry on it
abbrev pub file_after_own : Option (List ℕ) → Entry → Option (List ℕ)
file_after_own was (Part at bytes kept) = was
file_after_own was (Create name) = Some []
file_after_own was (Write name at bytes) = option_map (λ file. file_written file at bytes) was
file_after_own was (Sync name) = was
file_after_own was (Spoiled name now) = now

-- the file of this name after an entry
abbrev pub file_step : List ℕ → Option (List ℕ) → Entry → Option (List ℕ)
file_step q was e = if is_on q e then file_after_own was e else was

-- the file of this name after a journal
abbrev pub file_after : List ℕ → Option (List ℕ) → List Entry → Option (List ℕ)
file_after q was [] = was
file_after q was (e ∷ es) = file_after q (file_step q was e) es

-- whether an entry is a sync
abbrev pub is_sync : Entry → Bool
is_sync (Part at bytes kept) = false
is_sync (Create name) = false
is_sync (Write name at bytes) = false
is_sync (Sync name) = true
is_sync (Spoiled name now) = false

-- Whether the file of this name is stable after a journal: the last entry on it is a sync. Where no entry is
-- on it, it is as stable as it was before.
abbrev pub stable_after : List ℕ → Bool → List Entry → Bool
stable_after q was [] = was
stable_after q was (e ∷ es) = stable_after q (if is_on q e then is_sync e else was) es

-- a sector that became new: its place and its 512 bytes
pub record Sector : Type 0 where
  pub at : ℕ
  pub bytes : List ℕ

-- the kept sectors of one write
abbrev pub sectors_of_write : ℕ → List ℕ → List Bool → List Sector
sectors_of_write at bytes [] = []
sectors_of_write at bytes (k ∷ ks) =
    (if k then record { at = at; bytes = take 512 bytes } ∷ [] else []) ++ sectors_of_write (at + 512) (drop 512 bytes) ks

-- the kept sectors of an entry
abbrev pub sectors_of : Entry → List Sector
sectors_of (Part at bytes kept) = sectors_of_write at bytes kept
sectors_of (Create name) = []
sectors_of (Write name at bytes) = []
sectors_of (Sync name) = []
sectors_of (Spoiled name now) = []

-- the kept sectors of a journal, in order
abbrev pub kept_sectors : List Entry → List Sector
kept_sectors [] = []
kept_sectors (e ∷ es) = sectors_of e ++ kept_sectors es
