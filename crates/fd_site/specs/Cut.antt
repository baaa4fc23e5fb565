-- What a machine that stops leaves of a site: the entries before one are done, and of that one, where it is a
-- write to the partition, any of the sectors that it kept. Sectors of 512 bytes are atomic.
use Rattle.std.specs.Prelude.{◌≡◌, ℕ, ◌≤◌, zero, suc, Bool, true, false, ◌&&◌, not, IsTrue, List, [], ◌∷◌, length, take, drop, Option, Some}
use Rattle.fd_site.specs.Journal.{Entry, Part, Create, Write, Sync, Spoiled, written, part_step, file_after, is_on, stable_after}
use Rattle.fd_site.specs.Contents.{Contents}

-- the sectors that are in both lists
abbrev pub both : List Bool → List Bool → List Bool
both [] these = []
both (k ∷ ks) [] = []
both (k ∷ ks) (s ∷ these) = (k && s) ∷ both ks these

-- the partition after these sectors of an entry alone
abbrev pub part_torn : List ℕ → Entry → List Bool → List ℕ
part_torn part (Part at bytes kept) these = written part at bytes (both kept these)
part_torn part (Create name) these = part
part_torn part (Write name at bytes) these = part
part_torn part (Sync name) these = part
part_torn part (Spoiled name now) these = part

-- the partition after a cut: k entries are done, and these sectors of the next one
abbrev pub part_cut : List ℕ → List Entry → ℕ → List Bool → List ℕ
part_cut part [] k these = part
part_cut part (e ∷ es) zero these = part_torn part e these
part_cut part (e ∷ es) (suc k) these = part_cut (part_step part e) es k these

-- whether the first of these entries is on the file of this name
abbrev pub is_on_first : List ℕ → List Entry → Bool
is_on_first q [] = false
is_on_first q (e ∷ es) = is_on q e

-- whether the file of this name is stable in a cut after k entries
abbrev pub stable_at : List ℕ → List Entry → ℕ → Bool
stable_at q journal k = stable_after q true (take k journal) && not (is_on_first q (drop k journal))

-- a directory, as each name's file, after a cut: a stable file is as it was, of any other it may hold any
-- bytes, or no file
abbrev pub IsCutDirectory : Contents → ℕ → (List ℕ → Option (List ℕ)) → Type 0
IsCutDirectory c k files =
    (q : List ℕ) → IsTrue (stable_at q c.journal k) → files q ≡ file_after q (c.base_file q) (take k c.journal)

-- what stands on disk: the partition's bytes, and each name's file
pub record Disk : Type 0 where
  pub part : List ℕ
  pub files : List ℕ → Option (List ℕ)

-- what a machine may leave that stops after the first k entries of a journal, with these sectors of the next one
pub record IsCut (c : Contents) (k : ℕ) (these : List Bool) (disk : Disk) : Type 0 where
  pub partition : disk.part ≡ part_cut c.base_part c.journal k these
  pub directory : IsCutDirectory c k disk.files

-- P of what a site told before a call, and of each disk that a machine may leave that stops in the call
abbrev pub EachCutOf : (old new : Option Contents) → (Contents → Disk → Type 0) → Type 0
EachCutOf old new P =
    (was now : Contents) → old ≡ Some was → new ≡ Some now
    → (k : ℕ) (these : List Bool) (disk : Disk) → length was.journal ≤ k → IsCut now k these disk → P was disk
