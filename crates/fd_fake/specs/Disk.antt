-- A disk in memory.
use Rattle.std.specs.Prelude.{◌≡◌, ℕ, List, [], ◌∷◌, ◌++◌, length, Option, None, Some}
use Rattle.std.proofs.Common.{sym, ap}
use Rattle.fd_site.specs.Contents.{Contents, part_of, file_of}
use Rattle.fd_site.specs.Journal.{Entry, part_after, file_after}
use Rattle.fd_fake.specs.Directory.{Files, content, file_in}

-- a partition and the files of a directory, each with its name, as they were when they were made, and what was
-- asked of them since
pub record DiskInMemory : Type 0 where
  pub base_part : List ℕ
  pub base_files : List (List ℕ × List ℕ)
  pub journal : List Entry

-- what a site over it tells
abbrev pub contents_of : DiskInMemory → Contents
contents_of d = record { base_part = d.base_part; base_file = file_in d.base_files; journal = d.journal }

-- the partition as it is
abbrev pub part_now : DiskInMemory → List ℕ
part_now d = part_of (contents_of d)

-- the file of this name as it is
abbrev pub file_now : DiskInMemory → List ℕ → Option (List ℕ)
file_now d q = file_of (contents_of d) q

-- with one entry more
abbrev pub with_entry : DiskInMemory → Entry → DiskInMemory
with_entry d e = record d { journal = d.journal ++ e ∷ [] }

-- the partition and the files that the code keeps are what the journal makes of those that were there at first
pub record IsCurrent (base_part part : List ℕ) (base_files files : Files) (journal : List Entry) : Type 0 where
  pub part_is : part ≡ part_after base_part journal
  pub files_are : (q : List ℕ) → content files q ≡ file_after q (content base_files q) journal

-- what is told has the partition's size
pub size_of_told : (d : DiskInMemory) (c : Contents) → Some (contents_of d) ≡ Some c → length (part_of c) ≡ length (part_now d)
size_of_told d c is = sym (ap (λ told. length (part_told told)) is)
  where
    part_told : Option Contents → List ℕ
    part_told None = []
    part_told (Some c) = part_of c
