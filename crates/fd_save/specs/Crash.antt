-- What a machine leaves that stops while a dump is saved and cleared.
use Rattle.std.specs.Prelude.{◌≡◌, ◌⊎◌, ℕ, ◌+◌, true, IsTrue, List, ◌++◌, length, take, drop, Option, Some, None}
use Rattle.fd_site.specs.Contents.{Contents, file_of, part_of}
use Rattle.fd_site.specs.Cut.{Disk}
use Rattle.fd_site.specs.Journal.{stable_after}
use Rattle.fd_kdh.specs.Header.{cleared_magic}
use Rattle.fd_kdh.specs.declared.header.Header.{Header}
use Rattle.fd_info.specs.Bounds.{bounds_text}
use Rattle.fd_info.specs.Info.{info_text}
use Rattle.fd_info.specs.Name.{bounds_name, info_name, vmcore_name}
use Rattle.fd_part.specs.Partition.{trailing_place}
use Rattle.fd_save.specs.Saving.{device_name}

-- a partition whose trailing block begins with the cleared magic, and that is else as it was
abbrev pub cleared_part : List ℕ → (block : ℕ) → List ℕ
cleared_part part block =
    take (trailing_place (length part) block) part ++ (cleared_magic ++ drop (trailing_place (length part) block + 20) part)

-- the dump stands in its files
pub record IsSavedOn (disk : Disk) (number : ℕ) (body : List ℕ) (h : Header) (parity : ℕ) : Type 0 where
  pub vmcore : disk.files (vmcore_name number) ≡ Some body
  pub info : disk.files (info_name number) ≡ Some (info_text h device_name parity number)
  pub bounds : disk.files bounds_name ≡ Some (bounds_text (number + 1))

-- a dump's file, or what is known of one
abbrev pub IsSavedName : List ℕ → Type 0
IsSavedName name = (number : ℕ) × ((name ≡ vmcore_name number) ⊎ (name ≡ info_name number))

-- either the partition is as it was, or it is cleared, and the dump stands in its files; and without a maximum each file
-- of a dump that was there and stable is as it was
pub record IsSafe (max : Option ℕ) (block number : ℕ) (body : List ℕ) (h : Header) (parity : ℕ) (was : Contents) (disk : Disk) : Type 0 where
  pub dump : (disk.part ≡ part_of was) ⊎ ((disk.part ≡ cleared_part (part_of was) block) × IsSavedOn disk number body h parity)
  pub others : (name file : List ℕ) → max ≡ None → IsSavedName name → file_of was name ≡ Some file → IsTrue (stable_after name true was.journal)
      → disk.files name ≡ Some file
