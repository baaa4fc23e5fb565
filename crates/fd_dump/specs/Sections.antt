-- The sections page by page, as they are made. No public clause cites these.
use Rattle.std.specs.Prelude.{◌≡◌, ℕ, ◌+◌, ◌*◌, ◌<◌, true, List, ◌++◌, get_or, slice_get, slice_range, Some}
use Rattle.std.specs.Int.{w64, to_le_bytes}
use Rattle.fd_image.specs.Image.{MachineImage}
use Rattle.fd_bitmap.specs.Pages.{page_of}
use Rattle.fd_bytes.specs.declared.arch.Arch.{Arch}
use Rattle.fd_pte.specs.Architecture.{directory_height_of}
use Rattle.fd_pte.specs.Entry.{bytes_under}
use Rattle.fd_walk.specs.Directory.{directory_bytes}
use Rattle.fd_dump.specs.Dumped.{tables_in}
use Rattle.fd_dump.specs.Minidump.{form_of}
use Rattle.fd_dump.specs.Plan.{Planned}

-- the page of an index among the pages of a list
abbrev pub nth_page : List ℕ → (index : ℕ) → List ℕ
nth_page bytes index = slice_range bytes (4096 * index) (4096 * index + 4096)

-- a pair of addresses as dump_avail has it, and that of an index, of which those past the end are zeros
abbrev pub pair_bytes : ℕ × ℕ → List ℕ
pair_bytes pair = to_le_bytes w64 pair.0 ++ to_le_bytes w64 pair.1

abbrev pub pair_at : List (ℕ × ℕ) → (index : ℕ) → List ℕ
pair_at pairs index = pair_bytes (get_or pairs index (0, 0))

-- how many bytes of addresses a page of the directory is for
abbrev pub page_span : Arch → ℕ
page_span arch = 512 * bytes_under (directory_height_of arch)

-- one page of the directory
abbrev pub directory_page_of : MachineImage → (index : ℕ) → List ℕ
directory_page_of m index = directory_bytes (tables_in m) (form_of m) (m.windows.kernbase + index * page_span m.arch) 512

-- so many bits are set, from this one on, and their pages follow one another from this address on
pub record IsRun (plan : Planned) (bit pa count : ℕ) : Type 0 where
  pub set : (i : ℕ) → i < count → slice_get plan.bits (bit + i) ≡ Some true
  pub placed : (i : ℕ) → i < count → page_of plan.pages (bit + i) ≡ Some (pa + 4096 * i)
