-- The dumped pages of a machine image, in the order in which a reader of its minidump walks them: those that the page tables map
-- in the kernel window, by rising address, and then the others, by rising bit.
use Rattle.std.specs.Prelude.{ℕ, ◌+◌, ◌*◌, ◌/◌, not, if◌then◌else◌, List, ◌++◌, filter, length, take, get_or, Option, Some, None, Result, Ok, Err}
use Rattle.std.specs.List.{filter_map, range_with_len}
use Rattle.fd_bytes.specs.declared.arch.Arch.{Arch}
use Rattle.fd_image.specs.Image.{MachineImage}
use Rattle.fd_image.specs.Physical.{page_start}
use Rattle.fd_walk.specs.Leaf.{MappedBy, leaf_at}
use Rattle.fd_bitmap.specs.Bits.{set_count}
use Rattle.fd_bitmap.specs.Pages.{bit_of, pages_of}
use Rattle.fd_mini.specs.Places.{places_of}
use Rattle.fd_mini.specs.declared.address_fault.AddressFault.{AddressFault}
use Rattle.fd_dump.specs.Dumped.{tables_in, is_dumped, pages_with_bits, dumped_bits}
use Rattle.fd_dump.specs.Minidump.{mini_header_of}
use Rattle.fd_dump.specs.Translation.{by_tables}
use Rattle.fd_kvm.specs.Walk.{has_page, page_at, protection_of}
use Rattle.fd_kvm.specs.declared.page.Page.{Page}

-- where the minidump has the page of a bit: behind the dumped pages of lower bits
abbrev pub place_in_dump : MachineImage → (bit : ℕ) → ℕ
place_in_dump m bit = (places_of (mini_header_of m)).pages + 4096 * set_count (take bit (dumped_bits m))

-- the page at an address, by its bit, if it has one and is dumped
abbrev pub page_with_bit : MachineImage → (kva : Option ℕ) → (prot page : ℕ) → (bit : Option ℕ) → Option Page
page_with_bit m kva prot page None = None
page_with_bit m kva prot page (Some bit) = if is_dumped m page then Some (page_at (mini_header_of m) page kva prot (place_in_dump m bit)) else None

-- the accesses that a leaf allows
abbrev pub leaf_protection : Arch → Option MappedBy → ℕ
leaf_protection arch None = 0
leaf_protection arch (Some leaf) = protection_of arch leaf.bits

-- the page that the page tables map an address to, if it is dumped
abbrev pub page_of_translation : MachineImage → (va : ℕ) → Result ℕ AddressFault → Option Page
page_of_translation m va (Err fault) = None
page_of_translation m va (Ok pa) =
    page_with_bit m (Some va) (leaf_protection m.arch (leaf_at (tables_in m) va)) (page_start pa) (bit_of (pages_of m.avail) pa)

-- the pages of the kernel window, piece by piece
abbrev pub mapped_pages : MachineImage → List Page
mapped_pages m =
    filter_map (λ piece. let va = m.windows.kernbase + 4096 * piece in page_of_translation m va (by_tables m va)) (range_with_len 0 (m.windows.kernspan / 4096))

-- all dumped pages, by rising bit
abbrev pub pages_by_bit : MachineImage → List Page
pages_by_bit m =
    filter_map (λ bit. page_with_bit m None 3 (get_or (pages_with_bits m) bit 0) (Some bit)) (range_with_len 0 (length (pages_with_bits m)))

-- the walk
unfoldable pub image_walk : MachineImage → List Page
image_walk m = mapped_pages m ++ filter (λ page. not (has_page (mapped_pages m) page.offset)) (pages_by_bit m)
