-- The pages of a vmcore in the order of a walk: those that the kernel window maps, by rising address, then the other dumped
-- pages, by rising bit. This order, and the protection of a page that no entry maps, are this project's own.
use Rattle.std.specs.Prelude.{ℕ, ◌+◌, ◌-◌, ◌*◌, ◌/◌, ◌^◌, Bool, ◌&&◌, ◌==◌, not, nat_le, nat_lt, if◌then◌else◌, min, List, ◌++◌, filter, length, Option, Some, None, Result, Ok, Err}
use Rattle.std.specs.Int.{div_ceil}
use Rattle.std.specs.List.{filter_map, list_any, range_with_len}
use Rattle.std.specs.Option.{option_and_then, option_map}
use Rattle.fd_bytes.specs.declared.arch.Arch.{Arch}
use Rattle.fd_bytes.specs.declared.arch.Arch.TheVariants.{Amd64, Arm64, Riscv}
use Rattle.fd_bitmap.specs.Pages.{page_of}
use Rattle.fd_mini.specs.Layout.{entry_height_of, unit_of}
use Rattle.fd_mini.specs.declared.header.MiniHeader.{MiniHeader}
use Rattle.fd_mini.specs.declared.address_fault.AddressFault.{AddressFault}
use Rattle.fd_pte.specs.Amd64.{amd64_protection}
use Rattle.fd_pte.specs.Arm64.{arm64_protection}
use Rattle.fd_pte.specs.Riscv.{riscv_protection}
use Rattle.fd_pte.specs.Architecture.{kind_of}
use Rattle.fd_pte.specs.declared.entry.Kind.{Kind}
use Rattle.fd_pte.specs.declared.entry.Kind.TheVariants.{Table}
use Rattle.fd_vmcore.specs.Sections.{Sections, opened, page_offset, offset_of_bit}
use Rattle.fd_vmcore.specs.declared.open.OpenFault.{OpenFault}
use Rattle.fd_kvm.specs.Place.{by_directory, directory_entry, table_entry}
use Rattle.fd_kvm.specs.declared.page.Page.{Page}

-- the accesses that an entry allows
abbrev pub protection_of : Arch → (bits : ℕ) → ℕ
protection_of Amd64 = amd64_protection
protection_of Arm64 = arm64_protection
protection_of Riscv = riscv_protection

-- the address in the direct map that stands for a physical address, if one does
abbrev pub direct_address : MiniHeader → (pa : ℕ) → Option ℕ
direct_address h pa =
    if nat_le h.dmapphys pa && nat_lt (pa - h.dmapphys + h.dmapbase) h.dmapend then Some (pa - h.dmapphys + h.dmapbase) else None

-- the page at a physical address: its address in the kernel window, its protection, and its place in the file
abbrev pub page_at : MiniHeader → (pa : ℕ) → (kva : Option ℕ) → (prot place : ℕ) → Page
page_at h pa kva prot place = record { pa = pa; kva = kva; dva = direct_address h pa; prot = prot; offset = place; len = 4096 }

-- the page in which a physical address lies, if it is dumped
abbrev pub dumped_page : Sections → (kva : Option ℕ) → (prot pa : ℕ) → Option Page
dumped_page s kva prot pa = option_map (page_at s.header (pa / 4096 * 4096) kva prot) (page_offset s pa)

-- the last entry that is asked for an address: that of the page table which the directory's entry names, if the table is
-- dumped, or the directory's
abbrev pub entry_by_table : List ℕ → (entry va : ℕ) → Option ℕ → ℕ
entry_by_table f entry va None = entry
entry_by_table f entry va (Some place) = table_entry f place va

abbrev pub entry_by_kind : List ℕ → Sections → (entry va : ℕ) → Kind → ℕ
entry_by_kind f s entry va (Table table) = entry_by_table f entry va (page_offset s table)
entry_by_kind f s entry va kind = entry

abbrev pub last_entry : List ℕ → Sections → (va : ℕ) → ℕ
last_entry f s va =
    let entry = directory_entry f s.header va in
    entry_by_kind f s entry va (kind_of s.header.arch entry (entry_height_of s.header))

-- the page that an address of the kernel window is mapped to, if it is dumped
abbrev pub mapped_page : List ℕ → Sections → (va : ℕ) → Result ℕ AddressFault → Option Page
mapped_page f s va (Err fault) = None
mapped_page f s va (Ok pa) = dumped_page s (Some va) (protection_of s.header.arch (last_entry f s va)) pa

unfoldable pub window_page : List ℕ → Sections → (va : ℕ) → Option Page
window_page f s va = mapped_page f s va (by_directory f s va)

-- how many pieces of 4096 bytes the kernel window has, as far as they begin below 2^64
abbrev pub piece_count : MiniHeader → ℕ
piece_count h = min (h.pmapsize / 8 * (unit_of h / 4096)) (div_ceil (2 ^ 64 - h.kernbase) 4096)

-- the pages of so many pieces, each the page of the piece's first byte
abbrev pub pages_of_pieces : List ℕ → Sections → (first count : ℕ) → List Page
pages_of_pieces f s first count =
    filter_map (λ piece. window_page f s (s.header.kernbase + 4096 * piece)) (range_with_len first count)

-- the pages of the kernel window
abbrev pub window_pages : List ℕ → Sections → List Page
window_pages f s = pages_of_pieces f s 0 (piece_count s.header)

-- the page of a bit, if the bit is set and has a page
abbrev pub page_of_bit : Sections → (bit : ℕ) → Option Page
page_of_bit s bit = option_and_then (λ pa. option_map (page_at s.header pa None 3) (offset_of_bit s bit)) (page_of s.pages bit)

-- all dumped pages
abbrev pub dumped_pages : Sections → List Page
dumped_pages s = filter_map (page_of_bit s) (range_with_len 0 (length s.bits))

-- the page at this place of the file is among some pages
abbrev pub has_page : List Page → (place : ℕ) → Bool
has_page pages place = list_any (λ page. page.offset == place) pages

-- the walk of a file with these sections
unfoldable pub walk_of : List ℕ → Sections → List Page
walk_of f s = window_pages f s ++ filter (λ page. not (has_page (window_pages f s) page.offset)) (dumped_pages s)

-- the walk of any file, or why the file is refused
abbrev pub walk_by_sections : List ℕ → Result Sections OpenFault → Result (List Page) OpenFault
walk_by_sections f (Err fault) = Err fault
walk_by_sections f (Ok s) = Ok (walk_of f s)

abbrev pub walk_in : List ℕ → Result (List Page) OpenFault
walk_in f = walk_by_sections f (opened f)
