-- The pages of a machine image that its dump has: those that are available and lie in the direct map, and are wanted,
-- or mapped in the kernel window, or, on amd64, hold a last-level table of that window.
-- Source: the kernel's minidump_machdep.c of each architecture; that pages can be wanted is this project's own.
use Rattle.std.specs.Prelude.{ℕ, ◌+◌, ◌*◌, Bool, ◌&&◌, ◌||◌, ◌==◌, nat_le, nat_lt, List, map}
use Rattle.std.specs.List.{filter, list_any}
use Rattle.fd_bytes.specs.declared.arch.Arch.{Arch}
use Rattle.fd_bytes.specs.Profile.{profile_of}
use Rattle.fd_image.specs.Image.{MachineImage, levels_of, direct_map_end}
use Rattle.fd_image.specs.Physical.{word_of}
use Rattle.fd_image.specs.declared.parts.Windows.{Windows}
use Rattle.fd_pte.specs.Architecture.{kind_of}
use Rattle.fd_walk.specs.PageTables.{PageTables, tables_of}
use Rattle.fd_walk.specs.Ranges.{leaves_in, last_tables_in}
use Rattle.fd_walk.specs.declared.leaf.Leaf.{Leaf}
use Rattle.fd_bitmap.specs.Pages.{pages_of}

-- the image's page tables
abbrev pub tables_in : MachineImage → PageTables
tables_in m = tables_of (word_of m) (kind_of m.arch) (levels_of m) m.root

-- a physical address lies in a range of available memory
abbrev pub is_available : MachineImage → ℕ → Bool
is_available m pa = list_any (λ pair. nat_le pair.0 pa && nat_lt pa pair.1) m.avail

-- the direct map reaches a physical address
abbrev pub is_reached : Windows → ℕ → Bool
is_reached w pa = nat_le w.dmapphys pa && nat_lt pa (direct_map_end w)

-- a page is wanted
abbrev pub is_wanted : MachineImage → ℕ → Bool
is_wanted m page = list_any (λ wanted. wanted == page) m.wanted

-- a leaf maps a page
abbrev pub is_under_leaf : ℕ → Leaf → Bool
is_under_leaf page leaf = nat_le leaf.pa page && nat_lt page (leaf.pa + leaf.size)

-- a leaf of the kernel window, cut to the window, maps a page
abbrev pub is_mapped : MachineImage → ℕ → Bool
is_mapped m page = list_any (is_under_leaf page) (leaves_in (tables_in m) m.windows.kernbase m.windows.kernspan)

-- whether the last-level tables of the kernel window are dumped, because the directory ends above them
abbrev pub dumps_last_tables : Arch → Bool
dumps_last_tables arch = (profile_of arch).dumps_last_tables

-- a page holds a last-level table of the kernel window
abbrev pub is_last_table : MachineImage → ℕ → Bool
is_last_table m page = list_any (λ table. table == page) (last_tables_in (tables_in m) m.windows.kernbase m.windows.kernspan)

-- the page that begins at a physical address is dumped
unfoldable pub is_dumped : MachineImage → ℕ → Bool
is_dumped m page =
    is_available m page && is_reached m.windows page && (is_wanted m page || is_mapped m page || (dumps_last_tables m.arch && is_last_table m page))

-- the addresses of the pages that have a bit, in the order of their bits
abbrev pub pages_with_bits : MachineImage → List ℕ
pages_with_bits m = map (λ page. page * 4096) (pages_of m.avail)

-- the bitmap: for each of these pages, whether it is dumped
abbrev pub dumped_bits : MachineImage → List Bool
dumped_bits m = map (is_dumped m) (pages_with_bits m)

-- the dumped pages, in the order of their bits
abbrev pub dumped_pages : MachineImage → List ℕ
dumped_pages m = filter (is_dumped m) (pages_with_bits m)
