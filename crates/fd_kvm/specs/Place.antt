-- The physical address that a kernel address of a vmcore stands for, or why it stands for none.
-- Source: _kvm_minidump_vatop of libkvm (lib/libkvm/kvm_minidump_amd64.c, kvm_minidump_aarch64.c, kvm_minidump_riscv.c).
use Rattle.std.specs.Prelude.{ℕ, ◌+◌, ◌-◌, ◌*◌, ◌/◌, ◌%◌, Bool, ◌&&◌, nat_le, nat_lt, if◌then◌else◌, List, Option, Some, None, Result, Ok, Err}
use Rattle.fd_bytes.specs.Field.{u64_le_at}
use Rattle.fd_bytes.specs.Profile.{profile_of}
use Rattle.fd_bytes.specs.declared.arch.Arch.{Arch}
use Rattle.fd_pte.specs.Architecture.{kind_of}
use Rattle.fd_pte.specs.declared.entry.Kind.{Kind}
use Rattle.fd_pte.specs.declared.entry.Kind.TheVariants.{Absent, Table, Leaf}
use Rattle.fd_mini.specs.Layout.{entry_height_of, unit_of}
use Rattle.fd_mini.specs.Places.{places_of}
use Rattle.fd_mini.specs.declared.header.MiniHeader.{MiniHeader}
use Rattle.fd_mini.specs.declared.address_fault.AddressFault.{AddressFault}
use Rattle.fd_mini.specs.declared.address_fault.AddressFault.TheVariants.{NotMapped, TableMissing, Outside}
use Rattle.fd_vmcore.specs.Sections.{Sections, page_offset}

-- the index of the directory's entry for an address at or behind the directory's first
abbrev pub entry_index : MiniHeader → ℕ → ℕ
entry_index h va = (va - h.kernbase) / unit_of h

-- the directory has an entry for the address
abbrev pub is_in_kernel_window : MiniHeader → ℕ → Bool
is_in_kernel_window h va = nat_le h.kernbase va && nat_lt (entry_index h va) (h.pmapsize / 8)

abbrev pub is_in_direct_map : MiniHeader → ℕ → Bool
is_in_direct_map h va = nat_le h.dmapbase va && nat_lt va h.dmapend

-- by the entry of a page table
abbrev pub by_table_entry : (va : ℕ) → Kind → Result ℕ AddressFault
by_table_entry va (Leaf address) = Ok (address + va % 4096)
by_table_entry va kind = Err (NotMapped va)

-- the entry of height 0 for an address, in the page table at this place of the file
abbrev pub table_entry : List ℕ → (place va : ℕ) → ℕ
table_entry f place va = u64_le_at f (place + 8 * (va / 4096 % 512))

-- by where a page table stands, if it is dumped; entries of height 0 name none
abbrev pub by_table : List ℕ → Arch → (va : ℕ) → Option ℕ → Result ℕ AddressFault
by_table f arch va None = Err (TableMissing va)
by_table f arch va (Some place) = by_table_entry va (kind_of arch (table_entry f place va) 0)

-- by the entry of the directory
abbrev pub by_entry : List ℕ → Sections → (va : ℕ) → Kind → Result ℕ AddressFault
by_entry f s va Absent = Err (NotMapped va)
by_entry f s va (Leaf address) = Ok (address + (va - s.header.kernbase) % unit_of s.header)
by_entry f s va (Table table) = by_table f s.header.arch va (page_offset s table)

-- the directory's entry for an address
abbrev pub directory_entry : List ℕ → MiniHeader → (va : ℕ) → ℕ
directory_entry f h va = u64_le_at f ((places_of h).directory + 8 * entry_index h va)

-- of an address in the kernel window
abbrev pub by_directory : List ℕ → Sections → ℕ → Result ℕ AddressFault
by_directory f s va =
    by_entry f s va (kind_of s.header.arch (directory_entry f s.header va) (entry_height_of s.header))

-- of an address in the direct map
abbrev pub by_direct_map : MiniHeader → ℕ → Result ℕ AddressFault
by_direct_map h va = Ok (va - h.dmapbase + h.dmapphys)

-- whether an address is looked for in the kernel window first, and not in the direct map
abbrev pub window_is_first : MiniHeader → Bool
window_is_first h = (profile_of h.arch).window_is_first

-- the physical address of a kernel address
unfoldable pub placed : List ℕ → Sections → ℕ → Result ℕ AddressFault
placed f s va =
    if window_is_first s.header && is_in_kernel_window s.header va then by_directory f s va
    else if is_in_direct_map s.header va then by_direct_map s.header va
    else if is_in_kernel_window s.header va then by_directory f s va
    else Err (Outside va)
