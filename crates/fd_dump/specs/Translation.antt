-- The physical address that a kernel address of a machine image stands for, or why it stands for none.
-- Source: kvm(3) and the readers of minidumps in libkvm.
use Rattle.std.specs.Prelude.{ℕ, ◌+◌, ◌-◌, ◌%◌, Bool, false, not, ◌&&◌, nat_le, nat_lt, if◌then◌else◌, Option, Some, None, Result, Ok, Err}
use Rattle.fd_image.specs.Image.{MachineImage, kernel_end}
use Rattle.fd_image.specs.declared.parts.Windows.{Windows}
use Rattle.fd_pte.specs.Entry.{bytes_under}
use Rattle.fd_walk.specs.Leaf.{MappedBy, leaf_at, last_table}
use Rattle.fd_mini.specs.declared.address_fault.AddressFault.{AddressFault}
use Rattle.fd_mini.specs.declared.address_fault.AddressFault.TheVariants.{NotMapped, TableMissing, Outside}
use Rattle.fd_dump.specs.Dumped.{tables_in, dumps_last_tables, is_dumped}

abbrev pub is_in_kernel_window : Windows → ℕ → Bool
is_in_kernel_window w va = nat_le w.kernbase va && nat_lt va (kernel_end w)

abbrev pub is_in_direct_map : Windows → ℕ → Bool
is_in_direct_map w va = nat_le w.dmapbase va && nat_lt va w.dmapend

-- by the leaf at an address
abbrev pub by_leaf : (va : ℕ) → Option MappedBy → Result ℕ AddressFault
by_leaf va None = Err (NotMapped va)
by_leaf va (Some leaf) = Ok (leaf.address + va % bytes_under leaf.height)

-- a last-level table that the dump ought to have isn't in it
abbrev pub is_table_missing : MachineImage → Option ℕ → Bool
is_table_missing m None = false
is_table_missing m (Some table) = dumps_last_tables m.arch && not (is_dumped m table)

-- of an address in the kernel window
abbrev pub by_tables : MachineImage → ℕ → Result ℕ AddressFault
by_tables m va =
    if is_table_missing m (last_table (tables_in m) va) then Err (TableMissing va) else by_leaf va (leaf_at (tables_in m) va)

-- the physical address of a kernel address
unfoldable pub translated : MachineImage → ℕ → Result ℕ AddressFault
translated m va =
    if is_in_direct_map m.windows va then Ok (va - m.windows.dmapbase + m.windows.dmapphys)
    else if is_in_kernel_window m.windows va then by_tables m va
    else Err (Outside va)
