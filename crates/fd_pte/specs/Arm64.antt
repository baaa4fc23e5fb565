-- Page table entries of Arm's 4 KiB granule with tables of four levels, without LPA2.
-- Source: Arm Architecture Reference Manual for A-profile, section D8.3 "Translation table descriptor formats" and D8.4 "Memory access control".
use Rattle.std.specs.Prelude.{ℕ, Bool, true, not, ◌==◌, ◌||◌, ◌+◌, ◌*◌, ◌^◌, if◌then◌else◌}
use Rattle.fd_pte.specs.Bits.{is_set, bits_from_to, rights}
use Rattle.fd_pte.specs.declared.entry.Kind.{Kind}
use Rattle.fd_pte.specs.declared.entry.Kind.TheVariants.{Absent, Table, Leaf}

-- bit 0: the descriptor is valid
abbrev pub valid : ℕ → Bool
valid bits = is_set 0 bits

-- bit 1: a page descriptor at height 0, a table descriptor above; a block descriptor has it clear
abbrev pub table_or_page : ℕ → Bool
table_or_page bits = is_set 1 bits

-- AP[2], bit 7: the memory may only be read
abbrev pub read_only : ℕ → Bool
read_only bits = is_set 7 bits

-- PXN, bit 53: the kernel may execute nothing in the memory
abbrev pub no_execute : ℕ → Bool
no_execute bits = is_set 53 bits

-- the output address of a page or a block: bits 47 down to those of its size
abbrev pub output_address : ℕ → ℕ → ℕ
output_address bits height = bits_from_to (12 + 9 * height) 47 bits

-- the kind of a descriptor: there are blocks of 2 MiB and of 1 GiB, and no larger ones
abbrev pub arm64_kind : ℕ → ℕ → Kind
arm64_kind bits height =
    if not (valid bits) then Absent
    else if table_or_page bits then (if height == 0 then Leaf (output_address bits 0) else Table (bits_from_to 12 47 bits))
    else if (height == 1) || (height == 2) then Leaf (output_address bits height)
    else Absent

-- the page descriptor for one page of a block: the attributes in bits 2 to 11 and 48 to 63 stay
abbrev pub arm64_expansion : ℕ → ℕ → ℕ → ℕ
arm64_expansion bits height index =
    bits_from_to 48 63 bits + (output_address bits height + index * 2 ^ 12) + bits_from_to 2 11 bits + 3

-- all valid memory may be read
abbrev pub arm64_protection : ℕ → ℕ
arm64_protection bits = rights true (not (read_only bits)) (not (no_execute bits))
