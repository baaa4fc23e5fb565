-- Page table entries of RISC-V, the same in Sv39 and Sv48.
-- Source: The RISC-V Instruction Set Manual, volume II, section "Sv39: Page-Based 39-bit Virtual-Memory System" and "Virtual Address Translation Process".
use Rattle.std.specs.Prelude.{ℕ, Bool, not, ◌==◌, ◌&&◌, ◌||◌, ◌+◌, ◌*◌, ◌%◌, ◌^◌, if◌then◌else◌}
use Rattle.fd_pte.specs.Bits.{is_set, field, bits_from_to, rights}
use Rattle.fd_pte.specs.declared.entry.Kind.{Kind}
use Rattle.fd_pte.specs.declared.entry.Kind.TheVariants.{Absent, Table, Leaf}

-- V, bit 0: the entry is valid
abbrev pub valid : ℕ → Bool
valid bits = is_set 0 bits

-- R, bit 1: the page may be read
abbrev pub readable : ℕ → Bool
readable bits = is_set 1 bits

-- W, bit 2: the page may be written
abbrev pub writable : ℕ → Bool
writable bits = is_set 2 bits

-- X, bit 3: the page may be executed
abbrev pub executable : ℕ → Bool
executable bits = is_set 3 bits

-- a page that may be written and not read is reserved
abbrev pub reserved : ℕ → Bool
reserved bits = writable bits && not (readable bits)

-- an entry that allows nothing points to a table
abbrev pub pointer : ℕ → Bool
pointer bits = not (readable bits || writable bits || executable bits)

-- PPN, bits 10 to 53: the physical page number
abbrev pub page_number : ℕ → ℕ
page_number bits = field 10 53 bits

-- the kind of an entry: a leaf whose page number is no multiple of its pages is misaligned, and absent
abbrev pub riscv_kind : ℕ → ℕ → Kind
riscv_kind bits height =
    if not (valid bits) || reserved bits then Absent
    else if pointer bits then (if height == 0 then Absent else Table (page_number bits * 2 ^ 12))
    else if page_number bits % 2 ^ (9 * height) == 0 then Leaf (page_number bits * 2 ^ 12)
    else Absent

-- the entry of 4 KiB for one page of a larger leaf: all but the page number stays
abbrev pub riscv_expansion : ℕ → ℕ → ℕ → ℕ
riscv_expansion bits height index =
    bits_from_to 54 63 bits + (page_number bits + index) * 2 ^ 10 + bits_from_to 0 9 bits

-- the three permission bits
abbrev pub riscv_protection : ℕ → ℕ
riscv_protection bits = rights (readable bits) (writable bits) (executable bits)
