-- Page table entries of AMD64 long mode with tables of four levels.
-- Source: AMD64 Architecture Programmer's Manual, volume 2, section 5.3 "Long-Mode Page Translation" and 5.4 "Page-Translation-Table Entry Fields".
use Rattle.std.specs.Prelude.{ℕ, Bool, true, not, ◌==◌, ◌+◌, ◌*◌, ◌^◌, if◌then◌else◌}
use Rattle.fd_pte.specs.Bits.{is_set, bits_from_to, rights}
use Rattle.fd_pte.specs.declared.entry.Kind.{Kind}
use Rattle.fd_pte.specs.declared.entry.Kind.TheVariants.{Absent, Table, Leaf}

-- P, bit 0: the entry is present
abbrev pub present : ℕ → Bool
present bits = is_set 0 bits

-- PS, bit 7 above height 0: the entry maps a large page and names no table
abbrev pub large : ℕ → Bool
large bits = is_set 7 bits

-- R/W, bit 1: the page may be written
abbrev pub writable : ℕ → Bool
writable bits = is_set 1 bits

-- NX, bit 63: nothing in the page may be executed
abbrev pub no_execute : ℕ → Bool
no_execute bits = is_set 63 bits

-- the kind of an entry: there are large pages of 2 MiB and of 1 GiB, and no larger ones
abbrev pub amd64_kind : ℕ → ℕ → Kind
amd64_kind bits height =
    if not (present bits) then Absent
    else if height == 0 then Leaf (bits_from_to 12 51 bits)
    else if not (large bits) then Table (bits_from_to 12 51 bits)
    else if height == 1 then Leaf (bits_from_to 21 51 bits)
    else if height == 2 then Leaf (bits_from_to 30 51 bits)
    else Absent

-- the entry of 2 MiB for one unit of a page of 1 GiB: bits 13 to 29 are those of the unit, the others stay
abbrev pub amd64_expansion : ℕ → ℕ → ℕ → ℕ
amd64_expansion bits height index = bits_from_to 30 63 bits + index * 2 ^ 21 + bits_from_to 0 12 bits

-- every page may be read
abbrev pub amd64_protection : ℕ → ℕ
amd64_protection bits = rights true (writable bits) (not (no_execute bits))
