-- Bits of a number, numbered as in the manuals: bit 0 is the lowest, and a range names its lowest and its highest bit.
use Rattle.std.specs.Prelude.{ℕ, Bool, ◌+◌, ◌-◌, ◌*◌, ◌/◌, ◌%◌, ◌^◌, ◌==◌, if◌then◌else◌}

-- whether bit `k` is 1
abbrev pub is_set : ℕ → ℕ → Bool
is_set k n = n / 2 ^ k % 2 == 1

-- the number that the bits from `low` to `high` spell
abbrev pub field : ℕ → ℕ → ℕ → ℕ
field low high n = n / 2 ^ low % 2 ^ (high + 1 - low)

-- the bits from `low` to `high`, each in its place, and 0 elsewhere
abbrev pub bits_from_to : ℕ → ℕ → ℕ → ℕ
bits_from_to low high n = field low high n * 2 ^ low

-- the accesses that are allowed: 1 for reading, 2 for writing, 4 for executing, added up
abbrev pub rights : Bool → Bool → Bool → ℕ
rights read write execute = (if read then 1 else 0) + (if write then 2 else 0) + (if execute then 4 else 0)
