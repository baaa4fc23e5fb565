-- The numbers in fields of a buffer, as formats speak of them.
use Rattle.std.specs.Prelude.{ℕ, ◌+◌, List, slice_range}
use Rattle.std.specs.Int.{w32, w64, from_be_bytes, from_le_bytes}

-- the number in the four bytes at a place, the highest byte first
unfoldable pub u32_be_at : List ℕ → ℕ → ℕ
u32_be_at bytes at = from_be_bytes w32 (slice_range bytes at (at + 4))

-- the same of eight bytes
unfoldable pub u64_be_at : List ℕ → ℕ → ℕ
u64_be_at bytes at = from_be_bytes w64 (slice_range bytes at (at + 8))

-- the number in the four bytes at a place, the lowest byte first
unfoldable pub u32_le_at : List ℕ → ℕ → ℕ
u32_le_at bytes at = from_le_bytes w32 (slice_range bytes at (at + 4))

-- the same of eight bytes
unfoldable pub u64_le_at : List ℕ → ℕ → ℕ
u64_le_at bytes at = from_le_bytes w64 (slice_range bytes at (at + 8))
