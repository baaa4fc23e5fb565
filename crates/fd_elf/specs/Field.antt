-- Numbers of two bytes in fields of a buffer: Elf64_Half of sys/elf64.h.
use Rattle.std.specs.Prelude.{ℕ, ◌+◌, List, slice_range}
use Rattle.std.specs.Int.{w16, from_le_bytes}

-- the number in the two bytes at a place, the lowest byte first
unfoldable pub u16_le_at : List ℕ → ℕ → ℕ
u16_le_at bytes at = from_le_bytes w16 (slice_range bytes at (at + 2))
