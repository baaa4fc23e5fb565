-- A partition, and where a dump stands on it.
use Rattle.std.specs.Prelude.{◌≢◌, ℕ, ◌+◌, ◌-◌, ◌*◌, ◌%◌, Bool, ◌&&◌, ◌||◌, ◌==◌, nat_lt, nat_le, List, length, take, slice_range}
use Rattle.fd_kdh.specs.Header.{live_magic}

-- the sizes of a block in bytes
abbrev pub is_block : ℕ → Bool
is_block block = block == 512 || block == 1024 || block == 2048 || block == 4096

-- whole blocks, and not none
abbrev pub is_good : ℕ → ℕ → Bool
is_good size block = is_block block && nat_lt 0 size && size % block == 0

-- how many bytes a dump of this extent needs: 65536 that no dump touches, itself, and two header blocks
abbrev pub need_of : ℕ → ℕ → ℕ
need_of block extent = 65536 + extent + 2 * block

-- whether a partition has them
abbrev pub has_room : (size block extent : ℕ) → Bool
has_room size block extent = nat_le (need_of block extent) size

-- where the leading block, the dump and the trailing block begin
abbrev pub leading_place : (size block extent : ℕ) → ℕ
leading_place size block extent = size - 2 * block - extent

abbrev pub dump_place : (size block extent : ℕ) → ℕ
dump_place size block extent = size - block - extent

abbrev pub trailing_place : (size block : ℕ) → ℕ
trailing_place size block = size - block

-- the sector at a place of a partition
abbrev pub sector_at : List ℕ → ℕ → List ℕ
sector_at part at = slice_range part at (at + 512)

-- the first sector of the trailing block
abbrev pub trailing_sector : List ℕ → ℕ → List ℕ
trailing_sector part block = sector_at part (trailing_place (length part) block)

-- no live header stands there
abbrev pub IsClear : List ℕ → ℕ → Type 0
IsClear part block = take 20 (trailing_sector part block) ≢ live_magic
