-- The printed text of a read of kernel memory.
use Rattle.std.specs.Prelude.{ℕ, zero, suc, ◌+◌, List, [], ◌∷◌, ◌++◌, length, take, drop}
use Rattle.std.specs.Int.{div_ceil}
use Rattle.std.specs.List.{flat_map}
use Rattle.fd_bytes.specs.Printed.{hex}

-- a space, and a byte in two digits
abbrev pub byte_text : ℕ → List ℕ
byte_text byte = 32 ∷ hex 2 byte

-- a line: the first address in 16 digits, the bytes, and a newline
abbrev pub line_of : (va : ℕ) → List ℕ → List ℕ
line_of va bytes = hex 16 va ++ (flat_map byte_text bytes ++ 10 ∷ [])

-- so many lines of 16 bytes, the last of which may have fewer
abbrev pub lines_of : (count va : ℕ) → List ℕ → List ℕ
lines_of zero va bytes = []
lines_of (suc count) va bytes = line_of va (take 16 bytes) ++ lines_of count (va + 16) (drop 16 bytes)

-- the text of the bytes from an address on
unfoldable pub read_text : (va : ℕ) → List ℕ → List ℕ
read_text va bytes = lines_of (div_ceil (length bytes) 16) va bytes
