-- The parity of a header (kerneldump_parity of sys/kerneldump.h).
use Rattle.std.specs.Prelude.{ℕ, List, [], ◌∷◌, bit_xor}
use Rattle.std.specs.Int.{w32, from_be_bytes}

-- the numbers of four bytes each, the highest byte first
abbrev pub words : List ℕ → List ℕ
words (a ∷ b ∷ c ∷ d ∷ rest) = from_be_bytes w32 (a ∷ b ∷ c ∷ d ∷ []) ∷ words rest
words rest = []

-- the exclusive or of all numbers
abbrev pub xor_all : List ℕ → ℕ
xor_all [] = 0
xor_all (n ∷ ns) = bit_xor n (xor_all ns)
