-- The parity word makes the exclusive or of all words 0.
use Rattle.std.proofs.Common.{◌≡◌, ℕ, ◌%◌, ◌<◌, ◌^◌, List, [], ◌∷◌, ◌++◌, length, bit_xor, refl, sym, ◌∙◌, ap, arith}
use Rattle.std.proofs.lemmas.Nat.{from_be_bytes-to_be_bytes_4}
use Rattle.std.specs.Int.Bits.{xor_assoc, xor_self, xor_zero_l, xor_zero_r}
use Rattle.std.specs.Int.{w32, to_be_bytes, from_be_bytes}
use Rattle.fd_kdh.specs.Parity.{words, xor_all}

pub ruleset xor_steps = (xor_zero_l, xor_zero_r)

pub words-append : (xs ys : List ℕ) → length xs % 4 ≡ 0 → words (xs ++ ys) ≡ words xs ++ words ys
words-append [] ys whole = refl
words-append (a ∷ []) ys whole = absurd (omega arith)
words-append (a ∷ b ∷ []) ys whole = absurd (omega arith)
words-append (a ∷ b ∷ c ∷ []) ys whole = absurd (omega arith)
words-append (a ∷ b ∷ c ∷ d ∷ xs) ys whole = ap (λ (l : List ℕ). from_be_bytes w32 (a ∷ b ∷ c ∷ d ∷ []) ∷ l) (words-append xs ys (omega arith))

pub xor_all-append : (ns ms : List ℕ) → xor_all (ns ++ ms) ≡ bit_xor (xor_all ns) (xor_all ms)
xor_all-append [] ms = sym (xor_zero_l (xor_all ms))
xor_all-append (n ∷ ns) ms = ap (λ m. bit_xor n m) (xor_all-append ns ms) ∙ sym (xor_assoc n (xor_all ns) (xor_all ms))

-- whole words, and then the exclusive or of them
pub sealed : (front : List ℕ) (sum : ℕ) → length front % 4 ≡ 0 → sum ≡ xor_all (words front) → sum < 2 ^ 32 → xor_all (words (front ++ to_be_bytes w32 sum)) ≡ 0
sealed front sum whole is fits =
    ap xor_all (words-append front (to_be_bytes w32 sum) whole)
    ∙ xor_all-append (words front) (words (to_be_bytes w32 sum))
    ∙ (λ i. bit_xor (sums i) (last i))
    ∙ xor_self sum
  where
    sums : xor_all (words front) ≡ sum
    sums = sym is

    last : xor_all (words (to_be_bytes w32 sum)) ≡ sum
    last = xor_zero_r (from_be_bytes w32 (to_be_bytes w32 sum)) ∙ from_be_bytes-to_be_bytes_4 sum fits
