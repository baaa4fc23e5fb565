-- Hexadecimal digits of a fixed width, one by one.
use Rattle.std.proofs.Common.{◌≡◌, inl, inr, ℕ, zero, suc, ◌+◌, ◌-◌, ◌*◌, ◌/◌, ◌%◌, ◌^◌, ◌<◌, ◌≤◌, false, List, [], ◌∷◌, ◌++◌, length, replicate, set, take, drop}
use Rattle.std.proofs.Common.{refl, sym, ◌∙◌, ap, append_assoc, length-append, arith}
use Rattle.std.proofs.lemmas.Bool.{cases_eq}
use Rattle.std.proofs.lemmas.List.{drop-set, length-set, replicate_more, take_more_set}
use Rattle.std.specs.Fmt.{digit_glyph, digits, digits_onto}
use Rattle.fd_bytes.specs.Printed.{hex}

-- a hexadecimal digit
abbrev pub glyph : ℕ → ℕ
glyph n = digit_glyph false n

-- the last digits of a number, as many as asked for
unfoldable pub last_digits : (width n : ℕ) → List ℕ
last_digits zero n = []
last_digits (suc width) n = last_digits width (n / 16) ++ glyph (n % 16) ∷ []

onto : ℕ → ℕ → List ℕ → List ℕ
onto k n acc = digits_onto k 16 false n acc

onto_last : (k n : ℕ) (acc : List ℕ) → n / 16 ≡ 0 → onto (suc k) n acc ≡ glyph (n % 16) ∷ acc
unfolding onto
onto_last k n acc none = grind arith

onto_more : (k n : ℕ) (acc : List ℕ) → 0 < n / 16 → onto (suc k) n acc ≡ onto k (n / 16) (glyph (n % 16) ∷ acc)
unfolding onto
onto_more k n acc some = grind arith

-- what stands behind the digits stays behind them
onto_behind : (k n : ℕ) (acc : List ℕ) → onto k n acc ≡ onto k n [] ++ acc
unfolding onto
onto_behind zero n acc = refl
onto_behind (suc k) n acc = elim (cases_eq (n / 16) 0) [
  | inl none ↦ onto_last k n acc none ∙ ap (λ l. l ++ acc) (sym (onto_last k n [] none))
  | inr some ↦
      let more : 0 < n / 16 = omega arith in
      onto_more k n acc more
      ∙ onto_behind k (n / 16) (glyph (n % 16) ∷ acc)
      ∙ sym (append_assoc (onto k (n / 16) []) (glyph (n % 16) ∷ []) acc)
      ∙ ap (λ l. l ++ acc) (sym (onto_more k n [] more ∙ onto_behind k (n / 16) (glyph (n % 16) ∷ [])))
]

-- one more than the largest number of one digit and `more` others
abbrev reach : (more : ℕ) → ℕ
reach zero = 16
reach (suc more) = 16 * reach more

-- a number within reach needs no more digits
onto_enough : (k n : ℕ) → n < reach k → onto (suc k) n [] ≡ onto (suc (suc k)) n []
onto_enough zero n small = let none : n / 16 ≡ 0 = omega arith in onto_last 0 n [] none ∙ sym (onto_last 1 n [] none)
onto_enough (suc k) n small = elim (cases_eq (n / 16) 0) [
  | inl none ↦ onto_last (suc k) n [] none ∙ sym (onto_last (suc (suc k)) n [] none)
  | inr some ↦
      let more : 0 < n / 16 = omega arith in
      let end : List ℕ = glyph (n % 16) ∷ [] in
      onto_more (suc k) n [] more
      ∙ onto_behind (suc k) (n / 16) end
      ∙ ap (λ l. l ++ end) (onto_enough k (n / 16) (omega arith))
      ∙ sym (onto_more (suc (suc k)) n [] more ∙ onto_behind (suc (suc k)) (n / 16) end)
]

-- The digits of a number are those of its front, and its last one.
digits_one : (n : ℕ) → n < 16 → digits 16 false n ≡ glyph n ∷ []
unfolding digits onto
digits_one n small =
    let none : n / 16 ≡ 0 = omega arith in
    let last : n % 16 ≡ n = omega arith in
    onto_last 63 n [] none ∙ ap (λ d. glyph d ∷ []) last

digits_more : (n : ℕ) → 0 < n / 16 → n / 16 < reach 62 → digits 16 false n ≡ digits 16 false (n / 16) ++ glyph (n % 16) ∷ []
unfolding digits onto
digits_more n more small =
    let end : List ℕ = glyph (n % 16) ∷ [] in
    onto_more 63 n [] more ∙ onto_behind 63 (n / 16) end ∙ ap (λ l. l ++ end) (onto_enough 62 (n / 16) small)

pub last_digits-none : (n : ℕ) → last_digits 0 n ≡ []
unfolding last_digits
last_digits-none n = refl

last_digits-zero : (width : ℕ) → last_digits width 0 ≡ replicate width 48
unfolding last_digits
last_digits-zero zero = refl
last_digits-zero (suc width) =
    let one_more : width + 1 ≡ suc width = omega arith in
    ap (λ l. l ++ 48 ∷ []) (last_digits-zero width) ∙ replicate_more width 48 ∙ ap (λ k. replicate k 48) one_more

-- filled with zeros from the front, they are as many as asked for
pub hex_digits : (width n : ℕ) → n < reach width → n < 2 ^ 64 → hex (suc width) n ≡ last_digits (suc width) n
unfolding last_digits
hex_digits zero n small fits =
    let last : n ≡ n % 16 = omega arith in
    ap (λ ds. replicate (1 - length ds) 48 ++ ds) (digits_one n small) ∙ ap (λ d. glyph d ∷ []) last
hex_digits (suc width) n small fits = elim (cases_eq (n / 16) 0) [
  | inl none ↦
      let one : n < 16 = omega arith in
      let last : n ≡ n % 16 = omega arith in
      let count : suc (suc width) - 1 ≡ suc width = omega arith in
      ap (λ ds. replicate (suc (suc width) - length ds) 48 ++ ds) (digits_one n one)
      ∙ (λ i. replicate (count i) 48 ++ glyph (last i) ∷ [])
      ∙ ap (λ l. l ++ glyph (n % 16) ∷ []) (sym (ap (last_digits (suc width)) none ∙ last_digits-zero (suc width)))
  | inr some ↦
      let more : 0 < n / 16 = omega arith in
      let ds : List ℕ = digits 16 false (n / 16) in
      let end : List ℕ = glyph (n % 16) ∷ [] in
      let count : suc (suc width) - length (ds ++ end) ≡ suc width - length ds = omega (arith, length-append ds end) in
      ap (λ l. replicate (suc (suc width) - length l) 48 ++ l) (digits_more n more (omega arith))
      ∙ ap (λ k. replicate k 48 ++ (ds ++ end)) count
      ∙ sym (append_assoc (replicate (suc width - length ds) 48) ds end)
      ∙ ap (λ l. l ++ end) (hex_digits width (n / 16) (omega arith) (omega arith))
]

-- an address, and a byte
pub address_digits : (va : ℕ) → va < 2 ^ 64 → hex 16 va ≡ last_digits 16 va
address_digits va fits = hex_digits 15 va fits fits

pub byte_digits : (byte : ℕ) → byte < 256 → hex 2 byte ≡ glyph (byte / 16) ∷ glyph (byte % 16) ∷ []
unfolding last_digits
byte_digits byte short =
    let high : byte / 16 % 16 ≡ byte / 16 = omega arith in
    hex_digits 1 byte short (omega arith) ∙ ap (λ d. glyph d ∷ glyph (byte % 16) ∷ []) high

-- the last digit that isn't yet written, put in front of those that are
pub digit_put : (line : List ℕ) (place n digit : ℕ) → place < 16 → 16 ≤ length line → digit ≡ glyph (n % 16)
    → last_digits place (n / 16) ++ take (16 - place) (drop place (set line place digit)) ≡ last_digits (suc place) n ++ take (16 - suc place) (drop (suc place) line)
unfolding last_digits
digit_put line place n digit inside long is =
    let one : 16 - place ≡ suc (16 - suc place) = omega arith in
    let next : place + 1 ≡ suc place = omega arith in
    let put : drop place (set line place digit) ≡ digit ∷ drop (suc place) line =
    drop-set line place digit (omega arith) ∙ ap (λ k. digit ∷ drop k line) next in
    (λ i. last_digits place (n / 16) ++ take (one i) (put i))
    ∙ ap (λ d. last_digits place (n / 16) ++ d ∷ take (16 - suc place) (drop (suc place) line)) is
    ∙ sym (append_assoc (last_digits place (n / 16)) (glyph (n % 16) ∷ []) (take (16 - suc place) (drop (suc place) line)))

-- three characters, one behind the other
pub three_put : (line : List ℕ) (at x y z : ℕ) → at + 3 ≤ length line
    → take (at + 3) (set (set (set line at x) (at + 1) y) (at + 2) z) ≡ take at line ++ x ∷ y ∷ z ∷ []
three_put line at x y z room =
    let one : List ℕ = set line at x in
    let two : List ℕ = set one (at + 1) y in
    let last : at + 3 ≡ at + 2 + 1 = omega arith in
    let middle : at + 2 ≡ at + 1 + 1 = omega arith in
    let first : take (at + 1) one ≡ take at line ++ x ∷ [] = take_more_set line at x (omega arith) in
    let second : take (at + 2) two ≡ take (at + 1) one ++ y ∷ [] =
    ap (λ k. take k two) middle ∙ take_more_set one (at + 1) y (omega (arith, length-set line at x)) in
    ap (λ k. take k (set two (at + 2) z)) last
    ∙ take_more_set two (at + 2) z (omega (arith, length-set one (at + 1) y, length-set line at x))
    ∙ ap (λ l. l ++ z ∷ []) (second ∙ ap (λ l. l ++ y ∷ []) first)
    ∙ append_assoc (take at line ++ x ∷ []) (y ∷ []) (z ∷ [])
    ∙ append_assoc (take at line) (x ∷ []) (y ∷ z ∷ [])
