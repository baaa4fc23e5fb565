-- Slices of a list that follow one another, and slices of slices.
use Rattle.std.proofs.Common.{◌≡◌, ℕ, ◌+◌, ◌-◌, ◌<◌, ◌≤◌, ◌^◌, inl, inr, List, ◌++◌, length, get_or, take, drop, slice_range, sym, ◌∙◌, ap, arith}
use Rattle.std.proofs.lemmas.Bool.{cases_lt}
use Rattle.std.proofs.lemmas.List.Edits.{get_or-between}
use Rattle.std.proofs.lemmas.List.{get_or_past, length-take, drop-drop, drop-take, take-take, take_all}
use Rattle.std.proofs.Math.Seq.{take-add}

module _ {A : Type 0} where
  -- two that follow one another are one
  pub slice-join : (xs : List A) (a b c : ℕ) → a ≤ b → b ≤ c → slice_range xs a b ++ slice_range xs b c ≡ slice_range xs a c
  slice-join xs a b c first second =
      let behind : drop (b - a) (drop a xs) ≡ drop b xs = drop-drop (b - a) a xs ∙ ap (λ n. drop n xs) (omega arith) in
      let whole : take (b - a) (drop a xs) ++ take (c - b) (drop (b - a) (drop a xs)) ≡ take (b - a + (c - b)) (drop a xs) = sym (take-add (b - a) (c - b) (drop a xs)) in
      ap (λ ys. take (b - a) (drop a xs) ++ take (c - b) ys) (sym behind) ∙ whole ∙ ap (λ n. take n (drop a xs)) (omega arith)

  pub slice-all : (xs : List A) (n : ℕ) → length xs ≤ n → slice_range xs 0 n ≡ xs
  slice-all xs n short = take_all (n - 0) xs (omega arith)

  -- one of a slice is one of the list
  pub slice-slice : (xs : List A) (a b i j : ℕ) → i ≤ j → a + j ≤ b → slice_range (slice_range xs a b) i j ≡ slice_range xs (a + i) (a + j)
  slice-slice xs a b i j order within =
      let cut : drop i (take (b - a) (drop a xs)) ≡ take (b - a - i) (drop i (drop a xs)) = ap (λ n. drop i (take n (drop a xs))) (omega arith) ∙ drop-take i (b - a - i) (drop a xs) in
      let behind : drop i (drop a xs) ≡ drop (a + i) xs = drop-drop i a xs in
      ap (λ (l : List A). take (j - i) l) cut
      ∙ (take-take (j - i) (b - a - i) (drop i (drop a xs)) (omega arith) ∙ (ap (λ (l : List A). take (j - i) l) behind ∙ ap (λ n. take n (drop (a + i) xs)) (omega arith)))

-- a slice of bytes has bytes
pub byte_of_slice : (f : List ℕ) (a b i : ℕ) → ((k : ℕ) → get_or f k 0 < 2 ^ 8) → get_or (slice_range f a b) i 0 < 2 ^ 8
byte_of_slice f a b i bytes = elim (cases_lt (a + i) b) [
  | inl within ↦ omega (arith, get_or-between f a b i 0 within, bytes (a + i))
  | inr past ↦ omega (arith, get_or_past (slice_range f a b) i 0 (omega (arith, length-take (b - a) (drop a f))))
]
