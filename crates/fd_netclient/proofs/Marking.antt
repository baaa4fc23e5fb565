-- Numbers that are marked in a word: all of a batch, the least, and those that are left when one is taken out.
use Rattle.std.proofs.Common.{◌≡◌, inl, inr, ℕ, zero, suc, ◌+◌, ◌-◌, ◌*◌, ◌/◌, ◌%◌, ◌⊎◌, ◌^◌, ◌<◌, ◌≤◌, Bool, true, false, cond, not, ◌==◌, ◌&&◌, List, [], ◌∷◌, Some}
use Rattle.std.proofs.Common.{refl, sym, ◌∙◌, ap, arith, filter, bit_and}
use Rattle.std.specs.Int.{w64, bit_at, bit_not, trailing_zeros}
use Rattle.std.proofs.lemmas.Bool.{cases_eq, eq-eqb, ne_eqb}
use Rattle.std.proofs.lemmas.Nat.Bits.{bit_at-zero, bit_at_ones, bit_at_ones_above, bit_at-trailing_zeros, bit_at_clear_same, bit_at_clear_other, ones_shr}
use Rattle.fd_netclient.specs.Datagram.{numbers}
use Rattle.fd_netclient.specs.Marks.{marked}
use Rattle.fd_netclient.specs.Trace.{without}

-- tests that agree on numbers keep the same of them
filter-same : (f g : ℕ → Bool) (from n : ℕ) → ((s : ℕ) → from ≤ s → s < from + n → f s ≡ g s) → filter f (numbers from n) ≡ filter g (numbers from n)
filter-same f g from zero same = refl
filter-same f g from (suc n) same =
    let here = same from (omega arith) (omega arith) in
    let more = filter-same f g (from + 1) n (λ s low high. same s (omega arith) (omega arith)) in
    λ i. cond (here i) (from ∷ more i) (more i)

filter-none : (f : ℕ → Bool) (from n : ℕ) → ((s : ℕ) → from ≤ s → s < from + n → f s ≡ false) → filter f (numbers from n) ≡ []
filter-none f from zero none = refl
filter-none f from (suc n) none =
    ap (λ (b : Bool). cond b (from ∷ filter f (numbers (from + 1) n)) (filter f (numbers (from + 1) n))) (none from (omega arith) (omega arith))
    ∙ filter-none f (from + 1) n (λ s low high. none s (omega arith) (omega arith))

-- the first numbers, where a test keeps just these
filter-front : (f : ℕ → Bool) (from k n : ℕ) → k ≤ n → ((s : ℕ) → from ≤ s → s < from + k → f s ≡ true) → ((s : ℕ) → from + k ≤ s → s < from + n → f s ≡ false)
    → filter f (numbers from n) ≡ numbers from k
filter-front f from zero n few front behind = filter-none f from n (λ s low high. behind s (omega arith) high)
filter-front f from (suc k) zero few front behind = absurd (omega arith)
filter-front f from (suc k) (suc n) few front behind =
    ap (λ (b : Bool). cond b (from ∷ filter f (numbers (from + 1) n)) (filter f (numbers (from + 1) n))) (front from (omega arith) (omega arith))
    ∙ ap (λ l. from ∷ l) (filter-front f (from + 1) k n (omega arith) (λ s low high. front s (omega arith) (omega arith)) (λ s low high. behind s (omega arith) (omega arith)))

-- the least number that a test keeps stands before those that one keeps which leaves it out
filter-least : (f g : ℕ → Bool) (from n t : ℕ) → from ≤ t → t < from + n → ((s : ℕ) → from ≤ s → s < t → f s ≡ false) → f t ≡ true
    → ((s : ℕ) → from ≤ s → s < from + n → (s ≡ t → ⊥) → g s ≡ f s) → g t ≡ false → filter f (numbers from n) ≡ t ∷ filter g (numbers from n)
filter-least f g from zero t low high below is same isnt = absurd (omega arith)
filter-least f g from (suc n) t low high below is same isnt =
    let f_rest : List ℕ = filter f (numbers (from + 1) n) in
    let g_rest : List ℕ = filter g (numbers (from + 1) n) in
    elim (cases_eq from t) [
      | inl here ↦
          let rest : f_rest ≡ g_rest = filter-same f g (from + 1) n (λ s low_s high_s. sym (same s (omega arith) (omega arith) (λ e. omega arith))) in
          ap (λ (b : Bool). cond b (from ∷ f_rest) f_rest) (ap f here ∙ is)
          ∙ (λ i. here i ∷ rest i)
          ∙ ap (λ (b : Bool). t ∷ cond b (from ∷ g_rest) g_rest) (sym (ap g here ∙ isnt))
      | inr other ↦
          let before : f from ≡ false = below from (omega arith) (under from t low other) in
          let gone : g from ≡ false = same from (omega arith) (omega arith) other ∙ before in
          ap (λ (b : Bool). cond b (from ∷ f_rest) f_rest) before
          ∙ filter-least f g (from + 1) n t (lower from t low other) (omega arith) (λ s low_s high_s. below s (omega arith) high_s) is
          (λ s low_s high_s differs. same s (omega arith) (omega arith) differs) isnt
          ∙ ap (λ (b : Bool). t ∷ cond b (from ∷ g_rest) g_rest) (sym gone)
    ]
  where
    lower : (a b : ℕ) → a ≤ b → (a ≡ b → ⊥) → a + 1 ≤ b
    lower a b le differs = omega arith

    under : (a b : ℕ) → a ≤ b → (a ≡ b → ⊥) → a < b
    under a b le differs = omega arith

-- what is left without a number
without-filter : (f : ℕ → Bool) (t : ℕ) (xs : List ℕ) → without (Some t) (filter f xs) ≡ filter (λ s. f s && not (s == t)) xs
without-filter f t [] = refl
without-filter f t (x ∷ xs) = by_test (f x) (without-filter f t xs)
  where
    both : List ℕ
    both = filter (λ s. f s && not (s == t)) xs

    by_test : (b : Bool) → without (Some t) (filter f xs) ≡ both → without (Some t) (cond b (x ∷ filter f xs) (filter f xs)) ≡ cond (b && not (x == t)) (x ∷ both) both
    by_test true later = ap (λ (l : List ℕ). cond (not (x == t)) (x ∷ l) l) later
    by_test false later = later

and_true : (b : Bool) → (b && true) ≡ b
and_true true = refl
and_true false = refl

and_false : (b : Bool) → (b && false) ≡ false
and_false true = refl
and_false false = refl

-- a word, and the word without one bit
abbrev pub cleared : ℕ → ℕ → ℕ
cleared bits k = bit_and bits (bit_not w64 (1 * 2 ^ k % 2 ^ 64))

module _ (first bits : ℕ) where
  -- whether a number is marked
  abbrev is_set : ℕ → ℕ → Bool
  is_set word s = bit_at word (s - first) == 1

  set-other : (t s : ℕ) → first ≤ t → t - first < 64 → first ≤ s → s < first + 64 → (s ≡ t → ⊥) → is_set (cleared bits (t - first)) s ≡ is_set bits s
  set-other t s low few low_s high_s differs =
      ap (λ (b : ℕ). b == 1) (bit_at_clear_other w64 bits (t - first) few (s - first) (omega arith) (λ e. differs (omega arith)))

  set-same : (t : ℕ) → t - first < 64 → is_set (cleared bits (t - first)) t ≡ false
  set-same t few = ap (λ (b : ℕ). b == 1) (bit_at_clear_same w64 bits (t - first) few)

  pub marked-zero : bits ≡ 0 → marked first bits ≡ []
  unfolding marked
  marked-zero is = filter-none (is_set bits) first 64 (λ s low high. ap (λ (b : ℕ). bit_at b (s - first) == 1) is ∙ ap (λ (b : ℕ). b == 1) (bit_at-zero (s - first)))

  pub marked-least : 0 < bits → bits < 2 ^ 64 → marked first bits ≡ (first + trailing_zeros w64 bits) ∷ marked first (cleared bits (trailing_zeros w64 bits))
  unfolding marked
  marked-least some fits = least (trailing_zeros w64 bits) (bit_at-trailing_zeros w64 bits some fits)
    where
      least : (k : ℕ) → (k < 64) × (bit_at bits k ≡ 1) × ((i : ℕ) → i < k → bit_at bits i ≡ 0)
          → filter (is_set bits) (numbers first 64) ≡ (first + k) ∷ filter (is_set (cleared bits k)) (numbers first 64)
      least k is =
          let place : first + k - first ≡ k = omega arith in
          filter-least (is_set bits) (is_set (cleared bits k)) first 64 (first + k) (omega arith) (omega (arith, is.0))
          (λ s low high. ap (λ (b : ℕ). b == 1) (is.2 (s - first) (omega arith)))
          (ap (λ (i : ℕ). bit_at bits i == 1) place ∙ ap (λ (b : ℕ). b == 1) is.1)
          (λ s low high differs. ap (λ (i : ℕ). is_set (cleared bits i) s) (sym place) ∙ set-other (first + k) s (omega arith) (omega (arith, is.0)) low high differs)
          (ap (λ (i : ℕ). is_set (cleared bits i) (first + k)) (sym place) ∙ set-same (first + k) (omega (arith, is.0)))

  pub marked-without : (t : ℕ) → first ≤ t → t - first < 64 → without (Some t) (marked first bits) ≡ marked first (cleared bits (t - first))
  unfolding marked
  marked-without t low few =
      without-filter (is_set bits) t (numbers first 64)
      ∙ filter-same (λ s. is_set bits s && not (s == t)) (is_set (cleared bits (t - first))) first 64
      (λ s low_s high_s. elim (cases_eq s t) [
        | inl same ↦
            ap (λ (b : Bool). is_set bits s && not b) (eq-eqb s t same) ∙ and_false (is_set bits s) ∙ sym (ap (is_set (cleared bits (t - first))) same ∙ set-same t few)
        | inr other ↦ ap (λ (b : Bool). is_set bits s && not b) (ne_eqb s t other) ∙ and_true (is_set bits s) ∙ sym (set-other t s low few low_s high_s other)
      ])

  pub marked-outside : (t : ℕ) → (t < first) ⊎ (64 ≤ t - first) → without (Some t) (marked first bits) ≡ marked first bits
  unfolding marked
  marked-outside t outside =
      without-filter (is_set bits) t (numbers first 64)
      ∙ filter-same (λ s. is_set bits s && not (s == t)) (is_set bits) first 64
      (λ s low high. ap (λ (b : Bool). is_set bits s && not b) (ne_eqb s t (λ e. apart s low high e outside)) ∙ and_true (is_set bits s))
    where
      apart : (s : ℕ) → first ≤ s → s < first + 64 → s ≡ t → (t < first) ⊎ (64 ≤ t - first) → ⊥
      apart s low high e (inl below) = omega arith
      apart s low high e (inr above) = omega arith

pub some : (bits : ℕ) → (bits ≡ 0 → ⊥) → 0 < bits
some bits isnt = omega arith

pub marked-all : (first count : ℕ) → count ≤ 64 → marked first ((2 ^ 64 - 1) / 2 ^ (64 - count)) ≡ numbers first count
unfolding marked
marked-all first count few =
    let ones : (2 ^ 64 - 1) / 2 ^ (64 - count) ≡ 2 ^ count - 1 = ones_shr 64 (64 - count) (omega arith) ∙ ap (λ (n : ℕ). 2 ^ n - 1) (back count few) in
    ap (λ (bits : ℕ). filter (λ s. bit_at bits (s - first) == 1) (numbers first 64)) ones
    ∙ filter-front (λ s. bit_at (2 ^ count - 1) (s - first) == 1) first count 64 few
    (λ s low high. ap (λ (b : ℕ). b == 1) (bit_at_ones count (s - first) (omega arith)))
    (λ s low high. ap (λ (b : ℕ). b == 1) (bit_at_ones_above count (s - first) (omega arith)))
  where
    back : (n : ℕ) → n ≤ 64 → 64 - (64 - n) ≡ n
    back n few = omega arith
