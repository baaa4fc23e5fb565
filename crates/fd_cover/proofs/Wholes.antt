-- Which rising intervals have just the numbers below a length, and which have none.
use Rattle.std.proofs.Common.{◌≡◌, ℕ, ◌+◌, ◌<◌, ◌≤◌, Bool, true, false, nat_lt, nat_eq, ◌||◌, ◌↔◌, List, [], ◌∷◌, length, get_or, IsTrue, refl, sym, ◌∙◌, ap, arith, ◌==◌}
use Rattle.std.proofs.lemmas.Bool.{ltb-true, ltb-false}
use Rattle.std.proofs.lemmas.Bool.Decides.{nat_tests}
use Rattle.fd_cover.specs.declared.interval.Interval.{Interval}
use Rattle.fd_cover.specs.Intervals.{is_between, IsWhole, IsNone, has, AreRising}
use Rattle.fd_cover.proofs.Adding.{has-below}

has-first : (r : Interval) (rs : List Interval) → r.from < r.to → has (r ∷ rs) r.from ≡ true
has-first r rs some = ap (λ (b : Bool). b || has rs r.from) (first r.from r.to some)
  where
    first : (a b : ℕ) → a < b → is_between a b a ≡ true
    first a b lt = grind (arith, nat_tests)

pub none-empty : (rs : List Interval) → AreRising 0 rs → IsNone (has rs) → length rs ≡ 0
none-empty [] rising none = refl
none-empty (r ∷ rs) rising none = let e = sym (has-first r rs rising.1) ∙ none r.from in absurd (cc)

pub one-whole : (r : Interval) (len : ℕ) → r.from < r.to → IsWhole (has (r ∷ [])) len → (r.from ≡ 0) × (r.to ≡ len)
one-whole r len some whole =
    let first : r.from < len = ltb-true r.from len (sym (whole r.from) ∙ has-first r [] some) in
    ends r.from r.to len some first (or_none _ ∙ whole 0) (or_none _ ∙ whole r.to) (or_none _ ∙ whole len)
  where
    or_none : (b : Bool) → b ≡ (b || false)
    or_none true = refl
    or_none false = refl

    ends : (a b n : ℕ) → a < b → a < n → is_between a b 0 ≡ nat_lt 0 n → is_between a b b ≡ nat_lt b n → is_between a b n ≡ nat_lt n n → (a ≡ 0) × (b ≡ n)
    ends a b n some below zero_in b_in n_in = (grind (arith, nat_tests), grind (arith, nat_tests))

pub whole-one : (r : Interval) (len : ℕ) → r.from ≡ 0 → r.to ≡ len → IsWhole (has (r ∷ [])) len
whole-one r len from to i = or_none _ ∙ within r.from r.to from to
  where
    or_none : (b : Bool) → (b || false) ≡ b
    or_none true = refl
    or_none false = refl

    within : (a b : ℕ) → a ≡ 0 → b ≡ len → is_between a b i ≡ nat_lt i len
    within a b is_a is_b = grind (arith, nat_tests)

pub two-not-whole : (rs : List Interval) (len : ℕ) → AreRising 0 rs → 2 ≤ length rs → IsWhole (has rs) len → ⊥
two-not-whole [] len rising more whole = absurd (omega arith)
two-not-whole (r ∷ []) len rising more whole = absurd (omega arith)
two-not-whole (r ∷ (s ∷ rs)) len rising more whole =
    let gap : has (r ∷ (s ∷ rs)) r.to ≡ false =
    ap (λ (b : Bool). b || has (s ∷ rs) r.to) (past r.from r.to) ∙ has-below (s ∷ rs) (r.to + 1) r.to rising.2 (omega arith) in
    let end : len ≤ r.to = ltb-false r.to len (sym (whole r.to) ∙ gap) in
    let later : has (r ∷ (s ∷ rs)) s.from ≡ true = or_late _ _ (has-first s rs rising.2.1) in
    let below : s.from < len = ltb-true s.from len (sym (whole s.from) ∙ later) in
    absurd (omega (arith, rising.2.0))
  where
    past : (a b : ℕ) → is_between a b b ≡ false
    past a b = grind (arith, nat_tests)

    or_late : (x y : Bool) → y ≡ true → (x || y) ≡ true
    or_late true y is = refl
    or_late false y is = is

to_test : (a b : ℕ) → a ≡ b → nat_eq a b ≡ true
to_test a b e = grind (arith, nat_tests)

of_test : (a b : ℕ) → nat_eq a b ≡ true → a ≡ b
of_test a b e = grind (arith, nat_tests)

pub one_from : (xs : List Interval) (d : Interval) (len : ℕ) → AreRising 0 xs → 1 ≤ length xs → length xs < 2 → (get_or xs 0 d).from ≡ 0
    → IsTrue (nat_eq (get_or xs 0 d).to len) ↔ IsWhole (has xs) len
one_from [] d len rising some one from = absurd (omega arith)
one_from (r ∷ (s ∷ xs)) d len rising some one from = absurd (omega arith)
one_from (r ∷ []) d len rising some one from =
    ((λ is. whole-one r len from (of_test r.to len is)), (λ whole. to_test r.to len (one-whole r len rising.1 whole).1))

pub one_later : (xs : List Interval) (d : Interval) (len : ℕ) → AreRising 0 xs → 1 ≤ length xs → length xs < 2 → ((get_or xs 0 d).from ≡ 0 → ⊥)
    → IsTrue (nat_eq (get_or xs 0 d).from 0) ↔ IsWhole (has xs) len
one_later [] d len rising some one from = absurd (omega arith)
one_later (r ∷ (s ∷ xs)) d len rising some one from = absurd (omega arith)
one_later (r ∷ []) d len rising some one from =
    ((λ is. absurd (from (of_test r.from 0 is))), (λ whole. absurd (from (one-whole r len rising.1 whole).0)))

pub none-has : (rs : List Interval) → length rs ≡ 0 → IsNone (has rs)
none-has [] none i = refl
none-has (r ∷ rs) none i = absurd (omega arith)

pub is_zero : (xs : List Interval) (b : Bool) (n : ℕ) → AreRising 0 xs → b ≡ (n == 0) → n ≡ length xs → IsTrue b ↔ IsNone (has xs)
is_zero xs b n rising is len =
    ((λ yes_. none-has xs (sym len ∙ of_test n 0 (sym is ∙ yes_))), (λ none. is ∙ to_test n 0 (len ∙ none-empty xs rising none)))
