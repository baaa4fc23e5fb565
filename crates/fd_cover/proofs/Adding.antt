-- Rising intervals, and one more.
use Rattle.std.proofs.Common.{◌≡◌, ℕ, zero, suc, ◌+◌, ◌<◌, ◌≤◌, Bool, true, false, cond, nat_lt, ◌||◌, min, max, List, [], ◌∷◌, ◌++◌, drop, refl, sym, ◌∙◌, ap, arith}
use Rattle.std.proofs.lemmas.Bool.{cond_both, ltb-true, ltb-false}
use Rattle.std.proofs.lemmas.Bool.Decides.{nat_tests}
use Rattle.fd_cover.specs.declared.interval.Interval.{Interval}
use Rattle.fd_cover.specs.Intervals.{is_between, has, IsBeside, AreRising, AreBefore, with_interval}

-- two intervals that meet have what the least interval with both has
is_between-meeting : (f t a b i : ℕ) → f < t → a < b → a ≤ t → f ≤ b → is_between (min f a) (max t b) i ≡ (is_between f t i || is_between a b i)
is_between-meeting f t a b i some_f some_a le_a le_f = grind (arith, nat_tests)

or_swap : (x y z : Bool) → (x || (y || z)) ≡ (y || (x || z))
or_swap true true z = refl
or_swap true false z = refl
or_swap false true z = refl
or_swap false false z = refl

or_over : (x y z : Bool) → ((x || y) || z) ≡ (x || (y || z))
or_over true y z = refl
or_over false y z = refl

-- with one more interval there are its numbers, and those that there were
pub has-with_interval : (rs : List Interval) (least f t i : ℕ) → AreRising least rs → f < t → has (with_interval rs f t) i ≡ (is_between f t i || has rs i)
has-with_interval [] least f t i rising some = refl
has-with_interval (r ∷ rs) least f t i rising some =
    cond_both (nat_lt t r.from) _ _ (λ (l : List Interval). has l i ≡ (is_between f t i || has (r ∷ rs) i))
    (λ before. refl)
    (λ reaches. cond_both (nat_lt r.to f) _ _ (λ (l : List Interval). has l i ≡ (is_between f t i || has (r ∷ rs) i))
    (λ behind.
    ap (λ (b : Bool). is_between r.from r.to i || b) (has-with_interval rs (r.to + 1) f t i rising.2 some)
    ∙ or_swap (is_between r.from r.to i) (is_between f t i) (has rs i))
    (λ meets.
    let le_a : r.from ≤ t = ltb-false t r.from reaches in
    let le_f : f ≤ r.to = ltb-false r.to f meets in
    let both : min f r.from < max t r.to = omega arith in
    has-with_interval rs (r.to + 1) (min f r.from) (max t r.to) i rising.2 both
    ∙ ap (λ (b : Bool). b || has rs i) (is_between-meeting f t r.from r.to i some rising.1 le_a le_f)
    ∙ or_over (is_between f t i) (is_between r.from r.to i) (has rs i)))

pub rising-less : (rs : List Interval) (least less : ℕ) → less ≤ least → AreRising least rs → AreRising less rs
rising-less [] least less le rising = tt
rising-less (r ∷ rs) least less le rising = (omega (arith, rising.0), rising.1, rising.2)

-- and they still rise
pub rising-with_interval : (rs : List Interval) (least f t : ℕ) → AreRising least rs → least ≤ f → f < t → AreRising least (with_interval rs f t)
rising-with_interval [] least f t rising from some = (from, some, tt)
rising-with_interval (r ∷ rs) least f t rising from some =
    cond_both (nat_lt t r.from) _ _ (AreRising least)
    (λ before. let lt = ltb-true t r.from before in (from, some, (omega arith, rising.1, rising.2)))
    (λ reaches. cond_both (nat_lt r.to f) _ _ (AreRising least)
    (λ behind. let lt = ltb-true r.to f behind in (rising.0, rising.1, rising-with_interval rs (r.to + 1) f t rising.2 (omega arith) some))
    (λ meets.
    let low : least ≤ min f r.from = omega (arith, rising.0) in
    let both : min f r.from < max t r.to = omega (arith, rising.1) in
    rising-with_interval rs least (min f r.from) (max t r.to) (rising-less rs (r.to + 1) least (omega (arith, rising.0, rising.1)) rising.2) low both))

-- what is left of rising intervals rises
pub rising-drop : (rs : List Interval) (least k : ℕ) → AreRising least rs → AreRising least (drop k rs)
rising-drop rs least zero rising = rising
rising-drop [] least (suc k) rising = tt
rising-drop (r ∷ rs) least (suc k) rising = rising-drop rs least k (rising-less rs (r.to + 1) least (omega (arith, rising.0, rising.1)) rising.2)

-- one more interval at the end that ends before a number
pub before-more : (xs : List Interval) (f : ℕ) (r : Interval) → AreBefore f xs → r.to < f → AreBefore f (xs ++ r ∷ [])
before-more [] f r before ends = (ends, tt)
before-more (x ∷ xs) f r before ends = (before.0, before-more xs f r before.1 ends)

-- the intervals that end before the new one stay
pub with_interval-behind : (xs ys : List Interval) (least f t : ℕ) → AreRising least (xs ++ ys) → AreBefore f xs → f < t → with_interval (xs ++ ys) f t ≡ xs ++ with_interval ys f t
with_interval-behind [] ys least f t rising before some = refl
with_interval-behind (x ∷ xs) ys least f t rising before some =
    let meeting : List Interval = with_interval (xs ++ ys) (min f x.from) (max t x.to) in
    ap (λ (b : Bool). cond b (record { from = f; to = t } ∷ x ∷ (xs ++ ys)) (cond (nat_lt x.to f) (x ∷ with_interval (xs ++ ys) f t) meeting)) (isnt x.from x.to f t rising.1 before.0 some)
    ∙ ap (λ (b : Bool). cond b (x ∷ with_interval (xs ++ ys) f t) meeting) (is x.to f before.0)
    ∙ ap (λ l. x ∷ l) (with_interval-behind xs ys (x.to + 1) f t rising.2 before.1 some)
  where
    isnt : (a b f t : ℕ) → a < b → b < f → f < t → nat_lt t a ≡ false
    isnt a b f t first second third = grind (arith, nat_tests)

    is : (b f : ℕ) → b < f → nat_lt b f ≡ true
    is b f lt = grind (arith, nat_tests)

-- the one that it meets becomes one with it
pub with_interval-meets : (r : Interval) (rs : List Interval) (f t : ℕ) → r.from ≤ t → f ≤ r.to → with_interval (r ∷ rs) f t ≡ with_interval rs (min f r.from) (max t r.to)
with_interval-meets r rs f t low high =
    let joint : List Interval = with_interval rs (min f r.from) (max t r.to) in
    ap (λ (b : Bool). cond b (record { from = f; to = t } ∷ r ∷ rs) (cond (nat_lt r.to f) (r ∷ with_interval rs f t) joint)) (isnt r.from t low)
    ∙ ap (λ (b : Bool). cond b (r ∷ with_interval rs f t) joint) (isnt f r.to high)
  where
    isnt : (a b : ℕ) → a ≤ b → nat_lt b a ≡ false
    isnt a b le = grind (arith, nat_tests)

-- where all begin behind it, it comes in front
pub with_interval-front : (rs : List Interval) (f t : ℕ) → AreRising (t + 1) rs → with_interval rs f t ≡ record { from = f; to = t } ∷ rs
with_interval-front [] f t rising = refl
with_interval-front (r ∷ rs) f t rising =
    ap (λ (b : Bool). cond b (record { from = f; to = t } ∷ r ∷ rs) (cond (nat_lt r.to f) (r ∷ with_interval rs f t) (with_interval rs (min f r.from) (max t r.to)))) (is t r.from rising.0)
  where
    is : (a b : ℕ) → a + 1 ≤ b → nat_lt a b ≡ true
    is a b le = grind (arith, nat_tests)

-- no number is beside an interval that others lie apart from
pub has-append : (xs ys : List Interval) (i : ℕ) → has (xs ++ ys) i ≡ (has xs i || has ys i)
has-append [] ys i = refl
has-append (x ∷ xs) ys i = ap (λ (b : Bool). is_between x.from x.to i || b) (has-append xs ys i) ∙ sym (or_over (is_between x.from x.to i) (has xs i) (has ys i))

pub has-below : (rs : List Interval) (least i : ℕ) → AreRising least rs → i < least → has rs i ≡ false
has-below [] least i rising below = refl
has-below (r ∷ rs) least i rising below =
    let here : is_between r.from r.to i ≡ false = let le = rising.0 in grind (arith, nat_tests) in
    ap (λ (b : Bool). b || has rs i) here ∙ has-below rs (r.to + 1) i rising.2 (omega (arith, rising.0, rising.1))

has-past : (rs : List Interval) (f i : ℕ) → AreBefore f rs → f ≤ i + 1 → has rs i ≡ false
has-past [] f i before past = refl
has-past (r ∷ rs) f i before past = ap (λ (b : Bool). b || has rs i) (not_here r.from r.to f i before.0 past) ∙ has-past rs f i before.1 past
  where
    not_here : (a b f i : ℕ) → b < f → f ≤ i + 1 → is_between a b i ≡ false
    not_here a b f i lt le = grind (arith, nat_tests)

pub has-apart : (xs ys : List Interval) (f t i : ℕ) → AreBefore f xs → AreRising (t + 1) ys → IsBeside f t i → has (xs ++ ys) i ≡ false
has-apart xs ys f t i before behind is =
    has-append xs ys i ∙ ap (λ (b : Bool). b || has ys i) (has-past xs f i before is.low) ∙ has-below ys (t + 1) i behind (omega (arith, is.high))
