-- Elements that each have addresses from one up to an end, by rising address, and which of them has an address.
use Rattle.std.proofs.Common.{◌≡◌, ℕ, zero, suc, ◌<◌, ◌≤◌, Bool, true, false, ◌&&◌, nat_le, nat_lt, cond, List, [], ◌∷◌, length, get_or, Some, None, refl, ap, ◌∙◌, arith}
use Rattle.std.specs.List.{find}
use Rattle.std.proofs.lemmas.Bool.Decides.{nat_tests}

has_not : (low end va : ℕ) → end ≤ va → (nat_le low va && nat_lt va end) ≡ false
has_not low end va past = grind (arith, nat_tests)

has_none : (low end va : ℕ) → va < low → (nat_le low va && nat_lt va end) ≡ false
has_none low end va below = grind (arith, nat_tests)

has_it : (low end va : ℕ) → low ≤ va → va < end → (nat_le low va && nat_lt va end) ≡ true
has_it low end va from below = grind (arith, nat_tests)

module _ {X : Type 0} (address end : X → ℕ) where
  -- each from an address at or above the end of the one before
  abbrev pub Rises : (least : ℕ) → List X → Type 0
  Rises least [] = Unit {0}
  Rises least (x ∷ xs) = (least ≤ address x) × (address x ≤ end x) × Rises (end x) xs

  abbrev pub has : (va : ℕ) → X → Bool
  has va x = nat_le (address x) va && nat_lt va (end x)

  skipped : (va : ℕ) (x : X) (xs : List X) → has va x ≡ false → find (has va) (x ∷ xs) ≡ find (has va) xs
  skipped va x xs test = ap (λ b. cond b (Some x) (find (has va) xs)) test

  -- no element has an address below all
  pub none_above : (va least : ℕ) (xs : List X) → va < least → Rises least xs → find (has va) xs ≡ None
  none_above va least [] below rise = refl
  none_above va least (x ∷ xs) below rise =
      let from : least ≤ address x = rise.0 in
      let more : address x ≤ end x = rise.1 in
      skipped va x xs (has_none (address x) (end x) va (omega arith)) ∙ none_above va (end x) xs (omega arith) rise.2

  -- addresses from the least on
  pub from_least : (least k : ℕ) (d : X) (xs : List X) → Rises least xs → k < length xs → least ≤ address (get_or xs k d)
  from_least least k d [] rise inside = absurd (omega arith)
  from_least least zero d (x ∷ xs) rise inside = rise.0
  from_least least (suc k) d (x ∷ xs) rise inside =
      let later = from_least (end x) k d xs rise.2 (omega arith) in
      let from : least ≤ address x = rise.0 in
      let more : address x ≤ end x = rise.1 in
      omega arith

  -- the element that has an address is found
  pub found_at : (va least k : ℕ) (d : X) (xs : List X) → Rises least xs → k < length xs → address (get_or xs k d) ≤ va → va < end (get_or xs k d)
      → find (has va) xs ≡ Some (get_or xs k d)
  found_at va least k d [] rise inside low high = absurd (omega arith)
  found_at va least zero d (x ∷ xs) rise inside low high = ap (λ b. cond b (Some x) (find (has va) xs)) (has_it (address x) (end x) va low high)
  found_at va least (suc k) d (x ∷ xs) rise inside low high =
      let before = from_least (end x) k d xs rise.2 (omega arith) in
      skipped va x xs (has_not (address x) (end x) va (omega arith)) ∙ found_at va (end x) k d xs rise.2 (omega arith) low high

  -- none has an address behind the last of those that begin below
  pub none_between : (va least i : ℕ) (d : X) (xs : List X) → Rises least xs → i < length xs → end (get_or xs i d) ≤ va
      → ((k : ℕ) → i < k → k < length xs → va < address (get_or xs k d)) → find (has va) xs ≡ None
  none_between va least i d [] rise inside past above = absurd (omega arith)
  none_between va least zero d (x ∷ xs) rise inside past above =
      skipped va x xs (has_not (address x) (end x) va past) ∙ rest xs rise.2 (λ k below. above (suc k) (omega arith) (omega arith))
    where
      rest : (xs : List X) → Rises (end x) xs → ((k : ℕ) → k < length xs → va < address (get_or xs k d)) → find (has va) xs ≡ None
      rest [] rise each = refl
      rest (y ∷ ys) rise each = none_above va (address y) (y ∷ ys) (each 0 (omega arith)) (omega arith, rise.1, rise.2)
  none_between va least (suc i) d (x ∷ xs) rise inside past above =
      let before = from_least (end x) i d xs rise.2 (omega arith) in
      let itself = ends_from (end x) i d xs rise.2 (omega arith) in
      skipped va x xs (has_not (address x) (end x) va (omega arith)) ∙ none_between va (end x) i d xs rise.2 (omega arith) past (λ k behind below. above (suc k) (omega arith) (omega arith))
    where
      ends_from : (least k : ℕ) (d : X) (xs : List X) → Rises least xs → k < length xs → least ≤ end (get_or xs k d)
      ends_from least k d [] rise inside = absurd (omega arith)
      ends_from least zero d (x ∷ xs) rise inside = let from : least ≤ address x = rise.0 in let more : address x ≤ end x = rise.1 in omega arith
      ends_from least (suc k) d (x ∷ xs) rise inside =
          let later = ends_from (end x) k d xs rise.2 (omega arith) in
          let from : least ≤ address x = rise.0 in
          let more : address x ≤ end x = rise.1 in
          omega arith
