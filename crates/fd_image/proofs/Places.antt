-- The least place of a list that fails a test, also where the test compares each item with the one before.
use Rattle.std.proofs.Common.{◌≡◌, ℕ, ◌+◌, ◌<◌, ◌≤◌, Bool, true, false, not, List, [], ◌∷◌, length, map, get_or, Some, None, ap, sym, ◌∙◌, refl, arith}
use Rattle.std.specs.List.{position_or_len}
use Rattle.std.proofs.lemmas.List.Sums.{position_or_len_is}
use Rattle.std.proofs.lemmas.List.{get_or-map, get_or_default, length-map}
use Rattle.std.proofs.lemmas.Slice.Zip.{get_or-zip, length-zip}
use Rattle.std.proofs.lemmas.Bool.Decides.{nat_tests}
use Rattle.std.proofs.Math.Numerals.{add-one}
use borrow.Author.Count.{below_more}
use Rattle.fd_image.specs.Image.{first_failing, beside_the_one_before}

-- all items before this one pass, and this one fails
pub first_failing-at : {X : Type 0} (test : X → Bool) (xs : List X) (i : ℕ) (d : X) → i < length xs
    → ((k : ℕ) → k < i → test (get_or xs k d) ≡ true) → test (get_or xs i d) ≡ false → first_failing test xs ≡ Some i
first_failing-at test xs i d within before here =
    let place : position_or_len (λ x. not (test x)) xs ≡ i = position_or_len_is (λ x. not (test x)) xs i d (omega arith) (λ k h. ap not (before k h)) (λ _. ap not here) in
    grind (arith, nat_tests)

-- all items pass
pub first_failing-none : {X : Type 0} (test : X → Bool) (xs : List X) (d : X) → ((k : ℕ) → k < length xs → test (get_or xs k d) ≡ true) → first_failing test xs ≡ None
first_failing-none test xs d passes =
    let place : position_or_len (λ x. not (test x)) xs ≡ length xs =
    position_or_len_is (λ x. not (test x)) xs (length xs) d (omega arith) (λ k h. ap not (passes k h)) (λ h. absurd (omega arith)) in
    grind (arith, nat_tests)

module _ {X : Type 0} (number : X → ℕ) (xs : List X) where
  pub length-beside : length (beside_the_one_before number xs) ≡ length xs
  length-beside = length-zip (0 ∷ map number xs) xs ∙ omega (arith, length-map xs number)

  pub get_or-beside : (i : ℕ) (d : X) → i < length xs → get_or (beside_the_one_before number xs) i (0, d) ≡ (get_or (0 ∷ map number xs) i 0, get_or xs i d)
  get_or-beside i d within = get_or-zip (0 ∷ map number xs) xs i (0, d) (omega (arith, length-map xs number)) within

-- the items before this place pass the test beside the ones before them, and this is the number that the last of them gives
pub record InOrder {X : Type 0} (test : ℕ × X → Bool) (number : X → ℕ) (xs : List X) (i before : ℕ) : Type 0 where
  pub before_is : before ≡ get_or (0 ∷ map number xs) i 0
  pub passes : (k : ℕ) → k < i → (d : X) → test (get_or (0 ∷ map number xs) k 0, get_or xs k d) ≡ true

module _ {X : Type 0} (test : ℕ × X → Bool) (number : X → ℕ) (xs : List X) where
  -- what the test says of the item here, at any default
  tested : (i before : ℕ) (x e d : X) (b : Bool) → InOrder test number xs i before → i < length xs → x ≡ get_or xs i e
      → test (before, x) ≡ b → test (get_or (0 ∷ map number xs) i 0, get_or xs i d) ≡ b
  tested i before x e d b so_far within read here =
      ap (λ n. test (n, get_or xs i d)) (sym so_far.before_is) ∙ (ap (λ y. test (before, y)) (get_or_default xs i d e within ∙ sym read) ∙ here)

  pub InOrder-more : (i before : ℕ) (x e : X) → InOrder test number xs i before → i < length xs → x ≡ get_or xs i e
      → test (before, x) ≡ true → InOrder test number xs (i + 1) (number x)
  InOrder-more i before x e so_far within read here = record {
    before_is = ap number read ∙ (sym (get_or-map number xs i e 0 within) ∙ ap (λ k. get_or (0 ∷ map number xs) k 0) (sym (add-one i)));
    passes = below_more (λ k. (d : X) → test (get_or (0 ∷ map number xs) k 0, get_or xs k d) ≡ true) i so_far.passes (λ d. tested i before x e d true so_far within read here);
  }

  -- the first item that fails
  pub InOrder-fails : (i before : ℕ) (x e : X) → InOrder test number xs i before → i < length xs → x ≡ get_or xs i e
      → test (before, x) ≡ false → first_failing test (beside_the_one_before number xs) ≡ Some i
  InOrder-fails i before x e so_far within read here =
      first_failing-at test (beside_the_one_before number xs) i (0, x) (omega (arith, length-beside number xs))
      (λ k h. ap test (get_or-beside number xs k x (omega arith)) ∙ so_far.passes k h x)
      (ap test (get_or-beside number xs i x within) ∙ tested i before x e x false so_far within read here)

-- no item fails
pub InOrder-end : {X : Type 0} (test : ℕ × X → Bool) (number : X → ℕ) (xs : List X) (i before : ℕ) → InOrder test number xs i before → length xs ≤ i
    → first_failing test (beside_the_one_before number xs) ≡ None
InOrder-end test number [] i before so_far past = refl
InOrder-end test number (x ∷ xs) i before so_far past =
    first_failing-none test (beside_the_one_before number (x ∷ xs)) (0, x) (λ k h.
    let within : k < length (x ∷ xs) = omega (arith, length-beside number (x ∷ xs)) in
    ap test (get_or-beside number (x ∷ xs) k x within) ∙ so_far.passes k (omega arith) x)
