-- The segment of an address, among segments in the order of their addresses.
use Rattle.std.proofs.Common.{◌≡◌, ◌∙◌, ℕ, zero, suc, ◌+◌, ◌-◌, ◌<◌, ◌≤◌, Bool, true, false, find, List}
use Rattle.std.proofs.Common.{[], ◌∷◌, length, get_or, Some, None, refl, ap, sym, arith, inl, inr}
use Rattle.std.specs.List.Sorted.{IsNonDecreasingBy, IsPartitionPoint, IsPartitionedBy}
use Rattle.std.specs.Fn.{Called, ComputesKey}
use Rattle.std.proofs.Math.Dec.{leb}
use Rattle.std.proofs.lemmas.Bool.{cases_lt}
use Rattle.std.proofs.lemmas.Bool.Decides.{nat_tests, leb_tells}
use Rattle.std.proofs.lemmas.List.{get_or-map}
use Rattle.std.proofs.lemmas.List.Sorted.{IsPartitionedBy-leb, IsPartitionPoint-from_clause}
use denote.Param.Members.{Mut}
use denote.Ref.{Bor}
use Rattle.fd_image.specs.declared.parts.Seg.{Seg}
use Rattle.fd_image.specs.Image.{end_of, segment_out_of_order, begins_at_or_after, beside_the_one_before}
use Rattle.fd_image.specs.Physical.{has_address}
use Rattle.fd_image.proofs.Places.{length-beside, get_or-beside}
use Rattle.fd_image.proofs.Valid.{passes}

find-none : {X : Type 0} (test : X → Bool) (xs : List X) (d : X) → ((k : ℕ) → k < length xs → test (get_or xs k d) ≡ false) → find test xs ≡ None
find-none test [] d fails = refl
find-none test (x ∷ xs) d fails = rw (fails 0 (omega arith)) (find-none test xs d (λ k within. fails (suc k) (omega arith)))

pub find-at : {X : Type 0} (test : X → Bool) (xs : List X) (i : ℕ) (d : X) → i < length xs
    → ((k : ℕ) → k < i → test (get_or xs k d) ≡ false) → test (get_or xs i d) ≡ true → find test xs ≡ Some (get_or xs i d)
find-at test [] i d within fails passes = absurd (omega arith)
find-at test (x ∷ xs) zero d within fails passes = rw passes
find-at test (x ∷ xs) (suc i) d within fails passes =
    rw (fails 0 (omega arith)) (find-at test xs i d (omega arith) (λ k before. fails (suc k) (omega arith)) passes)

module _ (segs : List Seg) (kept : segment_out_of_order segs ≡ None) (d : Seg) where
  -- a segment ends at or before the beginning of the next
  next_apart : (k : ℕ) → suc k < length segs → end_of (get_or segs k d) ≤ (get_or segs (suc k) d).start
  next_apart k within =
      let test = passes begins_at_or_after (beside_the_one_before end_of segs) kept (suc k) (omega (arith, length-beside end_of segs)) (0, d) in
      let here : begins_at_or_after (end_of (get_or segs k d), get_or segs (suc k) d) ≡ true =
      ap (λ n. begins_at_or_after (n, get_or segs (suc k) d)) (sym (get_or-map end_of segs k d 0 (omega arith)))
      ∙ sym (ap begins_at_or_after (get_or-beside end_of segs (suc k) d within)) ∙ test in
      grind (arith, nat_tests)

  apart_by : (n j : ℕ) → suc (j + n) < length segs → end_of (get_or segs j d) ≤ (get_or segs (suc (j + n)) d).start
  apart_by zero j within = let same : j + 0 ≡ j = omega arith in rw same (next_apart j (omega arith))
  apart_by (suc n) j within =
      let same : j + suc n ≡ suc (j + n) = omega arith in
      let before = apart_by n j (omega arith) in
      let last = next_apart (suc (j + n)) (omega arith) in
      rw same (omega arith)

  -- and of each later one
  pub apart : (j k : ℕ) → j < k → k < length segs → end_of (get_or segs j d) ≤ (get_or segs k d).start
  apart j k before within =
      let place : suc (j + (k - j - 1)) ≡ k = omega arith in
      let ends = apart_by (k - j - 1) j (omega arith) in
      rw place at ends

-- a segment that has an address is the one that is found, since those before it end before it begins
pub only_segment : (pa : ℕ) (segs : List Seg) (i : ℕ) (d : Seg) → segment_out_of_order segs ≡ None → i < length segs
    → has_address pa (get_or segs i d) ≡ true → find (has_address pa) segs ≡ Some (get_or segs i d)
only_segment pa segs i d kept within has =
    find-at (has_address pa) segs i d within
    (λ k before.
    let ends = apart segs kept d k i before within in
    grind (arith, nat_tests, has, ends))
    has

-- the beginnings rise
starts_rise : (segs : List Seg) → segment_out_of_order segs ≡ None → IsNonDecreasingBy (λ seg. seg.start) segs
starts_rise segs kept i j d at_most within =
    elim (cases_lt i j) [
      | inl before ↦ omega (arith, apart segs kept d i j before within)
      | inr same ↦ let here : i ≡ j = omega arith in rw here (omega arith)
    ]

-- where the segments that begin at or before an address end
abbrev pub Splits : (pa : ℕ) → List Seg → ℕ → Type 0
Splits pa segs count = IsPartitionPoint (λ seg. leb seg.start pa ≡ true) (λ seg. leb seg.start pa ≡ false) segs count

-- `partition_point` finds it, by a closure that compares the beginning
pub Splits-from_search : (pa : ℕ) (segs : List Seg) (count : ℕ) {F : Type 0} {g : Mut F (Bor Seg × Unit {0}) Bool} {f : F}
    → ((q : Seg → Bool) → ComputesKey g q f → IsPartitionedBy q segs → IsPartitionPoint (λ y. q y ≡ true) (λ y. q y ≡ false) segs count)
    → segment_out_of_order segs ≡ None
    → ((a : Bor Seg × Unit {0}) (r : Bool) (f' : F) → Called g f a r f' → (r ≡ leb a.0.now.start pa) × (f' ≡ f)) → Splits pa segs count
Splits-from_search pa segs count partitioned kept calls =
    IsPartitionPoint-from_clause (λ seg. leb seg.start pa) segs count partitioned
    (IsPartitionedBy-leb (λ seg. seg.start) segs pa (starts_rise segs kept)) calls

module _ (pa : ℕ) (segs : List Seg) (count : ℕ) (kept : segment_out_of_order segs ≡ None) (splits : Splits pa segs count) (d : Seg) where
  -- a segment that begins behind the address doesn't have it
  behind : (k : ℕ) → count ≤ k → k < length segs → has_address pa (get_or segs k d) ≡ false
  behind k later within =
      let fails : leb (get_or segs k d).start pa ≡ false = splits.1 k d later within in
      grind (arith, nat_tests, fails, leb_tells (get_or segs k d).start pa)

  -- nor does one that ends before another begins that doesn't
  before : (k : ℕ) → suc k < count → count ≤ length segs → has_address pa (get_or segs k d) ≡ false
  before k earlier fits =
      let begins : leb (get_or segs (count - 1) d).start pa ≡ true = splits.0 (count - 1) d (omega arith) (omega arith) in
      let ends = apart segs kept d k (count - 1) (omega arith) (omega arith) in
      grind (arith, nat_tests, begins, ends, leb_tells (get_or segs (count - 1) d).start pa)

  pub no_segment : count ≡ 0 → find (has_address pa) segs ≡ None
  no_segment none = find-none (has_address pa) segs d (λ k within. behind k (omega arith) within)

  pub last_segment : 0 < count → count ≤ length segs → has_address pa (get_or segs (count - 1) d) ≡ true
      → find (has_address pa) segs ≡ Some (get_or segs (count - 1) d)
  last_segment some fits has =
      find-at (has_address pa) segs (count - 1) d (omega arith) (λ k earlier. before k (omega arith) fits) has

  pub not_last_segment : 0 < count → count ≤ length segs → has_address pa (get_or segs (count - 1) d) ≡ false
      → find (has_address pa) segs ≡ None
  not_last_segment some fits has_not =
      find-none (has_address pa) segs d (λ k within. elim (cases_lt (suc k) count) [
        | inl earlier ↦ before k earlier fits
        | inr later ↦ elim (cases_lt k count) [
          | inl last ↦ let here : k ≡ count - 1 = omega arith in rw here has_not
          | inr past ↦ behind k past within
        ]
      ])
