-- The segment that has an address, found by halves.
use Rattle.std.proofs.Common.{◌≡◌, ℕ, zero, suc, ◌+◌, ◌-◌, ◌<◌, ◌≤◌, Bool, true, false, leb, leb-true, cond, List, [], ◌∷◌, length, get_or, max, Some, None, IfSome, refl, ap, ◌∙◌, sym, subst, arith}
use Rattle.std.specs.Bool.{then_some}
use Rattle.std.specs.List.{find}
use Rattle.std.specs.List.Sorted.{IsNonDecreasingBy, IsPartitionPoint}
use Rattle.std.proofs.lemmas.Bool.Decides.{nat_tests}
use Rattle.fd_elfcore.specs.Elf.{rise_from}
use Rattle.fd_elfcore.specs.ElfAnswer.{has_address, segment_with}
use Rattle.fd_elfcore.specs.ElfParts.{HasAddress}
use Rattle.fd_elfcore.specs.Opening.{end_of, file_end_of, greatest_end}
use Rattle.fd_elfcore.specs.declared.segment.Segment.{Segment}
use Rattle.fd_elfcore.proofs.Headers.{each_lies, rises}
use Rattle.fd_elfcore.proofs.Rising.{Rises, found_at, from_least, none_above, none_between}

abbrev pub first : Segment → ℕ
first s = s.address

in_order : (least i j : ℕ) (d : Segment) (segments : List Segment) → Rises first end_of least segments → i ≤ j → j < length segments → first (get_or segments i d) ≤ first (get_or segments j d)
in_order least i j d [] rise up inside = absurd (omega arith)
in_order least zero j d (s ∷ later) rise up inside = from_least first end_of (first s) j d (s ∷ later) (omega arith, rise.1, rise.2) inside
in_order least (suc i) zero d (s ∷ later) rise up inside = absurd (omega arith)
in_order least (suc i) (suc j) d (s ∷ later) rise up inside = in_order (end_of s) i j d later rise.2 (omega arith) (omega arith)

pub ordered : (segments : List Segment) → rise_from 0 segments ≡ true → IsNonDecreasingBy first segments
ordered segments rise i j d up inside = in_order 0 i j d segments (rises 0 segments rise) up inside

-- where the segments that begin at or below an address end
abbrev pub Splits : (va : ℕ) → List Segment → ℕ → Type 0
Splits va segments count = IsPartitionPoint (λ s. leb (first s) va ≡ true) (λ s. leb (first s) va ≡ false) segments count

above : (va count k : ℕ) (d : Segment) (segments : List Segment) → Splits va segments count → count ≤ k → k < length segments → va < first (get_or segments k d)
above va count k d segments splits past inside =
    let fails : leb (first (get_or segments k d)) va ≡ false = splits.1 k d past inside in
    grind (arith, nat_tests)

pub none_below : (va : ℕ) (segments : List Segment) → rise_from 0 segments ≡ true → Splits va segments 0 → None ≡ segment_with segments va
none_below va [] rise splits = refl
none_below va (s ∷ later) rise splits =
    let r = rises 0 (s ∷ later) rise in
    sym (none_above first end_of va (first s) (s ∷ later) (above va 0 0 s (s ∷ later) splits (omega arith) (omega arith)) (omega arith, r.1, r.2))

pub last_below :
    (va count : ℕ) (d : Segment) (test : Bool) (segments : List Segment) → rise_from 0 segments ≡ true → count ≤ length segments → (count ≡ 0 → ⊥) → Splits va segments count
    → (test ≡ true → (first (get_or segments (count - 1) d) ≤ va) × (va < end_of (get_or segments (count - 1) d)))
    → ((first (get_or segments (count - 1) d) ≤ va) × (va < end_of (get_or segments (count - 1) d)) → test ≡ true)
    → then_some test (get_or segments (count - 1) d) ≡ segment_with segments va
last_below va count d true segments rise inside some splits has does =
    let h = has refl in
    sym (found_at first end_of va 0 (count - 1) d segments (rises 0 segments rise) (omega arith) h.0 h.1)
last_below va count d false segments rise inside some splits has does =
    let low : first (get_or segments (count - 1) d) ≤ va = leb-true (first (get_or segments (count - 1) d)) va (splits.0 (count - 1) d (omega arith) (omega arith)) in
    sym (none_between first end_of va 0 (count - 1) d segments (rises 0 segments rise) (omega arith)
    (not_below (end_of (get_or segments (count - 1) d)) va (λ below. absurd (let e : false ≡ true = does (low, below) in cc)))
    (λ k behind within. above va count k d segments splits (omega arith) within))
  where
    not_below : (end va : ℕ) → (va < end → ⊥) → end ≤ va
    not_below end va never = omega arith

pub last_has :
    (va count : ℕ) (d : Segment) (test : Bool) (segments : List Segment) → rise_from 0 segments ≡ true → count ≤ length segments → (count ≡ 0 → ⊥)
    → (test ≡ true → (first (get_or segments (count - 1) d) ≤ va) × (va < end_of (get_or segments (count - 1) d)))
    → IfSome (then_some test (get_or segments (count - 1) d)) (HasAddress va)
last_has va count d false segments rise inside some has = tt
last_has va count d true segments rise inside some has =
    let l = each_lies 0 (count - 1) d segments rise (omega arith) in
    let h = has refl in
    record { from = h.0; below = h.1; low = l.file_end }

-- what is found ends no later than the greatest end
pub end_within : (p : Segment → Bool) (segments : List Segment) (s : Segment) → find p segments ≡ Some s → file_end_of s ≤ greatest_end segments
end_within p [] s found = absurd (cc)
end_within p (x ∷ later) s found = by_test (end_within p later s) (p x) found
  where
    by_test : (find p later ≡ Some s → file_end_of s ≤ greatest_end later) → (t : Bool) → cond t (Some x) (find p later) ≡ Some s → file_end_of s ≤ max (file_end_of x) (greatest_end later)
    by_test rest true found =
        let same : x ≡ s = cc in
        let P : Segment → Type 0 = λ (y : Segment). file_end_of y ≤ max (file_end_of x) (greatest_end later) in
        subst P same (omega arith)
    by_test rest false found = let e = rest found in omega arith

low_of : (va : ℕ) (s : Segment) → has_address va s ≡ true → first s ≤ va
low_of va s test = grind (arith, nat_tests)

holds : (va : ℕ) (s : Segment) → first s ≤ va → va < end_of s → has_address va s ≡ true
holds va s low high = grind (arith, nat_tests)

past : (va : ℕ) (s : Segment) → end_of s ≤ va → has_address va s ≡ false
past va s ends = grind (arith, nat_tests)

-- what is found has the address, and lies from the least on
from_of :
    (va least : ℕ) (segments : List Segment) (segment : Segment) → Rises first end_of least segments → find (has_address va) segments ≡ Some segment
    → (least ≤ first segment) × (has_address va segment ≡ true)
from_of va least [] segment rise found = absurd (cc)
from_of va least (y ∷ ys) segment rise found = each (from_of va (end_of y) ys segment rise.2) (has_address va y) refl found
  where
    each : (find (has_address va) ys ≡ Some segment → (end_of y ≤ first segment) × (has_address va segment ≡ true)) → (t : Bool) → has_address va y ≡ t
        → cond t (Some y) (find (has_address va) ys) ≡ Some segment → (least ≤ first segment) × (has_address va segment ≡ true)
    each rest true test found =
        let same : y ≡ segment = cc in
        let P : Segment → Type 0 = λ (s : Segment). (least ≤ first s) × (has_address va s ≡ true) in
        subst P same (rise.0, test)
    each rest false test found =
        let later = rest found in
        let one : least ≤ first y = rise.0 in
        let two : first y ≤ end_of y = rise.1 in
        let three : end_of y ≤ first segment = later.0 in
        (omega arith, later.1)

found_from :
    (va i least : ℕ) (segments : List Segment) (segment : Segment) → Rises first end_of least segments → va + i < end_of segment
    → find (has_address va) segments ≡ Some segment → find (has_address (va + i)) segments ≡ Some segment
found_from va i least [] segment rise below found = absurd (cc)
found_from va i least (x ∷ later) segment rise below found = by_test (found_from va i (end_of x) later segment rise.2 below) (has_address va x) refl found
  where
    by_test : (find (has_address va) later ≡ Some segment → find (has_address (va + i)) later ≡ Some segment) → (t : Bool) → has_address va x ≡ t
        → cond t (Some x) (find (has_address va) later) ≡ Some segment → find (has_address (va + i)) (x ∷ later) ≡ Some segment
    by_test rest true test found =
        let same : x ≡ segment = cc in
        let low = low_of va x test in
        let P : Segment → Type 0 = λ (s : Segment). va + i < end_of s in
        let ends : va + i < end_of x = subst P (sym same) below in
        ap (λ b. cond b (Some x) (find (has_address (va + i)) later)) (holds (va + i) x (omega arith) ends) ∙ ap (λ (s : Segment). Some s) same
    by_test rest false test found =
        let from = from_of va (end_of x) later segment rise.2 found in
        let low = low_of va segment from.1 in
        let behind : end_of x ≤ first segment = from.0 in
        ap (λ b. cond b (Some x) (find (has_address (va + i)) later)) (past (va + i) x (omega arith)) ∙ rest found

-- the addresses behind it in the same segment are found there too
pub found_on : (va i : ℕ) (segments : List Segment) (segment : Segment) → rise_from 0 segments ≡ true → Some segment ≡ segment_with segments va
    → va + i < segment.address + segment.size → segment_with segments (va + i) ≡ Some segment
found_on va i segments segment rise found below = found_from va i 0 segments segment (rises 0 segments rise) below (sym found)
