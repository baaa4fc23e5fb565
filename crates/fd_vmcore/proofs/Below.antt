-- The pages of ranges that end below 2^64 are below 2^52, and no address of 2^64 or more has one of them.
use Rattle.std.proofs.Common.{◌≡◌, ℕ, zero, suc, ◌+◌, ◌-◌, ◌/◌, ◌^◌, ◌<◌, ◌≤◌, ◌==◌, List, [], ◌∷◌, get_or, Option, Some, None, true, refl, ap, arith}
use Rattle.std.proofs.lemmas.List.Elements.{All-nil, All-cons, All-head, All-tail, All-append, All-get_or}
use Rattle.std.proofs.lemmas.List.Quantifiers.{position-Some}
use Rattle.std.specs.Option.{option_and_then}
use Rattle.std.proofs.lemmas.Bool.Decides.{nat_tests}
use Rattle.fd_bitmap.specs.Pages.{consecutive, first_page, end_page, pages_of, bit_of}
use Rattle.fd_vmcore.specs.Kept.{AreBelow}
use Rattle.fd_vmcore.specs.Parts.{EndBelow}
use Rattle.fd_vmcore.specs.Sections.{Sections, page_offset, offset_of_bit}

pub consecutive_below : (first count : ℕ) → (0 < count → first + count ≤ 2 ^ 52) → AreBelow (consecutive first count)
unfolding consecutive
consecutive_below first zero ends = All-nil (λ (page : ℕ). page < 2 ^ 52)
consecutive_below first (suc count) ends =
    All-cons (λ (page : ℕ). page < 2 ^ 52) first (consecutive (first + 1) count) (let e = ends (omega arith) in omega arith)
    (consecutive_below (first + 1) count (λ some. let e = ends (omega arith) in omega arith))

pub pages_below : (pairs : List (ℕ × ℕ)) → EndBelow pairs → AreBelow (pages_of pairs)
pages_below [] ends = All-nil (λ (page : ℕ). page < 2 ^ 52)
pages_below (pair ∷ pairs) ends =
    let high : pair.1 < 2 ^ 64 = All-head (λ (p : ℕ × ℕ). p.1 < 2 ^ 64) pair pairs ends in
    let end : end_page pair ≤ 2 ^ 52 = grind arith in
    All-append (λ (page : ℕ). page < 2 ^ 52) (consecutive (first_page pair) (end_page pair - first_page pair)) (pages_of pairs)
    (consecutive_below (first_page pair) (end_page pair - first_page pair) (λ some. omega arith))
    (pages_below pairs (All-tail (λ (p : ℕ × ℕ). p.1 < 2 ^ 64) pair pairs ends))

is_same : (m n : ℕ) → (m == n) ≡ true → m ≡ n
is_same m n test = grind (arith, nat_tests)

none_if : (found : Option ℕ) → ((bit : ℕ) → found ≡ Some bit → ⊥) → found ≡ None
none_if None other = refl
none_if (Some bit) other = absurd (other bit refl)

no_bit : (pages : List ℕ) (pa : ℕ) → AreBelow pages → 2 ^ 64 ≤ pa → bit_of pages pa ≡ None
no_bit pages pa below high = none_if (bit_of pages pa) (λ bit found.
    let at = position-Some (λ page. page == pa / 4096) pages bit 0 found in
    let same : get_or pages bit 0 ≡ pa / 4096 = is_same (get_or pages bit 0) (pa / 4096) at.1 in
    let low = All-get_or (λ (page : ℕ). page < 2 ^ 52) pages bit 0 at.0 below in
    omega arith)

pub no_page : (s : Sections) (pa : ℕ) → AreBelow s.pages → 2 ^ 64 ≤ pa → page_offset s pa ≡ None
no_page s pa below high = ap (option_and_then (offset_of_bit s)) (no_bit s.pages pa below high)
