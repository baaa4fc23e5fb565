-- The words of one page lie in one segment, or in none.
use Rattle.std.proofs.Common.{◌≡◌, ◌∙◌, ℕ, suc, ◌+◌, ◌%◌, ◌<◌, Bool, true, find, cond, List, [], ◌∷◌, length, get_or, Option, Some, None, option_map, if◌then◌else◌, refl, ap, arith, inl, inr}
use Rattle.std.proofs.lemmas.Bool.{cases_lt}
use Rattle.std.proofs.lemmas.Bool.Decides.{nat_tests}
use Rattle.fd_image.specs.declared.parts.Seg.{Seg}
use Rattle.fd_image.specs.Image.{MachineImage, IsValid, is_multiple, is_whole_pages}
use Rattle.fd_image.specs.Physical.{has_address, segment_of, word_in, word_of}
use Rattle.fd_image.proofs.Valid.{passes, rules_kept}

-- tests that agree on each item find the same
find-same : {X : Type 0} (f g : X → Bool) (xs : List X) → ((k : ℕ) → k < length xs → (d : X) → f (get_or xs k d) ≡ g (get_or xs k d)) → find f xs ≡ find g xs
find-same f g [] same = refl
find-same f g (x ∷ xs) same =
    ap (λ b. cond b (Some x) (find f xs)) (same 0 (omega arith) x)
    ∙ ap (λ o. cond (g x) (Some x) o) (find-same f g xs (λ k within d. same (suc k) (omega arith) d))

-- a segment of whole pages has all addresses of a page or none
has_address-same : (pa j : ℕ) (seg : Seg) → pa % 4096 + j < 4096 → is_whole_pages seg ≡ true → has_address (pa + j) seg ≡ has_address pa seg
has_address-same pa j seg inside whole =
    let start : seg.start % 4096 ≡ 0 = grind (arith, nat_tests) in
    let size : length seg.bytes % 4096 ≡ 0 = grind (arith, nat_tests) in
    elim (cases_lt pa seg.start) [
      | inl below ↦ let before : pa + j < seg.start = omega arith in grind (arith, nat_tests)
      | inr from ↦ elim (cases_lt pa (seg.start + length seg.bytes)) [
        | inl to ↦ let before : pa + j < seg.start + length seg.bytes = omega arith in grind (arith, nat_tests)
        | inr behind ↦ grind (arith, nat_tests)
      ]
    ]

pub segment-same_page : (m : MachineImage) (pa j : ℕ) → IsValid m → pa % 4096 + j < 4096 → segment_of m (pa + j) ≡ segment_of m pa
segment-same_page m pa j valid inside =
    find-same (has_address (pa + j)) (has_address pa) m.segs (λ k within d.
    has_address-same pa j (get_or m.segs k d) inside (passes is_whole_pages m.segs (rules_kept m valid.unbroken).segments_whole k within d))

-- the word at an address, by the segment in which it lies
pub word_of-in : (m : MachineImage) (pa : ℕ) (found : Option Seg) → pa % 8 ≡ 0 → segment_of m pa ≡ found → word_of m pa ≡ option_map (λ seg. word_in seg pa) found
unfolding word_of
word_of-in m pa found aligned lies =
    let multiple : is_multiple 8 pa ≡ true = grind (arith, nat_tests) in
    ap (λ b. if b then option_map (λ seg. word_in seg pa) (segment_of m pa) else None) multiple
    ∙ ap (λ o. option_map (λ seg. word_in seg pa) o) lies
