-- The ranges of a valid image follow one another, page by page.
use Rattle.std.proofs.Common.{◌≡◌, ◌∙◌, ℕ, zero, suc, ◌%◌, ◌<◌, ◌≤◌, true, false, List, ◌∷◌, length, get_or, map, None, ap, sym, arith}
use Rattle.std.specs.Prelude.{All}
use Rattle.std.specs.List.{position_or_len}
use Rattle.std.proofs.lemmas.Bool.Decides.{nat_tests}
use Rattle.std.proofs.lemmas.List.{get_or-map, length-map}
use Rattle.std.proofs.lemmas.List.Sums.{position_or_len_is}
use Rattle.std.proofs.lemmas.Slice.Zip.{get_or-zip, length-zip}
use Rattle.fd_bitmap.specs.Pages.{first_page, end_page, is_bad, with_ends_before, first_bad}
use Rattle.fd_image.specs.Image.{MachineImage, IsValid, is_range_of_pages, pair_end, pair_begins_at_or_after, beside_the_one_before}
use Rattle.fd_image.proofs.Valid.{rules_kept, passes}
use Rattle.fd_image.proofs.Places.{length-beside, get_or-beside}
use Rattle.fd_dump.proofs.Limits.{pairs_of_pages}

-- the first pair
good_first : (pair : ℕ × ℕ) → is_range_of_pages pair ≡ true → is_bad (0, pair) ≡ false
good_first pair whole = grind (arith, nat_tests)

-- a pair behind another
good_next : (before pair : ℕ × ℕ) → is_range_of_pages before ≡ true → is_range_of_pages pair ≡ true → pair_begins_at_or_after (pair_end before, pair) ≡ true → is_bad (end_page before, pair) ≡ false
good_next before pair earlier whole follows =
    let ends : before.1 % 4096 ≡ 0 = grind (arith, nat_tests) in
    let some : pair.0 < pair.1 = grind (arith, nat_tests) in
    let order : before.1 ≤ pair.0 = grind (arith, nat_tests) in
    let page : end_page before ≤ first_page pair = omega arith in
    grind (arith, nat_tests)

module _ (pairs : List (ℕ × ℕ)) (whole : All (λ pair. is_range_of_pages pair ≡ true) pairs)
    (ordered : (k : ℕ) → k < length pairs → (d : ℕ × ℕ) → pair_begins_at_or_after (get_or (0 ∷ map pair_end pairs) k 0, get_or pairs k d) ≡ true) where
  good_at : (k : ℕ) (d : ℕ × ℕ) → k < length pairs → is_bad (get_or (0 ∷ map end_page pairs) k 0, get_or pairs k d) ≡ false
  good_at zero d within = good_first (get_or pairs 0 d) (whole 0 d within)
  good_at (suc k) d within =
      let end : get_or (map end_page pairs) k 0 ≡ end_page (get_or pairs k d) = get_or-map end_page pairs k d 0 (omega arith) in
      let address : get_or (map pair_end pairs) k 0 ≡ pair_end (get_or pairs k d) = get_or-map pair_end pairs k d 0 (omega arith) in
      ap (λ page. is_bad (page, get_or pairs (suc k) d)) end
      ∙ good_next (get_or pairs k d) (get_or pairs (suc k) d) (whole k d (omega arith)) (whole (suc k) d within)
      (ap (λ n. pair_begins_at_or_after (n, get_or pairs (suc k) d)) (sym address) ∙ ordered (suc k) within d)

  length-with_ends : length (with_ends_before pairs) ≡ length pairs
  length-with_ends = length-zip (0 ∷ map end_page pairs) pairs ∙ omega (arith, length-map pairs end_page)

  none_bad : first_bad pairs ≡ None
  none_bad =
      let place : position_or_len is_bad (with_ends_before pairs) ≡ length (with_ends_before pairs) =
      position_or_len_is is_bad (with_ends_before pairs) (length (with_ends_before pairs)) (0, (0, 0)) (omega arith)
      (λ k h. let within : k < length pairs = omega (arith, length-with_ends) in
      ap is_bad (get_or-zip (0 ∷ map end_page pairs) pairs k (0, (0, 0)) (omega (arith, length-map pairs end_page)) within) ∙ good_at k (0, 0) within)
      (λ h. absurd (omega arith)) in
      grind (arith, nat_tests)

pub ranges_good : (m : MachineImage) → IsValid m → first_bad m.avail ≡ None
ranges_good m valid =
    none_bad m.avail (pairs_of_pages m valid)
    (λ k within d. ap pair_begins_at_or_after (sym (get_or-beside pair_end m.avail k d within))
    ∙ passes pair_begins_at_or_after (beside_the_one_before pair_end m.avail) (rules_kept m valid.unbroken).pairs_in_order k (omega (arith, length-beside pair_end m.avail)) (0, d))
