-- All addresses of a physical page have the same page of an image.
use Rattle.std.proofs.Common.{◌≡◌, ℕ, suc, ◌+◌, ◌-◌, ◌%◌, ◌<◌, ◌≤◌, Bool, true, cond, List, [], ◌∷◌, length, take, drop, get_or, find, slice_range, Option, Some, refl, sym, ◌∙◌, ap, arith}
use Rattle.std.specs.Option.{option_map}
use Rattle.std.proofs.lemmas.Bool.Decides.{nat_tests}
use Rattle.std.proofs.lemmas.List.{length-take-le, length-drop}
use Rattle.fd_image.specs.Image.{MachineImage, IsValid, is_whole_pages}
use Rattle.fd_image.specs.Physical.{has_address, segment_of, page_start, page_in, page_of}
use Rattle.fd_image.specs.declared.parts.Seg.{Seg}
use Rattle.fd_image.proofs.Pages.{page_begins, page_ends}
use Rattle.fd_image.proofs.Valid.{rules_kept, passes}

-- tests that pass on the same elements find the same
find_same : {X : Type 0} (p q : X → Bool) (xs : List X) → ((k : ℕ) → k < length xs → (d : X) → p (get_or xs k d) ≡ q (get_or xs k d)) → find p xs ≡ find q xs
find_same p q [] same = refl
find_same p q (x ∷ xs) same =
    ap (λ (b : Bool). cond b (Some x) (find p xs)) (same 0 (omega arith) x)
    ∙ ap (λ o. cond (q x) (Some x) o) (find_same p q xs (λ k within d. same (suc k) (omega arith) d))

-- the page of an address in a segment of whole pages
pub record IsPageIn (seg : Seg) (pa : ℕ) : Type 0 where
  pub begins : seg.start ≤ page_start pa
  pub ends : page_start pa - seg.start + 4096 ≤ length seg.bytes

pub page_inside : (seg : Seg) (pa : ℕ) → has_address pa seg ≡ true → is_whole_pages seg ≡ true → IsPageIn seg pa
page_inside seg pa has whole =
    let start : seg.start % 4096 ≡ 0 = grind (arith, nat_tests) in
    let long : length seg.bytes % 4096 ≡ 0 = grind (arith, nat_tests) in
    let from : seg.start ≤ pa = grind (arith, nat_tests) in
    let to : pa < seg.start + length seg.bytes = grind (arith, nat_tests) in
    record {
      begins = page_begins seg.start (length seg.bytes) pa start long from to;
      ends = page_ends seg.start (length seg.bytes) pa start long from to;
    }

pub length-page_in : (seg : Seg) (pa : ℕ) → IsPageIn seg pa → length (page_in seg pa) ≡ 4096
length-page_in seg pa inside =
    let at : ℕ = page_start pa - seg.start in
    let all : at + 4096 - at ≡ 4096 = omega arith in
    ap (λ n. length (take n (drop at seg.bytes))) all ∙ length-take-le 4096 (drop at seg.bytes) (omega (arith, length-drop at seg.bytes, inside.ends))

module _ (m : MachineImage) (valid : IsValid m) where
  -- all addresses of a page have the same page
  has_start : (pa : ℕ) (seg : Seg) → is_whole_pages seg ≡ true → has_address pa seg ≡ has_address (page_start pa) seg
  has_start pa seg whole =
      let start : seg.start % 4096 ≡ 0 = grind (arith, nat_tests) in
      let long : length seg.bytes % 4096 ≡ 0 = grind (arith, nat_tests) in
      grind (arith, nat_tests)

  pub segment_of-start : (pa : ℕ) → segment_of m pa ≡ segment_of m (page_start pa)
  segment_of-start pa =
      find_same (has_address pa) (has_address (page_start pa)) m.segs
      (λ k within d. has_start pa (get_or m.segs k d) (passes is_whole_pages m.segs (rules_kept m valid.unbroken).segments_whole k within d))

  pub page_of-start : (pa : ℕ) → page_of m pa ≡ page_of m (page_start pa)
  unfolding page_of
  page_of-start pa =
      let same : page_start (page_start pa) ≡ page_start pa = omega arith in
      ap (λ (s : Option Seg). option_map (λ (seg : Seg). page_in seg pa) s) (segment_of-start pa)
      ∙ ap (λ (n : ℕ). option_map (λ (seg : Seg). slice_range seg.bytes (n - seg.start) (n - seg.start + 4096)) (segment_of m (page_start pa))) (sym same)
