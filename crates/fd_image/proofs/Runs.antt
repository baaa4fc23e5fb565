-- The pages that follow one another in a segment.
use Rattle.std.proofs.Common.{◌≡◌, ◌∙◌, ℕ, zero, suc, ◌+◌, ◌-◌, ◌*◌, ◌%◌, ◌<◌, ◌≤◌, min, Bool, true, false, cond, find, List, [], ◌∷◌, length, get_or, drop, slice_range}
use Rattle.std.proofs.Common.{Option, Some, None, unwrap_or, option_map, refl, ap, sym, arith, length-take, length-drop}
use Rattle.std.proofs.lemmas.Bool.Decides.{nat_tests}
use Rattle.fd_image.specs.declared.parts.Seg.{Seg}
use Rattle.fd_image.specs.Image.{MachineImage, IsValid, end_of, is_whole_pages}
use Rattle.fd_image.specs.Physical.{has_address, segment_of, page_start, page_in, page_of, pages_in, pages_from}
use Rattle.fd_image.proofs.Segments.{apart, find-at}
use Rattle.fd_image.proofs.Slices.{slice-slice}
use Rattle.fd_image.proofs.Valid.{rules_kept, segment_found}

-- where an item stands that was found
record IsFoundAt {X : Type 0} (test : X → Bool) (xs : List X) (x : X) : Type 0 where
  place : ℕ
  within : place < length xs
  is : get_or xs place x ≡ x
  before : (k : ℕ) → k < place → test (get_or xs k x) ≡ false

found_at : {X : Type 0} (test : X → Bool) (xs : List X) (x : X) → find test xs ≡ Some x → IsFoundAt test xs x
found_at test [] x e = absurd cc
found_at {X = X} test (y ∷ ys) x e = here (test y) refl e (λ rest. found_at test ys x rest)
  where
    earlier : (b : Bool) → test y ≡ b → (k : ℕ) → k < 1 → test (get_or (y ∷ ys) k x) ≡ b
    earlier b is zero below = is
    earlier b is (suc k) below = absurd (omega arith)

    later : test y ≡ false → (place : ℕ) → ((k : ℕ) → k < place → test (get_or ys k x) ≡ false) → (k : ℕ) → k < suc place → test (get_or (y ∷ ys) k x) ≡ false
    later is place fails zero below = is
    later is place fails (suc k) below = fails k (omega arith)

    here : (b : Bool) → test y ≡ b → cond b (Some y) (find test ys) ≡ Some x → (find test ys ≡ Some x → IsFoundAt test ys x) → IsFoundAt test (y ∷ ys) x
    here true is e rest = record { place = 0; within = omega arith; is = cc; before = λ k below. absurd (omega arith) }
    here false is e rest =
        let at = rest e in
        record { place = suc at.place; within = omega (arith, at.within); is = at.is; before = later is at.place at.before }

-- an address further on in a segment is of the same segment
same_segment : (m : MachineImage) (pa further : ℕ) (seg : Seg) → IsValid m → segment_of m pa ≡ Some seg → pa ≤ further → further < end_of seg → segment_of m further ≡ Some seg
same_segment m pa further seg valid e from to =
    let at = found_at (has_address pa) m.segs seg e in
    let has : has_address pa seg ≡ true = (segment_found m pa seg valid e).0 in
    let has_further : has_address further seg ≡ true = grind (arith, nat_tests) in
    find-at (has_address further) m.segs at.place seg at.within
    (λ k below. let ends = apart m.segs (rules_kept m valid.unbroken).segments_in_order seg k at.place below at.within in
    behind k (rw at.is at ends) has) (ap (has_address further) at.is ∙ has_further)
    ∙ ap Some at.is
  where
    behind : (k : ℕ) → end_of (get_or m.segs k seg) ≤ seg.start → has_address pa seg ≡ true → has_address further (get_or m.segs k seg) ≡ false
    behind k ends has = grind (arith, nat_tests)

pages_from-some : (m : MachineImage) (pa most : ℕ) (seg : Seg) → segment_of m pa ≡ Some seg → pages_from m pa most ≡ pages_in seg pa most
unfolding pages_from
pages_from-some m pa most seg e = ap (λ (o : Option Seg). unwrap_or (option_map (λ s. pages_in s pa most) o) []) e

pages_from-none : (m : MachineImage) (pa most : ℕ) → segment_of m pa ≡ None → pages_from m pa most ≡ []
unfolding pages_from
pages_from-none m pa most e = ap (λ (o : Option Seg). unwrap_or (option_map (λ s. pages_in s pa most) o) []) e

page_of-some : (m : MachineImage) (pa : ℕ) (seg : Seg) → segment_of m pa ≡ Some seg → page_of m pa ≡ Some (page_in seg pa)
unfolding page_of
page_of-some m pa seg e = ap (λ (o : Option Seg). option_map (λ s. page_in s pa) o) e

page_of-none : (m : MachineImage) (pa : ℕ) → segment_of m pa ≡ None → page_of m pa ≡ None
unfolding page_of
page_of-none m pa e = ap (λ (o : Option Seg). option_map (λ s. page_in s pa) o) e

-- what a segment of whole pages that has an address says of it
record HasPages (seg : Seg) (pa : ℕ) : Type 0 where
  start_aligned : seg.start % 4096 ≡ 0
  len_aligned : length seg.bytes % 4096 ≡ 0
  from_start : seg.start ≤ pa
  to_end : pa < seg.start + length seg.bytes

has_pages : (m : MachineImage) (pa : ℕ) (seg : Seg) → IsValid m → segment_of m pa ≡ Some seg → HasPages seg pa
has_pages m pa seg valid e =
    let has : has_address pa seg ≡ true = (segment_found m pa seg valid e).0 in
    let whole : is_whole_pages seg ≡ true = (segment_found m pa seg valid e).1 in
    record {
      start_aligned = grind (arith, nat_tests);
      len_aligned = grind (arith, nat_tests);
      from_start = grind (arith, nat_tests);
      to_end = grind (arith, nat_tests);
    }

length-pages_in : (seg : Seg) (pa most : ℕ) → length (pages_in seg pa most) ≡ min (4096 * most) (length seg.bytes - (page_start pa - seg.start))
length-pages_in seg pa most =
    let at = page_start pa - seg.start in
    let count : at + 4096 * most - at ≡ 4096 * most = omega arith in
    length-take (at + 4096 * most - at) (drop at seg.bytes) ∙ ap (λ n. min n (length (drop at seg.bytes))) count ∙ ap (min (4096 * most)) (length-drop at seg.bytes)

-- they are whole pages, and no more than were asked for
pub whole_pages : (m : MachineImage) (pa most : ℕ) → IsValid m → (length (pages_from m pa most) % 4096 ≡ 0) × (length (pages_from m pa most) ≤ 4096 * most)
whole_pages m pa most valid = by_segment (segment_of m pa) refl
  where
    by_segment : (found : Option Seg) → segment_of m pa ≡ found → (length (pages_from m pa most) % 4096 ≡ 0) × (length (pages_from m pa most) ≤ 4096 * most)
    by_segment None e = rw (pages_from-none m pa most e) (refl, omega arith)
    by_segment (Some seg) e =
        let has = has_pages m pa seg valid e in
        rw (pages_from-some m pa most seg e, length-pages_in seg pa most) (omega (arith, has.start_aligned, has.len_aligned, has.from_start, has.to_end), omega arith)

-- there is one where there is a page of the address
pub some_pages : (m : MachineImage) (pa most : ℕ) (page : List ℕ) → IsValid m → page_of m pa ≡ Some page → 0 < most → 4096 ≤ length (pages_from m pa most)
some_pages m pa most page valid is some = by_segment (segment_of m pa) refl
  where
    by_segment : (found : Option Seg) → segment_of m pa ≡ found → 4096 ≤ length (pages_from m pa most)
    by_segment None e = let none = page_of-none m pa e in absurd (cc (is, none))
    by_segment (Some seg) e =
        let has = has_pages m pa seg valid e in
        rw (pages_from-some m pa most seg e, length-pages_in seg pa most) (omega (arith, has.start_aligned, has.len_aligned, has.from_start, has.to_end))

-- each of them is the page of its address
pub page_of-pages_from : (m : MachineImage) (pa most i : ℕ) → IsValid m → pa % 4096 ≡ 0 → 4096 * i < length (pages_from m pa most)
    → page_of m (pa + 4096 * i) ≡ Some (slice_range (pages_from m pa most) (4096 * i) (4096 * i + 4096))
page_of-pages_from m pa most i valid aligned within = by_segment (segment_of m pa) refl
  where
    by_segment : (found : Option Seg) → segment_of m pa ≡ found → page_of m (pa + 4096 * i) ≡ Some (slice_range (pages_from m pa most) (4096 * i) (4096 * i + 4096))
    by_segment None e = absurd (omega (arith, within, ap length (pages_from-none m pa most e)))
    by_segment (Some seg) e =
        let has = has_pages m pa seg valid e in
        let from = pages_from-some m pa most seg e in
        let at = page_start pa - seg.start in
        let further = pa + 4096 * i in
        let short : 4096 * i < min (4096 * most) (length seg.bytes - at) = rw (ap length from ∙ length-pages_in seg pa most) at within in
        let same = same_segment m pa further seg valid e (omega arith) (omega (arith, has.start_aligned, has.len_aligned, has.from_start)) in
        let place : page_start further - seg.start ≡ at + 4096 * i = omega (arith, has.from_start) in
        page_of-some m further seg same
        ∙ ap Some (ap (λ n. slice_range seg.bytes n (n + 4096)) place
        ∙ (ap (λ n. slice_range seg.bytes (at + 4096 * i) n) (omega arith)
        ∙ (sym (slice-slice seg.bytes at (at + 4096 * most) (4096 * i) (4096 * i + 4096) (omega arith) (omega arith))
        ∙ ap (λ (l : List ℕ). slice_range l (4096 * i) (4096 * i + 4096)) (sym from))))
