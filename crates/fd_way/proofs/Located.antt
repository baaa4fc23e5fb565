-- Where the page of a physical address stands in an image's minidump.
use Rattle.std.proofs.Common.{◌≡◌, ◌⊎◌, ℕ, zero, suc, ◌+◌, ◌-◌, ◌*◌, ◌/◌, ◌<◌, ◌≤◌, Bool, true, false, ◌&&◌, ◌||◌, nat_le, nat_lt, List, []}
use Rattle.std.proofs.Common.{◌∷◌, ◌++◌, length, take, get_or, position, Option, Some, None, refl, sym, ◌∙◌, ap, subst, arith, inl, inr}
use Rattle.std.specs.Prelude.{◌==◌, if◌then◌else◌}
use Rattle.std.specs.List.{list_any, position_or_len, range_with_len}
use Rattle.std.specs.Option.{option_and_then, option_map}
use Rattle.std.proofs.lemmas.Bool.{cases_Bool, eqb-true, eq-eqb}
use Rattle.std.proofs.lemmas.Bool.Decides.{nat_tests}
use Rattle.std.proofs.lemmas.List.{get_or-map, get_or_append_left, take-append-le, take_all, length-map, get_or_default}
use Rattle.std.proofs.lemmas.List.Folds.{Any-from_list_any, list_any_at, list_any-append}
use Rattle.std.proofs.lemmas.List.FromFn.{length-range_with_len, get_or-range_with_len}
use Rattle.std.proofs.lemmas.List.Quantifiers.{position-Some}
use Rattle.std.proofs.lemmas.List.Sums.{fails_before_first}
use Rattle.std.proofs.lemmas.Option.{slice_get-get_or, unwrap_or-slice_get}
use Rattle.fd_image.specs.Image.{MachineImage, IsValid}
use Rattle.fd_image.specs.Physical.{page_start, page_of}
use Rattle.fd_bitmap.specs.Bits.{set_count}
use Rattle.fd_bitmap.specs.Pages.{consecutive, first_page, end_page, pages_of, bit_of}
use Rattle.fd_mini.specs.Places.{places_of}
use Rattle.fd_vmcore.specs.Sections.{has_bit, offset_of_bit, page_offset}
use Rattle.fd_dump.specs.Dumped.{is_available, is_dumped, pages_with_bits, dumped_bits}
use Rattle.fd_dump.specs.Minidump.{mini_header_of, memory_of, minidump_of}
use Rattle.fd_dump.specs.Plan.{Planned}
use Rattle.fd_dump.specs.Sections.{nth_page, IsRun}
use Rattle.fd_dump.proofs.DumpedPages.{IsBacked, backed, dumped_available, run_first, Stands-run}
use Rattle.fd_dump.proofs.SectionPlaces.{Stands-memory}
use Rattle.fd_dump.proofs.Sizes.{length-bits}
use Rattle.fd_dump.proofs.Stands.{Stands, Stands-inner}
use Rattle.fd_way.proofs.Limits.{IsRange, pair_whole}
use Rattle.fd_way.proofs.Opening.{sections_of, clear_bits}
use Rattle.fd_way.proofs.PageStarts.{page_of-start}

-- the pages of a pair are among the pages of all
second_passes : (a b : Bool) → b ≡ true → (a || b) ≡ true
second_passes true b passes = refl
second_passes false b passes = passes

has_page :
    (pairs : List (ℕ × ℕ)) (k number : ℕ) → k < length pairs → first_page (get_or pairs k (0, 0)) ≤ number → number < end_page (get_or pairs k (0, 0))
    → list_any (λ page. page == number) (pages_of pairs) ≡ true
unfolding consecutive
has_page [] k number within from to = absurd (omega arith)
has_page (pair ∷ pairs) zero number within from to =
    let count : ℕ = end_page pair - first_page pair in
    let index : ℕ = number - first_page pair in
    let is : get_or (range_with_len (first_page pair) count) index 0 ≡ number = get_or-range_with_len (first_page pair) count index 0 (omega arith) ∙ omega arith in
    let here : list_any (λ page. page == number) (range_with_len (first_page pair) count) ≡ true =
    list_any_at (λ page. page == number) (range_with_len (first_page pair) count) index 0 (omega (arith, length-range_with_len (first_page pair) count))
    (eq-eqb (get_or (range_with_len (first_page pair) count) index 0) number is) in
    list_any-append (λ page. page == number) (range_with_len (first_page pair) count) (pages_of pairs) ∙ ap (λ (b : Bool). b || list_any (λ page. page == number) (pages_of pairs)) here
has_page (pair ∷ pairs) (suc k) number within from to =
    list_any-append (λ page. page == number) (consecutive (first_page pair) (end_page pair - first_page pair)) (pages_of pairs)
    ∙ second_passes (list_any (λ page. page == number) (consecutive (first_page pair) (end_page pair - first_page pair)))
    (list_any (λ page. page == number) (pages_of pairs)) (has_page pairs k number (omega arith) from to)

-- a number that has no place isn't there
not_there : (number : ℕ) (numbers : List ℕ) → position (λ other. other == number) numbers ≡ None → list_any (λ other. other == number) numbers ≡ true → ⊥
not_there number numbers none any =
    let there = Any-from_list_any (λ (other : ℕ). other == number) numbers any in
    let all : length numbers ≤ position_or_len (λ (other : ℕ). other == number) numbers = grind (arith, nat_tests) in
    let fails : (get_or numbers there.0 there.1 == number) ≡ false = fails_before_first (λ (other : ℕ). other == number) numbers there.0 there.1 (omega arith) in
    let passes : (get_or numbers there.0 there.1 == number) ≡ true = ap (λ other. other == number) there.3 ∙ there.4 in
    let both : true ≡ false = sym passes ∙ fails in
    cc

in_pair : (pair : ℕ × ℕ) (pa : ℕ) → IsRange pair → (nat_le pair.0 (page_start pa) && nat_lt (page_start pa) pair.1) ≡ true → (first_page pair ≤ pa / 4096) × (pa / 4096 < end_page pair)
in_pair pair pa range test =
    let from : pair.0 ≤ page_start pa = grind (arith, nat_tests, test) in
    let to : page_start pa < pair.1 = grind (arith, nat_tests, test) in
    (omega (arith, range.start), omega (arith, range.end))

module _ (m : MachineImage) (valid : IsValid m) where
  -- the page of an address stands in the file, or isn't dumped
  pub record IsDumpedAt (pa : ℕ) : Type 0 where
    pub place : ℕ
    pub page : List ℕ
    pub offset : page_offset (sections_of m) pa ≡ Some place
    pub dumped : is_dumped m (page_start pa) ≡ true
    pub is : page_of m pa ≡ Some page
    pub whole : length page ≡ 4096
    pub stands : Stands page place (minidump_of m)

  pub record IsNotDumped (pa : ℕ) : Type 0 where
    pub offset : page_offset (sections_of m) pa ≡ None
    pub not_dumped : is_dumped m (page_start pa) ≡ false

  -- a page that has no bit isn't available
  available_has_bit : (pa : ℕ) → is_available m (page_start pa) ≡ true → list_any (λ page. page == pa / 4096) (pages_of m.avail) ≡ true
  available_has_bit pa available =
      let any = Any-from_list_any (λ (pair : ℕ × ℕ). nat_le pair.0 (page_start pa) && nat_lt (page_start pa) pair.1) m.avail available in
      let is : get_or m.avail any.0 (0, 0) ≡ any.1 = get_or_default m.avail any.0 (0, 0) any.1 any.2 ∙ any.3 in
      let range : IsRange any.1 = subst IsRange is (pair_whole m valid any.0 any.2 (0, 0)) in
      let within = in_pair any.1 pa range any.4 in
      has_page m.avail any.0 (pa / 4096) any.2
      (omega (arith, within.0, ap first_page is)) (omega (arith, within.1, ap end_page is))

  without_bit : (pa : ℕ) → bit_of (pages_of m.avail) pa ≡ None → IsNotDumped pa
  without_bit pa none = record {
    offset = ap (option_and_then (offset_of_bit (sections_of m))) none;
    not_dumped =
        elim (cases_Bool (is_dumped m (page_start pa))) [
          | inl dumped ↦ absurd (not_there (pa / 4096) (pages_of m.avail) none (available_has_bit pa (dumped_available m valid (page_start pa) dumped)))
          | inr not_dumped ↦ not_dumped
        ];
  }

  -- a page that has a bit
  pub record HasBit (pa bit : ℕ) : Type 0 where
    pub within : bit < length (pages_with_bits m)
    pub address : get_or (pages_with_bits m) bit 0 ≡ page_start pa
    pub is_set : has_bit (dumped_bits m ++ clear_bits m) bit ≡ is_dumped m (page_start pa)
    pub below : take bit (dumped_bits m ++ clear_bits m) ≡ take bit (dumped_bits m)
    pub offset : page_offset (sections_of m) pa ≡ offset_of_bit (sections_of m) bit

  pub with_bit : (pa bit : ℕ) → bit_of (pages_of m.avail) pa ≡ Some bit → HasBit pa bit
  with_bit pa bit some =
      let found = position-Some (λ (page : ℕ). page == pa / 4096) (pages_of m.avail) bit 0 some in
      let number : get_or (pages_of m.avail) bit 0 ≡ pa / 4096 = eqb-true (get_or (pages_of m.avail) bit 0) (pa / 4096) found.1 in
      let within : bit < length (pages_with_bits m) = omega (arith, found.0, length-map (pages_of m.avail) (λ (page : ℕ). page * 4096)) in
      let address : get_or (pages_with_bits m) bit 0 ≡ page_start pa = get_or-map (λ (page : ℕ). page * 4096) (pages_of m.avail) bit 0 0 found.0 ∙ omega (arith, number) in
      let inside : bit < length (dumped_bits m) = omega (arith, found.0, length-bits m) in
      record {
        within = within;
        address = address;
        is_set = unwrap_or-slice_get (dumped_bits m ++ clear_bits m) bit false
            ∙ get_or_append_left (dumped_bits m) (clear_bits m) false bit inside
            ∙ get_or-map (is_dumped m) (pages_with_bits m) bit 0 false within
            ∙ ap (is_dumped m) address;
        below = take-append-le bit (dumped_bits m) (clear_bits m) (omega arith);
        offset = ap (option_and_then (offset_of_bit (sections_of m))) some;
      }

  -- the plan of a dump, of which a dumped page is a run
  abbrev plan : Planned
  plan = record { header = mini_header_of m; pages = pages_of m.avail; bits = dumped_bits m }

  page_run : (pa bit : ℕ) → HasBit pa bit → is_dumped m (page_start pa) ≡ true → IsRun plan bit (page_start pa) 1
  page_run pa bit has dumped =
      let inside : bit < length (pages_of m.avail) = omega (arith, has.within, length-map (pages_of m.avail) (λ (page : ℕ). page * 4096)) in
      let bit_is : get_or (dumped_bits m) bit false ≡ true =
      get_or-map (is_dumped m) (pages_with_bits m) bit 0 false has.within ∙ ap (is_dumped m) has.address ∙ dumped in
      let page_is : get_or (pages_of m.avail) bit 0 * 4096 ≡ page_start pa =
      sym (get_or-map (λ (page : ℕ). page * 4096) (pages_of m.avail) bit 0 0 inside) ∙ has.address in
      run_first plan bit (page_start pa)
      (slice_get-get_or (dumped_bits m) bit false (omega (arith, inside, length-bits m)) ∙ ap Some bit_is)
      (ap (option_map (λ (page : ℕ). page * 4096)) (slice_get-get_or (pages_of m.avail) bit 0 inside) ∙ ap Some page_is)

  page_stands : (pa bit : ℕ) (page : List ℕ) → HasBit pa bit → is_dumped m (page_start pa) ≡ true → page_of m (page_start pa) ≡ Some page → length page ≡ 4096
      → Stands page (4096 * set_count (take bit (dumped_bits m))) (memory_of m)
  page_stands pa bit page has dumped is whole =
      let place : page_start pa ≡ page_start pa + 4096 * 0 = omega arith in
      let first : page_of m (page_start pa + 4096 * 0) ≡ Some (nth_page page 0) = sym (ap (page_of m) place) ∙ is ∙ ap Some (sym (take_all 4096 page (omega arith))) in
      Stands-run plan m (set_count (take bit (dumped_bits m))) bit (page_start pa) 1 1 page
      (record { valid = valid; header = refl; pages = refl; bits = refl }) (page_run pa bit has dumped) refl (omega arith) (omega arith) (omega arith)
      (λ i below. let none : 0 ≡ i = omega arith in subst (λ n. page_of m (page_start pa + 4096 * n) ≡ Some (nth_page page n)) none first)

  set_bit : (pa bit : ℕ) → HasBit pa bit → is_dumped m (page_start pa) ≡ true → IsDumpedAt pa
  set_bit pa bit has dumped =
      let start : ℕ = (places_of (mini_header_of m)).pages in
      let b : IsBacked m (page_start pa) = backed m valid (page_start pa) (dumped_available m valid (page_start pa) dumped) in
      record {
        place = start + 4096 * set_count (take bit (dumped_bits m));
        page = b.page;
        offset = has.offset
            ∙ ap (λ (set : Bool). if set then Some (start + 4096 * set_count (take bit (dumped_bits m ++ clear_bits m))) else None) (has.is_set ∙ dumped)
            ∙ ap (λ (bits : List Bool). Some (start + 4096 * set_count bits)) has.below;
        dumped = dumped;
        is = page_of-start m valid pa ∙ b.is;
        whole = b.whole;
        stands = Stands-inner b.page (memory_of m) (minidump_of m) (4096 * set_count (take bit (dumped_bits m))) start (start + 4096 * set_count (take bit (dumped_bits m))) refl
            (page_stands pa bit b.page has dumped b.is b.whole)
            (Stands-memory m valid);
      }

  clear_bit : (pa bit : ℕ) → HasBit pa bit → is_dumped m (page_start pa) ≡ false → IsNotDumped pa
  clear_bit pa bit has not_dumped = record {
    offset = has.offset
        ∙ ap (λ (set : Bool). if set then Some ((places_of (mini_header_of m)).pages + 4096 * set_count (take bit (dumped_bits m ++ clear_bits m))) else None) (has.is_set ∙ not_dumped);
    not_dumped = not_dumped;
  }

  by_bit : (pa : ℕ) (bit : Option ℕ) → bit_of (pages_of m.avail) pa ≡ bit → IsDumpedAt pa ⊎ IsNotDumped pa
  by_bit pa None none = inr (without_bit pa none)
  by_bit pa (Some bit) some =
      let has : HasBit pa bit = with_bit pa bit some in
      elim (cases_Bool (is_dumped m (page_start pa))) [
        | inl dumped ↦ inl (set_bit pa bit has dumped)
        | inr not_dumped ↦ inr (clear_bit pa bit has not_dumped)
      ]

  pub located : (pa : ℕ) → IsDumpedAt pa ⊎ IsNotDumped pa
  located pa = by_bit pa (bit_of (pages_of m.avail) pa) refl
