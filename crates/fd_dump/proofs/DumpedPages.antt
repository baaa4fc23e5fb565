-- The dumped pages, one after another: each stands behind those of the set bits below its own.
use Rattle.std.proofs.Common.{◌≡◌, ℕ, zero, suc, ◌+◌, ◌-◌, ◌*◌, ◌/◌, ◌%◌, ◌^◌, ◌<◌, ◌≤◌, Bool, true, false, cond, ◌&&◌, ◌||◌, nat_le}
use Rattle.std.proofs.Common.{nat_lt, List, [], ◌∷◌, ◌++◌, length, map, take, drop, get_or, find, slice_get, Option, Some, None, refl, sym}
use Rattle.std.proofs.Common.{◌∙◌, ap, subst, arith, inl, inr, length-append, length-drop, append_assoc}
use Rattle.std.specs.List.{filter, filter_map, concat, cons_option, list_any}
use Rattle.std.specs.Option.{option_map}
use Rattle.std.proofs.lemmas.Bool.{cases_Bool}
use Rattle.std.proofs.lemmas.Bool.Decides.{nat_tests}
use Rattle.std.proofs.lemmas.List.{take-append-drop, nil_from_length, drop-drop, length-map}
use Rattle.std.proofs.lemmas.List.Folds.{Any-from_list_any}
use Rattle.std.proofs.lemmas.List.Sums.{sum_by-cons}
use Rattle.std.proofs.lemmas.Option.{slice_get-map, slice_get-get_or, slice_get_within, get_or_from_slice_get}
use Rattle.fd_image.specs.Image.{MachineImage, IsValid, direct_map_end, end_of, lies_in_segment}
use Rattle.fd_image.specs.Physical.{has_address, segment_of, page_in, page_of, pages_from}
use Rattle.fd_image.specs.declared.parts.Seg.{Seg}
use Rattle.fd_image.proofs.Runs.{whole_pages, some_pages, page_of-pages_from}
use Rattle.fd_image.proofs.Valid.{rules_kept, passes, segment_found}
use Rattle.fd_bitmap.specs.Bits.{set_count}
use Rattle.fd_bitmap.specs.Pages as ranges
use Rattle.fd_dump.specs.Dumped.{is_available, is_reached, is_wanted, is_mapped, dumps_last_tables, is_last_table, is_dumped, pages_with_bits}
use Rattle.fd_dump.specs.Minidump.{memory_of}
use Rattle.fd_dump.specs.Plan.{Planned, IsPlanOf}
use Rattle.fd_dump.specs.Sections.{nth_page, IsRun}
use Rattle.fd_dump.proofs.Limits.{direct_map_low, pages_few}
use Rattle.fd_dump.proofs.Stands.{Stands}
use Rattle.fd_dump.proofs.WholePages.{length-page_in}

-- where some element passes, one is found
found_step : {X : Type 0} (test : Bool) (x : X) (later : Option X) (any : Bool) → (test || any) ≡ true → (any ≡ true → (y : X) × (later ≡ Some y)) → (y : X) × (cond test (Some x) later ≡ Some y)
found_step true x later any passes more = (x, refl)
found_step false x later any passes more = more passes

find_any : {X : Type 0} (p : X → Bool) (xs : List X) → list_any p xs ≡ true → (x : X) × (find p xs ≡ Some x)
find_any p [] any = cc
find_any p (x ∷ xs) any = found_step (p x) x (find p xs) (list_any p xs) any (find_any p xs)

first_passes : (a b c : Bool) → (a && b && c) ≡ true → a ≡ true
first_passes true b c all = refl
first_passes false b c all = all

-- the image has the whole page of an address
pub record IsBacked (m : MachineImage) (pa : ℕ) : Type 0 where
  pub page : List ℕ
  pub is : page_of m pa ≡ Some page
  pub whole : length page ≡ 4096

-- a page is dumped, and has these bytes
pub record IsDumpedAs (m : MachineImage) (page : ℕ) (bytes : List ℕ) : Type 0 where
  pub dumped : is_dumped m page ≡ true
  pub is : page_of m page ≡ Some bytes

-- an address of a range that lies in a segment lies there too
has_from : (pa : ℕ) (seg : Seg) (pair : ℕ × ℕ) → (nat_le pair.0 pa && nat_lt pa pair.1) ≡ true → (nat_le seg.start pair.0 && nat_le pair.1 (end_of seg)) ≡ true → has_address pa seg ≡ true
has_from pa seg pair test inside = grind (arith, nat_tests)

or_later : (here : Bool) (later : Bool) → later ≡ true → (here || later) ≡ true
or_later true later passes = refl
or_later false later passes = passes

in_some_step : (here inside later lies : Bool) → (inside ≡ true → here ≡ true) → (lies ≡ true → later ≡ true) → (inside || lies) ≡ true → (here || later) ≡ true
in_some_step here true later lies first more test = ap (λ b. b || later) (first refl)
in_some_step here false later lies first more test = or_later here later (more test)

in_some : (pa : ℕ) (segs : List Seg) (pair : ℕ × ℕ) → (nat_le pair.0 pa && nat_lt pa pair.1) ≡ true → lies_in_segment segs pair ≡ true → list_any (has_address pa) segs ≡ true
in_some pa [] pair test lies = cc
in_some pa (seg ∷ segs) pair test lies =
    in_some_step (has_address pa seg) (nat_le seg.start pair.0 && nat_le pair.1 (end_of seg)) (list_any (has_address pa) segs) (lies_in_segment segs pair)
    (has_from pa seg pair test) (in_some pa segs pair test) lies

-- the page after the first is the first after it
nth_page-later : (bytes : List ℕ) (i : ℕ) → nth_page bytes (suc i) ≡ nth_page (drop 4096 bytes) i
nth_page-later bytes i =
    let place : 4096 * suc i ≡ 4096 + 4096 * i = omega arith in
    let count : 4096 * suc i + 4096 - 4096 * suc i ≡ 4096 * i + 4096 - 4096 * i = omega arith in
    ap (λ n. take n (drop (4096 * suc i) bytes)) count
    ∙ ap (λ n. take (4096 * i + 4096 - 4096 * i) (drop n bytes)) place
    ∙ ap (take (4096 * i + 4096 - 4096 * i)) (sym (drop-drop (4096 * i) 4096 bytes))

module _ (m : MachineImage) (valid : IsValid m) where
  -- an available address lies in a segment
  available_in : (pa : ℕ) → is_available m pa ≡ true → (seg : Seg) × (segment_of m pa ≡ Some seg)
  available_in pa available =
      let any = Any-from_list_any (λ (pair : ℕ × ℕ). nat_le pair.0 pa && nat_lt pa pair.1) m.avail available in
      let pair : ℕ × ℕ = any.1 in
      let is : get_or m.avail any.0 pair ≡ pair = any.3 in
      let lies : lies_in_segment m.segs pair ≡ true = ap (lies_in_segment m.segs) (sym is) ∙ passes (lies_in_segment m.segs) m.avail (rules_kept m valid.unbroken).pairs_inside any.0 any.2 pair in
      find_any (has_address pa) m.segs (in_some pa m.segs pair any.4 lies)

  pub backed : (pa : ℕ) → is_available m pa ≡ true → IsBacked m pa
  unfolding page_of
  backed pa available =
      let seg = available_in pa available in
      let facts = segment_found m pa seg.0 valid seg.1 in
      record {
        page = page_in seg.0 pa;
        is = ap (λ (s : Option Seg). option_map (λ (one : Seg). page_in one pa) s) seg.1;
        whole = length-page_in seg.0 pa facts.0 facts.1;
      }

  -- a dumped page is available
  pub dumped_available : (page : ℕ) → is_dumped m page ≡ true → is_available m page ≡ true
  unfolding is_dumped
  dumped_available page dumped =
      first_passes (is_available m page) (is_reached m.windows page) (is_wanted m page || is_mapped m page || (dumps_last_tables m.arch && is_last_table m page)) dumped

  -- the dumped ones of some pages, one after another
  abbrev pub memory_from : List ℕ → List ℕ
  memory_from pages = concat (filter_map (page_of m) (filter (is_dumped m) pages))

  abbrev pub bits_from : List ℕ → List Bool
  bits_from pages = map (is_dumped m) pages

  -- by whether the first page is dumped
  memory_kept : (page : ℕ) (pages : List ℕ) (bytes : List ℕ) → is_dumped m page ≡ true → page_of m page ≡ Some bytes → memory_from (page ∷ pages) ≡ bytes ++ memory_from pages
  memory_kept page pages bytes dumped is =
      ap (λ (b : Bool). concat (filter_map (page_of m) (cond b (page ∷ filter (is_dumped m) pages) (filter (is_dumped m) pages)))) dumped
      ∙ ap (λ (o : Option (List ℕ)). concat (cons_option o (filter_map (page_of m) (filter (is_dumped m) pages)))) is

  memory_left_out : (page : ℕ) (pages : List ℕ) → is_dumped m page ≡ false → memory_from (page ∷ pages) ≡ memory_from pages
  memory_left_out page pages left_out =
      ap (λ (b : Bool). concat (filter_map (page_of m) (cond b (page ∷ filter (is_dumped m) pages) (filter (is_dumped m) pages)))) left_out

  count_kept : (bit : Bool) (bits : List Bool) → bit ≡ true → set_count (bit ∷ bits) ≡ 1 + set_count bits
  count_kept bit bits set = sum_by-cons (λ b. cond b 1 0) bit bits ∙ ap (λ (b : Bool). cond b 1 0 + set_count bits) set

  count_left_out : (bit : Bool) (bits : List Bool) → bit ≡ false → set_count (bit ∷ bits) ≡ set_count bits
  count_left_out bit bits clear = sum_by-cons (λ b. cond b 1 0) bit bits ∙ ap (λ (b : Bool). cond b 1 0 + set_count bits) clear ∙ omega arith

  pub length-memory_from : (pages : List ℕ) → length (memory_from pages) ≡ 4096 * set_count (bits_from pages)
  length-memory_from [] = refl
  length-memory_from (page ∷ pages) =
      elim (cases_Bool (is_dumped m page)) [
        | inl dumped ↦
            let b : IsBacked m page = backed page (dumped_available page dumped) in
            omega (
              arith,
              ap length (memory_kept page pages b.page dumped b.is),
              length-append b.page (memory_from pages),
              b.whole,
              length-memory_from pages,
              count_kept (is_dumped m page) (bits_from pages) dumped,
            )
        | inr left_out ↦
            omega (arith, ap length (memory_left_out page pages left_out), length-memory_from pages, count_left_out (is_dumped m page) (bits_from pages) left_out)
      ]

  -- pages that are all dumped come first
  first_pages : (pages : List ℕ) (count : ℕ) (bytes : List ℕ) → length bytes ≡ 4096 * count → count ≤ length pages
      → ((i : ℕ) → i < count → IsDumpedAs m (get_or pages i 0) (nth_page bytes i)) → memory_from pages ≡ bytes ++ memory_from (drop count pages)
  first_pages pages zero bytes long within each = ap (λ l. l ++ memory_from pages) (sym (nil_from_length bytes (omega arith)))
  first_pages [] (suc count) bytes long within each = absurd (omega arith)
  first_pages (page ∷ pages) (suc count) bytes long within each =
      let here = each 0 (omega arith) in
      memory_kept page pages (take 4096 bytes) here.dumped here.is
      ∙ ap (λ l. take 4096 bytes ++ l) (first_pages pages count (drop 4096 bytes) (omega (arith, length-drop 4096 bytes)) (omega arith)
      (λ i below. subst (IsDumpedAs m (get_or pages i 0)) (nth_page-later bytes i) (each (suc i) (omega arith))))
      ∙ sym (append_assoc (take 4096 bytes) (drop 4096 bytes) (memory_from (drop count pages)))
      ∙ ap (λ l. l ++ memory_from (drop count pages)) (take-append-drop 4096 bytes)

  -- and from any place on they stand behind the dumped ones before it
  Stands-pages : (pages : List ℕ) (k count : ℕ) (bytes : List ℕ) → length bytes ≡ 4096 * count → k + count ≤ length pages
      → ((i : ℕ) → i < count → IsDumpedAs m (get_or pages (k + i) 0) (nth_page bytes i)) → Stands bytes (4096 * set_count (take k (bits_from pages))) (memory_from pages)
  Stands-pages pages zero count bytes long within each = record {
    front = [];
    rest = memory_from (drop count pages);
    before = refl;
    joined = first_pages pages count bytes long (omega arith)
        (λ i below. let place : 0 + i ≡ i = omega arith in subst (λ n. IsDumpedAs m (get_or pages n 0) (nth_page bytes i)) place (each i below));
  }
  Stands-pages [] (suc k) count bytes long within each = absurd (omega arith)
  Stands-pages (page ∷ pages) (suc k) count bytes long within each =
      let later : Stands bytes (4096 * set_count (take k (bits_from pages))) (memory_from pages) =
      Stands-pages pages k count bytes long (omega arith)
      (λ i below. let place : suc k + i ≡ suc (k + i) = omega arith in subst (λ n. IsDumpedAs m (get_or (page ∷ pages) n 0) (nth_page bytes i)) place (each i below)) in
      elim (cases_Bool (is_dumped m page)) [
        | inl first ↦
            let b : IsBacked m page = backed page (dumped_available page first) in
            record {
              front = b.page ++ later.front;
              rest = later.rest;
              before = omega (arith, length-append b.page later.front, b.whole, later.before, count_kept (is_dumped m page) (take k (bits_from pages)) first);
              joined = memory_kept page pages b.page first b.is ∙ ap (λ l. b.page ++ l) later.joined ∙ sym (append_assoc b.page later.front (bytes ++ later.rest));
            }
        | inr left_out ↦
            record {
              front = later.front;
              rest = later.rest;
              before = omega (arith, later.before, count_left_out (is_dumped m page) (take k (bits_from pages)) left_out);
              joined = memory_left_out page pages left_out ∙ later.joined;
            }
      ]

-- a page of a run is dumped
run_page : (plan : Planned) (m : MachineImage) (bit pa count i : ℕ) → IsPlanOf plan m → IsRun plan bit pa count → i < count
    → (bit + i < length (pages_with_bits m)) × (get_or (pages_with_bits m) (bit + i) 0 ≡ pa + 4096 * i) × (is_dumped m (pa + 4096 * i) ≡ true)
run_page plan m bit pa count i is_plan run below =
    let page : slice_get (pages_with_bits m) (bit + i) ≡ Some (pa + 4096 * i) =
    slice_get-map (λ page. page * 4096) (ranges.pages_of m.avail) (bit + i) ∙ ap (λ pages. ranges.page_of pages (bit + i)) (sym is_plan.pages) ∙ run.placed i below in
    let set : slice_get (map (is_dumped m) (pages_with_bits m)) (bit + i) ≡ Some true = ap (λ bits. slice_get bits (bit + i)) (sym is_plan.bits) ∙ run.set i below in
    let same : Some (is_dumped m (pa + 4096 * i)) ≡ Some true = ap (option_map (is_dumped m)) (sym page) ∙ sym (slice_get-map (is_dumped m) (pages_with_bits m) (bit + i)) ∙ set in
    (slice_get_within (pages_with_bits m) (bit + i) (pa + 4096 * i) page, get_or_from_slice_get (pages_with_bits m) (bit + i) (pa + 4096 * i) 0 page, cc)

-- a run of one page
pub run_first : (plan : Planned) (bit pa : ℕ) → slice_get plan.bits bit ≡ Some true → ranges.page_of plan.pages bit ≡ Some pa → IsRun plan bit pa 1
run_first plan bit pa set placed = record {
  set = λ i below. let same : bit ≡ bit + i = omega arith in subst (λ n. slice_get plan.bits n ≡ Some true) same set;
  placed = λ i below.
      let same : bit ≡ bit + i = omega arith in
      let address : pa ≡ pa + 4096 * i = omega arith in
      subst (λ n. ranges.page_of plan.pages n ≡ Some (pa + 4096 * i)) same (placed ∙ ap Some address);
}

-- each bit has its page
pub has_page : (plan : Planned) (m : MachineImage) (bit : ℕ) → IsPlanOf plan m → slice_get plan.bits bit ≡ Some true → ranges.page_of plan.pages bit ≡ None → ⊥
has_page plan m bit is_plan set none =
    let within : bit < length plan.bits = slice_get_within plan.bits bit true set in
    let pages : length plan.bits ≡ length plan.pages =
    ap length is_plan.bits ∙ length-map (pages_with_bits m) (is_dumped m) ∙ length-map (ranges.pages_of m.avail) (λ page. page * 4096) ∙ ap length (sym is_plan.pages) in
    let some : slice_get plan.pages bit ≡ Some (get_or plan.pages bit 0) = slice_get-get_or plan.pages bit 0 (omega arith) in
    let clash : Some (get_or plan.pages bit 0 * 4096) ≡ None = ap (option_map (λ page. page * 4096)) (sym some) ∙ none in
    cc

second_passes : (a b c : Bool) → (a && b && c) ≡ true → b ≡ true
second_passes true true c all = refl
second_passes true false c all = all
second_passes false true c all = refl
second_passes false false c all = all

-- where a run is, no number leaves 64 bits
pub record IsLow (place address : ℕ) : Type 0 where
  pub bit : place < 2 ^ 60
  pub pa : address < 2 ^ 60

dumped_low : (m : MachineImage) (pa : ℕ) → IsValid m → is_dumped m pa ≡ true → pa < 2 ^ 60
unfolding is_dumped
dumped_low m pa valid dumped =
    let reached : is_reached m.windows pa ≡ true =
    second_passes (is_available m pa) (is_reached m.windows pa) (is_wanted m pa || is_mapped m pa || (dumps_last_tables m.arch && is_last_table m pa)) dumped in
    let below : pa < direct_map_end m.windows = grind (arith, nat_tests) in
    omega (arith, direct_map_low m valid)

pub run_low : (plan : Planned) (m : MachineImage) (bit pa : ℕ) → IsPlanOf plan m → IsRun plan bit pa 1 → IsLow bit pa
run_low plan m bit pa is_plan run =
    let page = run_page plan m bit pa 1 0 is_plan run (omega arith) in
    let low : pa + 4096 * 0 < 2 ^ 60 = dumped_low m (pa + 4096 * 0) is_plan.valid page.2 in
    record {
      bit = omega (arith, page.0, length-map (ranges.pages_of m.avail) (λ page. page * 4096), pages_few m is_plan.valid);
      pa = omega arith;
    }

-- the bytes of a run stand behind those of the set bits below it
pub Stands-run : (plan : Planned) (m : MachineImage) (rank bit pa most count : ℕ) (bytes : List ℕ) → IsPlanOf plan m → IsRun plan bit pa most → set_count (take bit plan.bits) ≡ rank
    → 0 < count → count ≤ most → length bytes ≡ 4096 * count → ((i : ℕ) → i < count → page_of m (pa + 4096 * i) ≡ Some (nth_page bytes i))
    → Stands bytes (4096 * rank) (memory_of m)
Stands-run plan m rank bit pa most count bytes is_plan run is_rank some few long each =
    subst (λ n. Stands bytes (4096 * n) (memory_of m)) (ap (λ bits. set_count (take bit bits)) (sym is_plan.bits) ∙ is_rank)
    (Stands-pages m is_plan.valid (pages_with_bits m) bit count bytes long
    (let last = run_page plan m bit pa most (count - 1) is_plan run (omega arith) in omega (arith, last.0))
    (λ i below.
    let page = run_page plan m bit pa most i is_plan run (omega arith) in
    record { dumped = ap (is_dumped m) page.1 ∙ page.2; is = ap (page_of m) page.1 ∙ each i below }))

-- what the image lends of a run
pub record IsLent (m : MachineImage) (rank limit : ℕ) (bytes : List ℕ) : Type 0 where
  pub stands : Stands bytes (4096 * rank) (memory_of m)
  pub whole : length bytes % 4096 ≡ 0
  pub some : 0 < length bytes
  pub most : length bytes ≤ 4096 * limit

aligned_page : (page : Option ℕ) (pa : ℕ) → option_map (λ page. page * 4096) page ≡ Some pa → pa % 4096 ≡ 0
aligned_page None pa is = absurd cc
aligned_page (Some page) pa is = let same : page * 4096 ≡ pa = cc in omega arith

pub run_lent : (plan : Planned) (m : MachineImage) (rank bit pa most : ℕ) (bytes : List ℕ) → IsPlanOf plan m →
    IsRun plan bit pa most → 0 < most → set_count (take bit plan.bits) ≡ rank → bytes ≡ pages_from m pa most
    → IsLent m rank most bytes
run_lent plan m rank bit pa most bytes is_plan run some is_rank is =
    let valid = is_plan.valid in
    let first : ranges.page_of plan.pages (bit + 0) ≡ Some (pa + 4096 * 0) = run.placed 0 some in
    let none : pa + 4096 * 0 ≡ pa = omega arith in
    let aligned : pa % 4096 ≡ 0 = aligned_page (slice_get plan.pages (bit + 0)) pa (first ∙ ap Some none) in
    let page = run_page plan m bit pa most 0 is_plan run some in
    let backing : IsBacked m pa = backed m valid pa (dumped_available m valid pa (ap (is_dumped m) (sym none) ∙ page.2)) in
    let whole = whole_pages m pa most valid in
    let long = some_pages m pa most backing.page valid backing.is some in
    let count : ℕ = length (pages_from m pa most) / 4096 in
    let exact : length (pages_from m pa most) ≡ 4096 * count = omega (arith, whole.0) in
    rw is (record {
      stands = Stands-run plan m rank bit pa most count (pages_from m pa most) is_plan run is_rank (omega arith) (omega (arith, whole.1)) exact
          (λ i below. page_of-pages_from m pa most i valid aligned (omega arith));
      whole = whole.0;
      some = omega arith;
      most = whole.1;
    })
