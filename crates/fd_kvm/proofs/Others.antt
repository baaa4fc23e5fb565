-- The pages that aren't marked are those that the kernel window doesn't map.
use Rattle.std.proofs.Common.{◌≡◌, ℕ, zero, suc, ◌+◌, ◌*◌, ◌<◌, Bool, true, false, ◌||◌, not, if◌then◌else◌, List, ◌∷◌, ◌++◌, length, take, filter}
use Rattle.std.proofs.Common.{replicate, Option, Some, None, Result, Ok, Err, IsErr, OnErr, refl, sym, ap, subst, ◌∙◌, arith, append_assoc}
use Rattle.std.specs.Prelude.{slice_get, unwrap_or}
use Rattle.std.specs.List.{cons_option, filter_map, range_with_len}
use Rattle.std.specs.Option.{option_map, option_and_then}
use Rattle.std.proofs.lemmas.Option.{unwrap_or-slice_get}
use Rattle.std.proofs.lemmas.List.{length-replicate}
use Rattle.std.proofs.lemmas.List.Sums.{count_by_more_no, count_by_more_yes}
use Rattle.fd_site.specs.declared.fault.SiteFault.{SiteFault}
use Rattle.fd_bitmap.specs.Bits.{set_count}
use Rattle.fd_bitmap.specs.Pages.{page_of}
use Rattle.fd_vmcore.specs.Sections.{Sections, has_bit}
use Rattle.fd_vmcore.proofs.Opened.{one_more_set}
use Rattle.fd_kvm.specs.Parts.{AreMarked, first_place, other_page, other_pages, unless_marked}
use Rattle.fd_kvm.specs.Visits.{AreFirst, AreGiven, AreOfWalk}
use Rattle.fd_kvm.specs.Walk.{dumped_pages, has_page, page_at, page_of_bit, walk_of, window_pages}
use Rattle.fd_kvm.specs.declared.page.Page.{Page}
use Rattle.fd_kvm.proofs.Visited.{mapped_same}

-- how many bits are set below the next bit
pub count_yes : (bits map : List Bool) (bit : ℕ) (has : Bool) → map ≡ bits → has ≡ unwrap_or (slice_get map bit) false →
    has ≡ true → bit < length bits → set_count (take (bit + 1) bits) ≡ set_count (take bit bits) + 1
count_yes bits map bit has same is here within =
    count_by_more_yes (λ (b : Bool). b) bits bit false within (sym (unwrap_or-slice_get bits bit false) ∙ ap (λ (l : List Bool). unwrap_or (slice_get l bit) false) (sym same) ∙ sym is ∙ here)

pub count_no : (bits map : List Bool) (bit : ℕ) (has : Bool) → map ≡ bits → has ≡ unwrap_or (slice_get map bit) false →
    has ≡ false → bit < length bits → set_count (take (bit + 1) bits) ≡ set_count (take bit bits)
count_no bits map bit has same is here within =
    count_by_more_no (λ (b : Bool). b) bits bit false within (sym (unwrap_or-slice_get bits bit false) ∙ ap (λ (l : List Bool). unwrap_or (slice_get l bit) false) (sym same) ∙ sym is ∙ here)

-- a test of the items that were made of numbers
kept : {X : Type 0} → (X → Bool) → Option X → Option X
kept test None = None
kept test (Some x) = if test x then Some x else None

by_test : {X : Type 0} (b : Bool) (x : X) (items : List X) → (if b then x ∷ items else items) ≡ cons_option (if b then Some x else None) items
by_test true x items = refl
by_test false x items = refl

filter_kept : {X : Type 0} (test : X → Bool) (item : Option X) (items : List X) → filter test (cons_option item items) ≡ cons_option (kept test item) (filter test items)
unfolding kept
filter_kept test None items = refl
filter_kept test (Some x) items = by_test (test x) x (filter test items)

filter_mapped : {X : Type 0} (test : X → Bool) (h : ℕ → Option X) (first count : ℕ) →
    filter test (filter_map h (range_with_len first count)) ≡ filter_map (λ n. kept test (h n)) (range_with_len first count)
filter_mapped test h first zero = refl
filter_mapped test h first (suc count) =
    filter_kept test (h first) (filter_map h (range_with_len (first + 1) count)) ∙ ap (cons_option (kept test (h first))) (filter_mapped test h (first + 1) count)

-- a page is given where it isn't marked
same_test : (marked listed : Bool) (page : Page) → marked ≡ listed → (if not listed then Some page else None) ≡ (if marked then None else Some page)
same_test true listed page is = ap (λ b. if not b then Some page else None) (sym is)
same_test false listed page is = ap (λ b. if not b then Some page else None) (sym is)

same_none : (b : Bool) → ◌≡◌ {A = Option Page} None (if b then None else None)
same_none true = refl
same_none false = refl

clear_mark : (count number : ℕ) → has_bit (replicate count false) number ≡ false
clear_mark zero number = refl
clear_mark (suc count) zero = refl
clear_mark (suc count) (suc number) = clear_mark count number

-- with no mark the others are all dumped pages
pub others_unmarked : (s : Sections) (marks : List Bool) (count : ℕ) → marks ≡ replicate count false → other_pages s marks (length s.bits) ≡ dumped_pages s
others_unmarked s marks count clear =
    mapped_same (other_page s marks) (page_of_bit s) 0 (length s.bits) (λ bit low high.
    ap (λ (l : List Bool). unless_marked l (set_count (take bit s.bits)) (page_of_bit s bit)) clear
    ∙ ap (λ b. if b then None else page_of_bit s bit) (clear_mark count (set_count (take bit s.bits))))

module _ (s : Sections) (pages : List Page) (marks : List Bool) (marked : AreMarked s pages (replicate (set_count s.bits) false) marks) where
  listed : Page → Bool
  listed page = not (has_page pages page.offset)

  by_address : (bit : ℕ) (set : Bool) (address : Option ℕ) → has_bit s.bits bit ≡ set
      → kept listed (option_and_then (λ pa. option_map (page_at s.header pa None 3) (if set then Some (first_place s + 4096 * set_count (take bit s.bits)) else None)) address)
      ≡ unless_marked marks (set_count (take bit s.bits))
      (option_and_then (λ pa. option_map (page_at s.header pa None 3)
      (if set then Some (first_place s + 4096 * set_count (take bit s.bits)) else None)) address)
  unfolding kept listed
  by_address bit set None is = same_none (has_bit marks (set_count (take bit s.bits)))
  by_address bit false (Some pa) is = same_none (has_bit marks (set_count (take bit s.bits)))
  by_address bit true (Some pa) is =
      let number = set_count (take bit s.bits) in
      let place = first_place s + 4096 * number in
      let within : number < length (replicate (set_count s.bits) false) = omega (arith, one_more_set s.bits bit is, length-replicate (set_count s.bits) false) in
      same_test (has_bit marks number) (has_page pages place) (page_at s.header pa None 3 place)
      (marked.marks number within ∙ ap (λ b. b || has_page pages place) (clear_mark (set_count s.bits) number))

  pub others_same : other_pages s marks (length s.bits) ≡ filter (λ page. not (has_page pages page.offset)) (dumped_pages s)
  unfolding listed
  others_same = sym (filter_mapped listed (page_of_bit s) 0 (length s.bits) ∙ mapped_same (λ n. kept listed (page_of_bit s n)) (other_page s marks) 0 (length s.bits)
      (λ bit low high. by_address bit (has_bit s.bits bit) (page_of s.pages bit) refl))

-- the first pages of the kernel window are first pages of the walk
pub window_first : (f : List ℕ) (s : Sections) (pages : List Page) → AreFirst pages (window_pages f s) → AreFirst pages (walk_of f s)
unfolding walk_of
window_first f s pages first =
    let rest = filter (λ page. not (has_page (window_pages f s) page.offset)) (dumped_pages s) in
    (first.0 ++ rest, sym (append_assoc pages first.0 rest) ∙ ap (λ l. l ++ rest) first.1)

pub failed_walk : (all pages : List Page) (result : Result (Unit {0}) SiteFault) (went_on : Bool) → IsErr result → AreFirst pages all → AreOfWalk result all pages went_on
failed_walk all pages (Ok done) went_on failed first = absurd (cc)
failed_walk all pages (Err fault) went_on failed first = first

rest_is :
    (f : List ℕ) (s : Sections) (window : List Page) (marks before : List Bool) → window ≡ window_pages f s → AreMarked s window before marks → before ≡ replicate (set_count s.bits) false
    → other_pages s marks (length s.bits) ≡ filter (λ page. not (has_page (window_pages f s) page.offset)) (dumped_pages s)
rest_is f s window marks before is marked clear =
    others_same s window marks (subst (λ l. AreMarked s window l marks) clear marked)
    ∙ ap (λ l. filter (λ page. not (has_page l page.offset)) (dumped_pages s)) is

-- the pages of the kernel window, and then those that aren't marked
pub whole_walk :
    (f : List ℕ) (s : Sections) (window others : List Page) (marks before : List Bool) (went_on : Bool) → window ≡ window_pages f s → AreMarked s window before marks
    → before ≡ replicate (set_count s.bits) false → AreGiven others (other_pages s marks (length s.bits)) went_on → AreGiven (window ++ others) (walk_of f s) went_on
unfolding walk_of
whole_walk f s window others marks before true is marked clear given =
    ap (λ l. l ++ others) is ∙ ap (λ l. window_pages f s ++ l) (given ∙ rest_is f s window marks before is marked clear)
whole_walk f s window others marks before false is marked clear given = (
  given.0,
  append_assoc window others given.0
      ∙ ap (λ l. window ++ l) given.1
      ∙ ap (λ l. l ++ other_pages s marks (length s.bits)) is
      ∙ ap (λ l. window_pages f s ++ l) (rest_is f s window marks before is marked clear),
)

pub failed_true : (result : Result (Unit {0}) SiteFault) → OnErr result (true ≡ true)
failed_true (Ok done) = tt
failed_true (Err fault) = refl
