-- Where the parts of a file lie that opens.
use Rattle.std.proofs.Common.{◌≡◌, ℕ, zero, suc, ◌+◌, ◌*◌, ◌/◌, ◌<◌, ◌≤◌, Bool, true, false, if◌then◌else◌, cond, List, [], ◌∷◌}
use Rattle.std.proofs.Common.{length, take, Option, Some, None, IsSomeAnd, Result, Ok, Err, IsOkAnd, refl, sym, subst, arith}
use Rattle.std.specs.Option.{option_and_then}
use Rattle.std.proofs.lemmas.Bool.Decides.{nat_tests}
use Rattle.std.proofs.lemmas.List.Sums.{sum_by-cons}
use Rattle.fd_mini.specs.Places.{places_of}
use Rattle.fd_mini.specs.Read.{header_in}
use Rattle.fd_mini.specs.declared.header.MiniHeader.{MiniHeader}
use Rattle.fd_mini.specs.declared.mini_fault.MiniFault.{MiniFault}
use Rattle.fd_bitmap.specs.Bits.{set_count}
use Rattle.fd_bitmap.specs.Pages.{bit_of}
use Rattle.fd_vmcore.specs.Ranges.{pages_in}
use Rattle.fd_vmcore.specs.Sections.{Sections, HasSections, opened, opened_file, long_enough, by_header, by_ranges, bad_range, bits_in, pages_end, has_bit, offset_of_bit, page_offset}
use Rattle.fd_vmcore.specs.declared.open.OpenFault.{OpenFault}

-- A file that opens has its header page, its sections and its dumped pages.
pub record IsWhole (f : List ℕ) (s : Sections) : Type 0 where
  pub header : header_in (take 4096 f) ≡ Ok s.header
  pub sections : (places_of s.header).pages ≤ length f
  pub dumped : pages_end s ≤ length f

enough : (f : List ℕ) (need : ℕ) (answer : Result Sections OpenFault) (s : Sections) → long_enough f need answer ≡ Ok s → need ≤ length f
enough f need answer s is = grind (arith, nat_tests)

answered : (f : List ℕ) (need : ℕ) (answer : Result Sections OpenFault) (s : Sections) → long_enough f need answer ≡ Ok s → answer ≡ Ok s
answered f need answer s is = grind (arith, nat_tests)

whole_by_ranges : (f : List ℕ) (h : MiniHeader) (bad : Option ℕ) (s : Sections) → header_in (take 4096 f) ≡ Ok h → (places_of h).pages ≤ length f → by_ranges f h bad ≡ Ok s → IsWhole f s
whole_by_ranges f h (Some index) s header sections is = absurd (cc)
whole_by_ranges f h None s header sections is =
    let made : Sections = record { header = h; pages = pages_in f h; bits = bits_in f h } in
    let same : made ≡ s = (let e = answered f (pages_end made) (Ok made) s is in cc) in
    subst (IsWhole f) same (record { header = header; sections = sections; dumped = enough f (pages_end made) (Ok made) s is })

whole_by_header : (f : List ℕ) (read : Result MiniHeader MiniFault) (s : Sections) → header_in (take 4096 f) ≡ read → by_header f read ≡ Ok s → IsWhole f s
whole_by_header f (Err fault) s header is = absurd (cc)
whole_by_header f (Ok h) s header is =
    let rest = by_ranges f h (bad_range f h) in
    let need = (places_of h).pages in
    whole_by_ranges f h (bad_range f h) s header (enough f need rest s is) (answered f need rest s is)

pub whole : (f : List ℕ) (s : Sections) → opened f ≡ Ok s → IsWhole f s
unfolding opened
whole f s is = whole_by_header f (header_in (take 4096 f)) s refl (answered f 4096 (by_header f (header_in (take 4096 f))) s is)

-- a file that opens is one of which memory is taken
pub has_sections : (file : Option (List ℕ)) (s : Sections) → opened_file file ≡ Ok s → IsSomeAnd file HasSections
has_sections None s is = absurd (cc)
has_sections (Some f) s is =
    let w = whole f s is in
    let P : Result MiniHeader MiniFault → Type 0 = λ r. IsOkAnd r (λ h. (places_of h).pages ≤ length f) in
    subst P (sym w.header) w.sections

set_count-cons : (b : Bool) (bits : List Bool) → set_count (b ∷ bits) ≡ cond b 1 0 + set_count bits
set_count-cons b bits = sum_by-cons (λ (x : Bool). cond x 1 0) b bits

-- A set bit counts beyond those below it.
pub one_more_set : (bits : List Bool) (bit : ℕ) → has_bit bits bit ≡ true → set_count (take bit bits) + 1 ≤ set_count bits
one_more_set [] bit set = absurd (cc)
one_more_set (false ∷ bits) zero set = absurd (cc)
one_more_set (true ∷ bits) zero set = rw (set_count-cons true bits) (omega arith)
one_more_set (b ∷ bits) (suc bit) set =
    rw (set_count-cons b bits, set_count-cons b (take bit bits)) (let later = one_more_set bits bit set in omega arith)

page_of_bit :
    (s : Sections) (found : Bool) (bit place : ℕ) → has_bit s.bits bit ≡ found
    → (if found then Some ((places_of s.header).pages + 4096 * set_count (take bit s.bits)) else None) ≡ Some place → place + 4096 ≤ pages_end s
page_of_bit s false bit place set is = absurd (cc)
page_of_bit s true bit place set is =
    let e : (places_of s.header).pages + 4096 * set_count (take bit s.bits) ≡ place = cc in
    let more = one_more_set s.bits bit set in
    omega arith

page_by_bit : (s : Sections) (bit : Option ℕ) (place : ℕ) → option_and_then (offset_of_bit s) bit ≡ Some place → place + 4096 ≤ pages_end s
page_by_bit s None place is = absurd (cc)
page_by_bit s (Some bit) place is = page_of_bit s (has_bit s.bits bit) bit place refl is

-- A page that is dumped lies in the file.
pub page_inside : (f : List ℕ) (s : Sections) (pa place : ℕ) → IsWhole f s → page_offset s pa ≡ Some place → place + 4096 ≤ length f
page_inside f s pa place w is =
    let end = page_by_bit s (bit_of s.pages pa) place is in
    omega (arith, w.dumped)

-- An entry of the page directory lies in the file.
pub entry_inside : (f : List ℕ) (s : Sections) (index : ℕ) → IsWhole f s → index < s.header.pmapsize / 8 → (places_of s.header).directory + 8 * index + 8 ≤ length f
entry_inside f s index w below = omega (arith, w.sections)
