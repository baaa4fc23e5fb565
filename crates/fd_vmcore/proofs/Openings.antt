-- What opening answers, step by step, of a file of a known length.
use Rattle.std.proofs.Common.{◌≡◌, ℕ, ◌^◌, ◌<◌, ◌≤◌, Bool, true, false, if◌then◌else◌, List, length, take, slice_range}
use Rattle.std.proofs.Common.{Option, Some, None, IfSome, Result, Ok, Err, IsOkAnd, refl, sym, ap, subst, ◌∙◌, arith}
use Rattle.std.proofs.lemmas.Bool.Decides.{nat_tests}
use Rattle.std.proofs.lemmas.Slice.{between_from_start}
use Rattle.fd_bytes.specs.Field.{u32_le_at}
use Rattle.fd_bytes.specs.declared.arch.Arch.{Arch}
use Rattle.fd_mini.specs.Layout.{arch_of_magic, has_version}
use Rattle.fd_mini.specs.Page.{fields_in}
use Rattle.fd_mini.specs.Places.{places_of}
use Rattle.fd_mini.specs.Read.{header_in, of_known_magic, within_limits}
use Rattle.fd_mini.specs.declared.header.MiniHeader.{MiniHeader}
use Rattle.fd_mini.specs.declared.mini_fault.MiniFault.{MiniFault}
use Rattle.fd_mini.specs.declared.places.Places.{Places}
use Rattle.fd_mini.specs.declared.mini_fault.MiniFault.TheVariants.{UnknownVersion}
use Rattle.fd_vmcore.specs.Parts.{HasLength, IsReadAs, AreRanges}
use Rattle.fd_vmcore.specs.Sections.{Sections, IsAnswer, IsOpening, HasSections, long_enough, by_header, by_ranges, bad_range, opened, opened_file}
use Rattle.fd_vmcore.specs.declared.open.OpenFault.{OpenFault}
use Rattle.fd_vmcore.specs.declared.open.OpenFault.TheVariants.{NoFile, Short, Mini, BadAvail, SiteFault, NoMemory}

too_short :
    (f : List ℕ) (need len : ℕ) (answer : Result Sections OpenFault) → len ≡ length f → len < need
    → long_enough f need answer ≡ Err (Short need len)
too_short f need len answer has below = grind (arith, nat_tests)

long : (f : List ℕ) (need : ℕ) (answer : Result Sections OpenFault) → need ≤ length f → long_enough f need answer ≡ answer
long f need answer enough = grind (arith, nat_tests)

pub some_length : (f : List ℕ) (len : ℕ) → HasLength (Some f) len → len ≡ length f
some_length f len has = cc

-- a file of this length has its sections
pub sections_inside :
    (file : Option (List ℕ)) (f : List ℕ) (len : ℕ) (h : MiniHeader) (p : Places)
    → HasLength file len → file ≡ Some f → p ≡ places_of h → p.pages ≤ len → (places_of h).pages ≤ length f
sections_inside file f len h p has there same enough =
    let known : len ≡ length f = some_length f len (subst (λ file. HasLength file len) there has) in
    subst (λ n. (places_of h).pages ≤ n) known (subst (λ (p : Places). p.pages ≤ len) same enough)

-- a file without a whole header page
pub without_page :
    (file : Option (List ℕ)) (len : ℕ) → HasLength file len → len < 4096 → opened_file file ≡ Err (Short 4096 len)
unfolding opened
without_page None len has below = absurd (cc)
without_page (Some f) len has below =
    too_short f 4096 len (by_header f (header_in (take 4096 f))) (some_length f len has) below

-- a file whose header page was read
with_page :
    (f : List ℕ) (len : ℕ) (page : List ℕ) → len ≡ length f → 4096 ≤ len → page ≡ slice_range f 0 4096
    → opened f ≡ by_header f (header_in page)
unfolding opened
with_page f len page has enough read =
    long f 4096 (by_header f (header_in (take 4096 f))) (omega arith)
    ∙ ap (λ (l : List ℕ). by_header f (header_in l)) (sym (read ∙ between_from_start f 4096))

-- whose header page is refused
pub refused_page :
    (file : Option (List ℕ)) (len : ℕ) (page : List ℕ) (fault : MiniFault)
    → HasLength file len → 4096 ≤ len → IfSome file (λ f. page ≡ slice_range f 0 4096) → header_in page ≡ Err fault
    → opened_file file ≡ Err (Mini fault)
refused_page None len page fault has enough read refused = absurd (cc)
refused_page (Some f) len page fault has enough read refused =
    with_page f len page (some_length f len has) enough read ∙ ap (by_header f) refused

-- where memory is taken in less cases, it is in the more
taken_too :
    (answer : Result Sections OpenFault) {P Q : Type 0} (result : Result Sections OpenFault)
    → (P → Q) → IsAnswer answer P result → IsAnswer answer Q result
taken_too answer (Ok s) too is = is
taken_too answer (Err NoFile) too is = is
taken_too answer (Err (Short need have)) too is = is
taken_too answer (Err (Mini fault)) too is = is
taken_too answer (Err (BadAvail index)) too is = is
taken_too answer (Err SiteFault) too is = is
taken_too answer (Err NoMemory) too is = too is

-- whose header page is taken
pub taken_page :
    (file : Option (List ℕ)) (len : ℕ) (page : List ℕ) (h : MiniHeader) (result : Result Sections OpenFault)
    → HasLength file len → 4096 ≤ len → IfSome file (λ f. page ≡ slice_range f 0 4096) → header_in page ≡ Ok h
    → ((f : List ℕ) → file ≡ Some f → IsAnswer (by_header f (Ok h)) ((places_of h).pages ≤ length f) result)
    → IsOpening file result
taken_page None len page h result has enough read taken behind = absurd (cc)
taken_page (Some f) len page h result has enough read taken behind =
    let on : opened f ≡ by_header f (Ok h) = with_page f len page (some_length f len has) enough read ∙ ap (by_header f) taken in
    let header : header_in (take 4096 f) ≡ Ok h = ap header_in (sym (read ∙ between_from_start f 4096)) ∙ taken in
    let P : Result MiniHeader MiniFault → Type 0 = λ r. IsOkAnd r (λ h. (places_of h).pages ≤ length f) in
    let has_sections : (places_of h).pages ≤ length f → HasSections f = (λ long. subst P (sym header) long) in
    subst (λ answer. IsAnswer answer (HasSections f) result) (sym on)
    (taken_too (by_header f (Ok h)) result has_sections (behind f refl))

-- A header that is taken is within the limits.
if_ok :
    (b : Bool) (answer : Result MiniHeader MiniFault) (fault : MiniFault) (h : MiniHeader)
    → (if b then answer else Err fault) ≡ Ok h → answer ≡ Ok h
if_ok true answer fault h is = is
if_ok false answer fault h is = absurd (cc)

bitmap_limit : (read h : MiniHeader) → within_limits read ≡ Ok h → h.bitmapsize ≤ 2 ^ 26
bitmap_limit read h is = grind (arith, nat_tests)

limit_of_magic : (arch : Option Arch) (page : List ℕ) (h : MiniHeader) → of_known_magic arch page ≡ Ok h → h.bitmapsize ≤ 2 ^ 26
limit_of_magic None page h is = absurd (cc)
limit_of_magic (Some arch) page h is =
    let version = u32_le_at page 24 in
    bitmap_limit (fields_in arch page) h
    (if_ok (has_version arch version) (within_limits (fields_in arch page)) (UnknownVersion version) h is)

pub bitmap_within : (page : List ℕ) (h : MiniHeader) → header_in page ≡ Ok h → h.bitmapsize ≤ 2 ^ 26
unfolding header_in
bitmap_within page h is = limit_of_magic (arch_of_magic (take 24 page)) page h is

-- Where a part can't be read, opening answers that.
pub unread_ranges :
    (f : List ℕ) (h : MiniHeader) (fault : OpenFault) → (places_of h).pages ≤ length f → AreRanges f h (Err fault)
    → IsAnswer (by_header f (Ok h)) ((places_of h).pages ≤ length f) (Err fault)
unread_ranges f h (BadAvail index) enough bad =
    long f (places_of h).pages (by_ranges f h (bad_range f h)) enough ∙ ap (by_ranges f h) bad
unread_ranges f h SiteFault enough bad = tt
unread_ranges f h NoMemory enough bad = enough
unread_ranges f h NoFile enough bad = absurd bad
unread_ranges f h (Short need have) enough bad = absurd bad
unread_ranges f h (Mini mini) enough bad = absurd bad

pub unread_bits :
    {A : Type 0} (P : A → Type 0) (answer : Result Sections OpenFault) {taken : Type 0} (fault : OpenFault)
    → taken → IsReadAs P (Err fault) → IsAnswer answer taken (Err fault)
unread_bits P answer SiteFault taken unread = tt
unread_bits P answer NoMemory taken unread = taken
unread_bits P answer NoFile taken unread = absurd unread
unread_bits P answer (Short need have) taken unread = absurd unread
unread_bits P answer (Mini mini) taken unread = absurd unread
unread_bits P answer (BadAvail index) taken unread = absurd unread
