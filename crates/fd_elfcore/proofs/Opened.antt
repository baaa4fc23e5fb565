-- What opening answers, step by step, of a file of a known length.
use Rattle.std.proofs.Common.{◌≡◌, ℕ, ◌<◌, ◌≤◌, List, length, take, slice_range, Option, Some, None, IfSome, IsSomeAnd, Result, Ok, Err, refl, sym, ap, subst, ◌∙◌, arith}
use Rattle.std.proofs.lemmas.Bool.Decides.{nat_tests}
use Rattle.std.proofs.lemmas.Slice.{between_from_start}
use Rattle.fd_elfcore.specs.ElfParts.{HasLength, HasRoom}
use Rattle.fd_elfcore.specs.Layout.{headers_end}
use Rattle.fd_elfcore.specs.Opening.{HasHeaders, IsElfAnswer, IsElfOpening, by_count, by_header, by_segments, count_in, elf_opened, elf_opened_file, greatest_end, long_enough, refused_place, segments_from}
use Rattle.fd_elfcore.specs.declared.elf_fault.ElfOpenFault.{ElfOpenFault}
use Rattle.fd_elfcore.specs.declared.elf_fault.ElfOpenFault.TheVariants.{BadSegment, NoFile, NoMemory, NotElf, Short, SiteFault}
use Rattle.fd_elfcore.specs.declared.segment.Segment.{Segment}

too_short : (f : List ℕ) (need len : ℕ) (answer : Result (List Segment) ElfOpenFault) → len ≡ length f → len < need → long_enough f need answer ≡ Err (Short need len)
too_short f need len answer has below = grind (arith, nat_tests)

long : (f : List ℕ) (need : ℕ) (answer : Result (List Segment) ElfOpenFault) → need ≤ length f → long_enough f need answer ≡ answer
long f need answer enough = grind (arith, nat_tests)

pub some_length : (f : List ℕ) (len : ℕ) → HasLength (Some f) len → len ≡ length f
some_length f len has = cc

-- a file of this length has so many bytes
pub has_room : (file : Option (List ℕ)) (len need : ℕ) → HasLength file len → need ≤ len → HasRoom file need
has_room None len need has enough = absurd (cc)
has_room (Some f) len need has enough = let known : len ≡ length f = some_length f len has in omega arith

pub known_length : (file : Option (List ℕ)) (f : List ℕ) (len : ℕ) → HasLength file len → file ≡ Some f → len ≡ length f
known_length file f len has there = some_length f len (subst (λ o. HasLength o len) there has)

pub room_inside : (file : Option (List ℕ)) (f : List ℕ) (need : ℕ) → HasRoom file need → file ≡ Some f → need ≤ length f
room_inside file f need room there = subst (λ o. HasRoom o need) there room

-- the room that some of it need
pub less_room : (file : Option (List ℕ)) (need less : ℕ) → HasRoom file need → less ≤ need → HasRoom file less
less_room None need less room fewer = room
less_room (Some f) need less room fewer = let enough : need ≤ length f = room in omega arith

-- a file without a whole header
pub without_header : (file : Option (List ℕ)) (len : ℕ) → HasLength file len → len < 64 → elf_opened_file file ≡ Err (Short 64 len)
unfolding elf_opened
without_header None len has below = absurd (cc)
without_header (Some f) len has below = too_short f 64 len (by_header f (take 64 f) (refused_place (take 64 f))) (some_length f len has) below

-- a file whose header was read
with_header : (f : List ℕ) (len : ℕ) (header : List ℕ) → len ≡ length f → 64 ≤ len → header ≡ slice_range f 0 64 → elf_opened f ≡ by_header f header (refused_place header)
unfolding elf_opened
with_header f len header has enough read =
    long f 64 (by_header f (take 64 f) (refused_place (take 64 f))) (omega arith)
    ∙ ap (λ (l : List ℕ). by_header f l (refused_place l)) (sym (read ∙ between_from_start f 64))

-- whose header is refused
pub refused_header :
    (file : Option (List ℕ)) (len : ℕ) (header : List ℕ) (place : ℕ) → HasLength file len → 64 ≤ len → IfSome file (λ f. header ≡ slice_range f 0 64)
    → refused_place header ≡ Some place → elf_opened_file file ≡ Err (NotElf place)
refused_header None len header place has enough read refused = absurd (cc)
refused_header (Some f) len header place has enough read refused = with_header f len header (some_length f len has) enough read ∙ ap (by_header f header) refused

-- where memory is taken in less cases, it is in the more
taken_too : (answer : Result (List Segment) ElfOpenFault) {P Q : Type 0} (result : Result (List Segment) ElfOpenFault) → (P → Q) → IsElfAnswer answer P result → IsElfAnswer answer Q result
taken_too answer (Ok s) too is = is
taken_too answer (Err NoFile) too is = is
taken_too answer (Err (Short need have)) too is = is
taken_too answer (Err (NotElf place)) too is = is
taken_too answer (Err (BadSegment index)) too is = is
taken_too answer (Err SiteFault) too is = is
taken_too answer (Err NoMemory) too is = too is

-- whose header is taken
pub taken_header :
    (file : Option (List ℕ)) (len count : ℕ) (header : List ℕ) (result : Result (List Segment) ElfOpenFault) → HasLength file len → 64 ≤ len
    → IfSome file (λ f. header ≡ slice_range f 0 64) → refused_place header ≡ None → count ≡ count_in header
    → ((f : List ℕ) → file ≡ Some f → IsElfAnswer (by_count f count) (headers_end count ≤ length f) result) → IsElfOpening file result
taken_header None len count header result has enough read taken counted behind = absurd (cc)
taken_header (Some f) len count header result has enough read taken counted behind =
    let front : take 64 f ≡ header = sym (read ∙ between_from_start f 64) in
    let on : elf_opened f ≡ by_count f count =
    with_header f len header (some_length f len has) enough read ∙ ap (by_header f header) taken ∙ ap (by_count f) (sym counted) in
    let P : ℕ → Type 0 = λ n. headers_end n ≤ length f in
    let has_headers : headers_end count ≤ length f → HasHeaders f = (λ whole. record {
      header = ap refused_place front ∙ taken;
      whole = subst P (counted ∙ ap count_in (sym front)) whole;
    }) in
    subst (λ answer. IsElfAnswer answer (HasHeaders f) result) (sym on) (taken_too (by_count f count) result has_headers (behind f refl))

-- a file without all its program headers
pub without_headers : (f : List ℕ) (len need count : ℕ) → len ≡ length f → need ≡ headers_end count → len < need → by_count f count ≡ Err (Short need len)
without_headers f len need count has is below =
    too_short f (headers_end count) len (by_segments f (segments_from f 0 count 0)) has (omega arith) ∙ ap (λ n. Err (Short n len)) (sym is)

-- whose program headers can't be read, or one of which is refused
pub unread : (f : List ℕ) (count : ℕ) (fault : ElfOpenFault) → headers_end count ≤ length f → IsElfAnswer (segments_from f 0 count 0) (Unit {0}) (Err fault)
    → IsElfAnswer (by_count f count) (headers_end count ≤ length f) (Err fault)
unread f count SiteFault enough is = tt
unread f count NoMemory enough is = enough
unread f count NoFile enough is = long f (headers_end count) (by_segments f (segments_from f 0 count 0)) enough ∙ ap (by_segments f) is
unread f count (Short need have) enough is = long f (headers_end count) (by_segments f (segments_from f 0 count 0)) enough ∙ ap (by_segments f) is
unread f count (NotElf place) enough is = long f (headers_end count) (by_segments f (segments_from f 0 count 0)) enough ∙ ap (by_segments f) is
unread f count (BadSegment index) enough is = long f (headers_end count) (by_segments f (segments_from f 0 count 0)) enough ∙ ap (by_segments f) is

by_read : (f : List ℕ) (count : ℕ) (segments : List Segment) → headers_end count ≤ length f → segments_from f 0 count 0 ≡ Ok segments
    → by_count f count ≡ long_enough f (greatest_end segments) (Ok segments)
by_read f count segments enough is = long f (headers_end count) (by_segments f (segments_from f 0 count 0)) enough ∙ ap (by_segments f) is

-- whose segments end past its end
pub without_segments :
    (f : List ℕ) (len need count : ℕ) (segments : List Segment) → len ≡ length f → headers_end count ≤ length f → segments_from f 0 count 0 ≡ Ok segments
    → need ≡ greatest_end segments → len < need → by_count f count ≡ Err (Short need len)
without_segments f len need count segments has enough is end below =
    by_read f count segments enough is ∙ too_short f (greatest_end segments) len (Ok segments) has (omega arith) ∙ ap (λ n. Err (Short n len)) (sym end)

-- a file with all of it
pub with_segments :
    (f : List ℕ) (len need count : ℕ) (segments : List Segment) → len ≡ length f → headers_end count ≤ length f → segments_from f 0 count 0 ≡ Ok segments
    → need ≡ greatest_end segments → need ≤ len → by_count f count ≡ Ok segments
with_segments f len need count segments has enough is end long_as =
    by_read f count segments enough is ∙ long f (greatest_end segments) (Ok segments) (omega arith)

-- the segments of a file that opens end within it
enough : (f : List ℕ) (need : ℕ) (answer : Result (List Segment) ElfOpenFault) (s : List Segment) → long_enough f need answer ≡ Ok s → need ≤ length f
enough f need answer s is = grind (arith, nat_tests)

answered : (f : List ℕ) (need : ℕ) (answer : Result (List Segment) ElfOpenFault) (s : List Segment) → long_enough f need answer ≡ Ok s → answer ≡ Ok s
answered f need answer s is = grind (arith, nat_tests)

ends_by_segments : (f : List ℕ) (read : Result (List Segment) ElfOpenFault) (s : List Segment) → by_segments f read ≡ Ok s → greatest_end s ≤ length f
ends_by_segments f (Err fault) s is = absurd (cc)
ends_by_segments f (Ok read) s is =
    let same : read ≡ s = (let e = answered f (greatest_end read) (Ok read) s is in cc) in
    subst (λ (l : List Segment). greatest_end l ≤ length f) same (enough f (greatest_end read) (Ok read) s is)

ends_by_header : (f header : List ℕ) (place : Option ℕ) (s : List Segment) → by_header f header place ≡ Ok s → greatest_end s ≤ length f
ends_by_header f header (Some place) s is = absurd (cc)
ends_by_header f header None s is =
    let read = segments_from f 0 (count_in header) 0 in
    ends_by_segments f read s (answered f (headers_end (count_in header)) (by_segments f read) s is)

pub segments_inside : (f : List ℕ) (s : List Segment) → elf_opened f ≡ Ok s → greatest_end s ≤ length f
unfolding elf_opened
segments_inside f s is =
    let place = refused_place (take 64 f) in
    ends_by_header f (take 64 f) place s (answered f 64 (by_header f (take 64 f) place) s is)

headers_by :
    (f : List ℕ) (place : Option ℕ) (s : List Segment) → refused_place (take 64 f) ≡ place → by_header f (take 64 f) place ≡ Ok s → HasHeaders f
headers_by f (Some place) s refused is = absurd (cc)
headers_by f None s refused is =
    let count = count_in (take 64 f) in
    record { header = refused; whole = enough f (headers_end count) (by_segments f (segments_from f 0 count 0)) s is }

-- memory is taken for a file that opens
pub has_headers : (file : Option (List ℕ)) (s : List Segment) → elf_opened_file file ≡ Ok s → IsSomeAnd file HasHeaders
unfolding elf_opened
has_headers None s is = absurd (cc)
has_headers (Some f) s is = headers_by f (refused_place (take 64 f)) s refl (answered f 64 (by_header f (take 64 f) (refused_place (take 64 f))) s is)

pub opens_as : (file : Option (List ℕ)) (s : List Segment) → elf_opened_file file ≡ Ok s → IsSomeAnd file (λ f. elf_opened f ≡ Ok s)
opens_as None s is = absurd (cc)
opens_as (Some f) s is = is
