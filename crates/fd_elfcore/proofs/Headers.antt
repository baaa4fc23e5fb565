-- The program headers of a file, read one after another.
use Rattle.std.proofs.Common.{◌≡◌, ℕ, zero, suc, ◌+◌, ◌-◌, ◌<◌, ◌≤◌, ◌^◌, Bool, true, false, ◌&&◌, if◌then◌else◌, List, [], ◌∷◌, ◌++◌, length}
use Rattle.std.proofs.Common.{get_or, take, drop, slice_range, Some, None, Result, Ok, Err, refl, sym, ap, ◌∙◌, arith}
use Rattle.std.specs.Int.{w32, w64, from_le_bytes}
use Rattle.std.proofs.lemmas.List.{take-take, drop-take, drop-drop}
use Rattle.std.proofs.lemmas.Bool.Decides.{nat_tests}
use Rattle.fd_bytes.specs.Field.{u32_le_at, u64_le_at}
use Rattle.fd_elfcore.specs.Elf.{rise_from}
use Rattle.fd_elfcore.specs.Layout.{program_header_at}
use Rattle.fd_elfcore.specs.Opening.{end_of, is_taken, lies_from, loaded, program_header, segment_then, segments_from}
use Rattle.fd_elfcore.specs.declared.elf_fault.ElfOpenFault.{ElfOpenFault}
use Rattle.fd_elfcore.specs.declared.elf_fault.ElfOpenFault.TheVariants.{BadSegment}
use Rattle.fd_elfcore.specs.declared.program_header.ProgramHeader.{ProgramHeader}
use Rattle.fd_elfcore.specs.declared.segment.Segment.{Segment}
use Rattle.fd_elfcore.proofs.Rising.{Rises}

-- some of the bytes of a part are those of the file
part_of : (f : List ℕ) (place at size more : ℕ) → size + more ≡ 56 - at → at ≤ 56
    → take (at + size - at) (drop at (take (place + 56 - place) (drop place f))) ≡ take (place + at + size - (place + at)) (drop (place + at) f)
part_of f place at size more fits inside =
    let whole : place + 56 - place ≡ at + (56 - at) = omega arith in
    let front : at + size - at ≡ size = omega arith in
    let last : size ≡ place + at + size - (place + at) = omega arith in
    let rest : List ℕ = drop place f in
    ap (λ n. take n (drop at (take (place + 56 - place) rest))) front
    ∙ ap (λ n. take size (drop at (take n rest))) whole
    ∙ ap (take size) (drop-take at (56 - at) rest)
    ∙ take-take size (56 - at) (drop at rest) (omega arith)
    ∙ ap (take size) (drop-drop at place f)
    ∙ ap (λ n. take n (drop (place + at) f)) last

word_in_part : (f bytes : List ℕ) (place at : ℕ) → bytes ≡ slice_range f place (place + 56) → at + 8 ≤ 56 → u64_le_at bytes at ≡ u64_le_at f (place + at)
unfolding u64_le_at
word_in_part f bytes place at read inside =
    ap (λ (l : List ℕ). from_le_bytes w64 (take (at + 8 - at) (drop at l))) read ∙ ap (λ (l : List ℕ). from_le_bytes w64 l) (part_of f place at 8 (48 - at) (omega arith) (omega arith))

half_in_part : (f bytes : List ℕ) (place at : ℕ) → bytes ≡ slice_range f place (place + 56) → at + 4 ≤ 56 → u32_le_at bytes at ≡ u32_le_at f (place + at)
unfolding u32_le_at
half_in_part f bytes place at read inside =
    ap (λ (l : List ℕ). from_le_bytes w32 (take (at + 4 - at) (drop at l))) read ∙ ap (λ (l : List ℕ). from_le_bytes w32 l) (part_of f place at 4 (52 - at) (omega arith) (omega arith))

same_header :
    {t fl : ℕ} {o v p fs ms al : ℕ} {t' fl' o' v' p' fs' ms' al' : ℕ} → t ≡ t' → fl ≡ fl' → o ≡ o' → v ≡ v' → p ≡ p' → fs ≡ fs' → ms ≡ ms' → al ≡ al'
    → (let h : ProgramHeader = record { p_type = t; p_flags = fl; p_offset = o; p_vaddr = v; p_paddr = p; p_filesz = fs; p_memsz = ms; p_align = al } in h)
    ≡ record { p_type = t'; p_flags = fl'; p_offset = o'; p_vaddr = v'; p_paddr = p'; p_filesz = fs'; p_memsz = ms'; p_align = al' }
same_header et efl eo ev ep efs ems eal = rw (et, efl, eo, ev, ep, efs, ems, eal) refl

-- a program header that was read
pub header_read : (f bytes : List ℕ) (place : ℕ) → bytes ≡ slice_range f place (place + 56) → program_header_at bytes 0 ≡ program_header_at f place
header_read f bytes place read =
    let first : place + 0 ≡ place = omega arith in
    same_header
    (half_in_part f bytes place 0 read (omega arith) ∙ ap (u32_le_at f) first)
    (half_in_part f bytes place 4 read (omega arith))
    (word_in_part f bytes place 8 read (omega arith))
    (word_in_part f bytes place 16 read (omega arith))
    (word_in_part f bytes place 24 read (omega arith))
    (word_in_part f bytes place 32 read (omega arith))
    (word_in_part f bytes place 40 read (omega arith))
    (word_in_part f bytes place 48 read (omega arith))

-- some segments before what is read of the rest
abbrev pub segments_then : List Segment → Result (List Segment) ElfOpenFault → Result (List Segment) ElfOpenFault
segments_then [] rest = rest
segments_then (segment ∷ later) rest = segment_then segment (segments_then later rest)

pub then_push : (segments : List Segment) (segment : Segment) (rest : Result (List Segment) ElfOpenFault) → segments_then (segments ++ segment ∷ []) rest ≡ segments_then segments (segment_then segment rest)
then_push [] segment rest = refl
then_push (first ∷ later) segment rest = ap (segment_then first) (then_push later segment rest)

pub then_ends : (segments : List Segment) → segments_then segments (Ok []) ≡ Ok segments
then_ends [] = refl
then_ends (segment ∷ later) = ap (segment_then segment) (then_ends later)

pub then_fails : (segments : List Segment) (fault : ElfOpenFault) → segments_then segments (Err fault) ≡ Err fault
then_fails [] fault = refl
then_fails (segment ∷ later) fault = ap (segment_then segment) (then_fails later fault)

-- the end of the last segment
abbrev pub last_end : (least : ℕ) → List Segment → ℕ
last_end least [] = least
last_end least (segment ∷ later) = last_end (end_of segment) later

pub last_pushed : (least : ℕ) (segments : List Segment) (segment : Segment) → last_end least (segments ++ segment ∷ []) ≡ end_of segment
last_pushed least [] segment = refl
last_pushed least (first ∷ later) segment = last_pushed (end_of first) later segment

-- the segments from an index on, by its program header
pub more_taken :
    (f : List ℕ) (index count least : ℕ) (header : ProgramHeader) (segment : Segment) → index < count → header ≡ program_header f index
    → Some segment ≡ (if is_taken least header then Some (loaded header) else None)
    → segments_from f index (count - index) least ≡ segment_then segment (segments_from f (index + 1) (count - (index + 1)) (end_of segment))
unfolding segments_from
more_taken f index count least header segment below is took =
    ap (λ n. segments_from f index n least) (let e : count - index ≡ suc (count - (index + 1)) = omega arith in e) ∙ by_test (is_taken least header) refl took
  where
    by_test : (t : Bool) → is_taken least header ≡ t → Some segment ≡ (if t then Some (loaded header) else None)
        → segments_from f index (suc (count - (index + 1))) least ≡ segment_then segment (segments_from f (index + 1) (count - (index + 1)) (end_of segment))
    by_test false test took = absurd (cc)
    by_test true test took =
        let same : segment ≡ loaded header = cc in
        let here : segment ≡ loaded (program_header f index) = same ∙ ap loaded is in
        let passes : is_taken least (program_header f index) ≡ true = ap (is_taken least) (sym is) ∙ test in
        ap (λ b. if b then segment_then (loaded (program_header f index)) (segments_from f (index + 1) (count - (index + 1)) (end_of (loaded (program_header f index)))) else Err (BadSegment index)) passes
        ∙ ap (λ (s : Segment). segment_then s (segments_from f (index + 1) (count - (index + 1)) (end_of s))) (sym here)

pub more_refused :
    (f : List ℕ) (index count least : ℕ) (header : ProgramHeader) → index < count → header ≡ program_header f index
    → None ≡ (if is_taken least header then Some (loaded header) else None) → segments_from f index (count - index) least ≡ Err (BadSegment index)
unfolding segments_from
more_refused f index count least header below is refused =
    ap (λ n. segments_from f index n least) (let e : count - index ≡ suc (count - (index + 1)) = omega arith in e) ∙ by_test (is_taken least header) refl refused
  where
    by_test : (t : Bool) → is_taken least header ≡ t → None ≡ (if t then Some (loaded header) else None) → segments_from f index (suc (count - (index + 1))) least ≡ Err (BadSegment index)
    by_test true test refused = absurd (cc)
    by_test false test refused =
        let fails : is_taken least (program_header f index) ≡ false = ap (is_taken least) (sym is) ∙ test in
        ap (λ b. if b then segment_then (loaded (program_header f index)) (segments_from f (index + 1) (count - (index + 1)) (end_of (loaded (program_header f index)))) else Err (BadSegment index)) fails

pub none_left : (f : List ℕ) (index count least : ℕ) → count ≤ index → segments_from f index (count - index) least ≡ Ok []
unfolding segments_from
none_left f index count least past = ap (λ n. segments_from f index n least) (let e : count - index ≡ 0 = omega arith in e)

-- a segment that is taken lies behind those before
taken_lies : (least : ℕ) (header : ProgramHeader) (segment : Segment) → Some segment ≡ (if is_taken least header then Some (loaded header) else None) → lies_from least segment ≡ true
taken_lies least header segment took = by_test (is_taken least header) refl took
  where
    second : (a b c : Bool) → (a && (b && c)) ≡ true → c ≡ true
    second true true c is = is
    second true false c is = absurd (cc)
    second false b c is = absurd (cc)

    by_test : (t : Bool) → is_taken least header ≡ t → Some segment ≡ (if t then Some (loaded header) else None) → lies_from least segment ≡ true
    by_test false test took = absurd (cc)
    by_test true test took =
        let same : segment ≡ loaded header = cc in
        ap (lies_from least) same ∙ second _ _ (lies_from least (loaded header)) test

both : (a b : Bool) → a ≡ true → b ≡ true → (a && b) ≡ true
both true true p q = refl
both true false p q = q
both false b p q = p

first_of : (a b : Bool) → (a && b) ≡ true → a ≡ true
first_of true b is = refl
first_of false b is = is

rest_of : (a b : Bool) → (a && b) ≡ true → b ≡ true
rest_of true b is = is
rest_of false b is = absurd (cc)

rise_push : (least : ℕ) (segments : List Segment) (segment : Segment) → rise_from least segments ≡ true → lies_from (last_end least segments) segment ≡ true
    → rise_from least (segments ++ segment ∷ []) ≡ true
rise_push least [] segment rise lies = both (lies_from least segment) true lies refl
rise_push least (first ∷ later) segment rise lies =
    both (lies_from least first) (rise_from (end_of first) (later ++ segment ∷ [])) (first_of (lies_from least first) (rise_from (end_of first) later) rise)
    (rise_push (end_of first) later segment (rest_of (lies_from least first) (rise_from (end_of first) later) rise) lies)

pub rise_taken :
    (least : ℕ) (segments : List Segment) (header : ProgramHeader) (segment : Segment) → rise_from 0 segments ≡ true → least ≡ last_end 0 segments
    → Some segment ≡ (if is_taken least header then Some (loaded header) else None) → rise_from 0 (segments ++ segment ∷ []) ≡ true
rise_taken least segments header segment rise last took =
    rise_push 0 segments segment rise (ap (λ n. lies_from n segment) (sym last) ∙ taken_lies least header segment took)

-- what a segment is that lies behind those before
pub record Lies (least : ℕ) (segment : Segment) : Type 0 where
  pub some : 0 < segment.size
  pub end : segment.address + segment.size ≤ 2 ^ 64
  pub file_end : segment.offset + segment.size < 2 ^ 64
  pub from : least ≤ segment.address

pub lies : (least : ℕ) (segment : Segment) → lies_from least segment ≡ true → Lies least segment
lies least segment is = record { some = grind (arith, nat_tests); end = grind (arith, nat_tests); file_end = grind (arith, nat_tests); from = grind (arith, nat_tests) }

pub rises : (least : ℕ) (segments : List Segment) → rise_from least segments ≡ true → Rises (λ (s : Segment). s.address) end_of least segments
rises least [] rise = tt
rises least (segment ∷ later) rise =
    let l = lies least segment (first_of (lies_from least segment) (rise_from (end_of segment) later) rise) in
    (l.from, omega arith, rises (end_of segment) later (rest_of (lies_from least segment) (rise_from (end_of segment) later) rise))

-- each segment lies
pub each_lies : (least k : ℕ) (d : Segment) (segments : List Segment) → rise_from least segments ≡ true → k < length segments → Lies 0 (get_or segments k d)
each_lies least k d [] rise inside = absurd (omega arith)
each_lies least zero d (segment ∷ later) rise inside =
    let l = lies least segment (first_of (lies_from least segment) (rise_from (end_of segment) later) rise) in
    record { some = l.some; end = l.end; file_end = l.file_end; from = omega arith }
each_lies least (suc k) d (segment ∷ later) rise inside =
    each_lies (end_of segment) k d later (rest_of (lies_from least segment) (rise_from (end_of segment) later) rise) (omega arith)
