-- What the first 112 bytes of a file say, the file says.
use Rattle.std.proofs.Common.{◌≡◌, ℕ, ◌+◌, ◌<◌, ◌≤◌, true, false, nat_lt, List, length, slice_range, Some, None, if◌then◌else◌, refl, sym, ◌∙◌, ap, arith}
use Rattle.std.specs.Int.{w32, from_le_bytes}
use Rattle.std.proofs.lemmas.List.{take-take}
use Rattle.std.proofs.lemmas.Bool.Decides.{nat_tests}
use Rattle.fd_bytes.specs.Field.{u32_le_at}
use Rattle.fd_imgfile.specs.Front.{IsCounted, IsFront, fields_of}
use Rattle.fd_imgfile.specs.Reading.{first_broken, front_checks, fault_place, by_front}
use Rattle.fd_imgfile.specs.declared.front.Front.{Front}
use Rattle.fd_image.proofs.Slices.{slice-slice}

pub u32_le_at-slice : (f : List ℕ) (a b at : ℕ) → a + (at + 4) ≤ b → u32_le_at (slice_range f a b) at ≡ u32_le_at f (a + at)
unfolding u32_le_at
u32_le_at-slice f a b at within =
    ap (from_le_bytes w32) (slice-slice f a b at (at + 4) (omega arith) within ∙ ap (λ n. slice_range f (a + at) n) (omega arith))

front_checks-slice : (f : List ℕ) → front_checks (slice_range f 0 112) ≡ front_checks f
front_checks-slice f =
    let at : (n : ℕ) → n + 4 ≤ 112 → u32_le_at (slice_range f 0 112) n ≡ u32_le_at f (0 + n) = λ n within. u32_le_at-slice f 0 112 n (omega arith) in
    rw (
      at 16 (omega arith),
      at 20 (omega arith),
      at 24 (omega arith),
      at 28 (omega arith),
      at 32 (omega arith),
      at 36 (omega arith),
      at 40 (omega arith),
      at 44 (omega arith),
      at 48
          (omega arith),
      at 52 (omega arith),
      take-take 16 112 f (omega arith),
    ) refl

-- a file that is too short
pub short_fault : (f : List ℕ) (len : ℕ) → length f ≡ len → len < 112 → fault_place f ≡ Some len
unfolding fault_place
short_fault f len is short =
    let test : nat_lt (length f) 112 ≡ true = grind (arith, nat_tests) in
    ap (λ t. if t then Some (length f) else by_front f (first_broken (front_checks f))) test ∙ ap Some is

-- a file that is long enough, by its first broken field
pub fault_place-long : (f : List ℕ) → 112 ≤ length f → fault_place f ≡ by_front f (first_broken (front_checks f))
unfolding fault_place
fault_place-long f long =
    let test : nat_lt (length f) 112 ≡ false = grind (arith, nat_tests) in
    ap (λ t. if t then Some (length f) else by_front f (first_broken (front_checks f))) test

pub field_fault : (f bytes : List ℕ) (len place : ℕ) → length f ≡ len → 112 ≤ len → bytes ≡ slice_range f 0 112 → first_broken (front_checks bytes) ≡ Some place → fault_place f ≡ Some place
field_fault f bytes len place is long read broken =
    let same : first_broken (front_checks f) ≡ Some place = ap first_broken (sym (ap front_checks read ∙ front_checks-slice f)) ∙ broken in
    fault_place-long f (omega arith) ∙ ap (by_front f) same

pub front_is : (f bytes : List ℕ) (h : Front) (len : ℕ) → length f ≡ len → 112 ≤ len → bytes ≡ slice_range f 0 112 → first_broken (front_checks bytes) ≡ None → bytes ≡ fields_of h
    → IsCounted bytes h → IsFront f h
front_is f bytes h len is long read kept spelled counted =
    let at : (n : ℕ) → n + 4 ≤ 112 → u32_le_at f (0 + n) ≡ u32_le_at bytes n = λ n within. sym (ap (λ (l : List ℕ). u32_le_at l n) read ∙ u32_le_at-slice f 0 112 n (omega arith)) in
    record {
      long = omega arith;
      kept = ap first_broken (sym (ap front_checks read ∙ front_checks-slice f)) ∙ kept;
      spelled = sym read ∙ spelled;
      counted = record {
        segs = at 24 (omega arith) ∙ counted.segs;
        avail = at 28 (omega arith) ∙ counted.avail;
        wanted = at 32 (omega arith) ∙ counted.wanted;
        host = at 36 (omega arith) ∙ counted.host;
        version = at 40 (omega arith) ∙ counted.version;
        panic = at 44 (omega arith) ∙ counted.panic;
        msgbuf = at 48 (omega arith) ∙ counted.msgbuf;
      };
    }
