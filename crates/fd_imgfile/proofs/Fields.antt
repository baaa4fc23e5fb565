-- The fields of an image's file are spelled in its first 112 bytes.
use Rattle.std.proofs.Common.{◌≡◌, ℕ, ◌<◌, ◌≤◌, Bool, true, false, cond, ◌==◌, nat_lt, nat_le, ◌+◌, ◌^◌, List, [], ◌∷◌, ◌++◌, length, get_or, take}
use Rattle.std.proofs.Common.{slice_range, Some, None, refl, sym, ◌∙◌, arith}
use Rattle.std.proofs.lemmas.Slice.Eq.{bytes_eq-Decides}
use Rattle.std.proofs.lemmas.Bool.Decides.{nat_tests}
use Rattle.std.proofs.lemmas.List.Edits.{length-between}
use Rattle.std.proofs.lemmas.Nat.{le_bytes_4}
use Rattle.fd_bytes.specs.Field.{u32_le_at}
use Rattle.fd_imgfile.specs.Reading.{first_broken, front_checks}
use Rattle.fd_imgfile.specs.Front.{fields_of}
use Rattle.fd_imgfile.specs.Spelling.{magic, u32, u64, number_of, windows_of}
use Rattle.fd_image.specs.declared.parts.Windows.{Windows}
use Rattle.fd_imgfile.specs.declared.front.Front.{Front}
use Rattle.fd_image.proofs.Slices.{slice-join, slice-all, byte_of_slice}

-- four bytes that hold a number spell it
pub u32_is : (f : List ℕ) (at n : ℕ) → at + 4 ≤ length f → ((i : ℕ) → get_or f i 0 < 2 ^ 8) → u32_le_at f at ≡ n → slice_range f at (at + 4) ≡ u32 n
unfolding u32_le_at
u32_is f at n within bytes is =
    let four : length (slice_range f at (at + 4)) ≡ 4 = length-between f at (at + 4) within ∙ omega arith in
    sym (le_bytes_4 (slice_range f at (at + 4)) n four (λ i. byte_of_slice f at (at + 4) i bytes) (sym is))

-- each check is kept
abbrev pub AllKept : List (Bool × ℕ) → Type 0
AllKept [] = Unit {0}
AllKept (check ∷ checks) = (check.0 ≡ true) × AllKept checks

all_kept : (checks : List (Bool × ℕ)) → first_broken checks ≡ None → AllKept checks
all_kept [] none = tt
all_kept (check ∷ checks) none = by_test (all_kept checks) check.0 none
  where
    by_test : (first_broken checks ≡ None → AllKept checks) → (t : Bool) → cond t (first_broken checks) (Some check.1) ≡ None → (t ≡ true) × AllKept checks
    by_test rest true none = (refl, rest none)
    by_test rest false none = absurd (cc)

-- what fields say of which no check is broken
pub record AreKept (f : List ℕ) : Type 0 where
  pub magic : slice_range f 0 16 ≡ magic
  pub version : u32_le_at f 16 ≡ 1
  pub arch_some : 0 < u32_le_at f 20
  pub arch_last : u32_le_at f 20 ≤ 4
  pub segs : u32_le_at f 24 ≤ 64
  pub avail : u32_le_at f 28 ≤ 1024
  pub wanted : u32_le_at f 32 ≤ 262144
  pub host : u32_le_at f 36 ≤ 255
  pub version_text : u32_le_at f 40 ≤ 1023
  pub panic : u32_le_at f 44 ≤ 1023
  pub msgbuf : u32_le_at f 48 ≤ 1048576
  pub zero : u32_le_at f 52 ≡ 0

within_limit : (n limit : ℕ) → nat_le n limit ≡ true → n ≤ limit
within_limit n limit test = grind (arith, nat_tests)

is_same : (m n : ℕ) → (m == n) ≡ true → m ≡ n
is_same m n test = grind (arith, nat_tests)

is_below : (m n : ℕ) → nat_lt m n ≡ true → m < n
is_below m n test = grind (arith, nat_tests)

pub fields_kept : (f : List ℕ) → first_broken (front_checks f) ≡ None → AreKept f
fields_kept f none =
    let k : AllKept (front_checks f) = all_kept (front_checks f) none in
    record {
      magic = (bytes_eq-Decides (take 16 f) magic).0 k.0;
      version = is_same (u32_le_at f 16) 1 k.1.0;
      arch_some = is_below 0 (u32_le_at f 20) k.1.1.0;
      arch_last = within_limit (u32_le_at f 20) 4 k.1.1.1.0;
      segs = within_limit (u32_le_at f 24) 64 k.1.1.1.1.0;
      avail = within_limit (u32_le_at f 28) 1024 k.1.1.1.1.1.0;
      wanted = within_limit (u32_le_at f 32) 262144 k.1.1.1.1.1.1.0;
      host = within_limit (u32_le_at f 36) 255 k.1.1.1.1.1.1.1.0;
      version_text = within_limit (u32_le_at f 40) 1023 k.1.1.1.1.1.1.1.1.0;
      panic = within_limit (u32_le_at f 44) 1023 k.1.1.1.1.1.1.1.1.1.0;
      msgbuf = within_limit (u32_le_at f 48) 1048576 k.1.1.1.1.1.1.1.1.1.1.0;
      zero = is_same (u32_le_at f 52) 0 k.1.1.1.1.1.1.1.1.1.1.1.0;
    }

-- the fields are all of the bytes
pub fields_spelled : (f : List ℕ) (h : Front) → length f ≡ 112 → slice_range f 0 16 ≡ magic → slice_range f 16 20 ≡ u32 1 → slice_range f 20 24 ≡ u32 (number_of h.arch h.sv48)
    → slice_range f 24 28 ≡ u32 h.segs → slice_range f 28 32 ≡ u32 h.avail → slice_range f 32 36 ≡ u32 h.wanted → slice_range f 36 40 ≡ u32 h.host → slice_range f 40 44 ≡ u32 h.version
    → slice_range f 44 48 ≡ u32 h.panic → slice_range f 48 52 ≡ u32 h.msgbuf → slice_range f 52 56 ≡ u32 0 → slice_range f 56 64 ≡ u64 h.root → slice_range f 64 104 ≡ windows_of h.windows
    → slice_range f 104 112 ≡ u64 h.time → f ≡ fields_of h
fields_spelled f h len magic_is version arch segs avail wanted host version_text panic msgbuf none root windows time =
    let cut : f ≡ slice_range f 0 16 ++ slice_range f 16 20 ++ slice_range f 20 24 ++ (slice_range f 24 28 ++ slice_range f 28 32 ++ slice_range f 32 36) ++
    (slice_range f 36 40 ++ slice_range f 40 44 ++ slice_range f 44 48 ++ slice_range f 48 52) ++ slice_range f 52 56 ++ slice_range f 56 64 ++ slice_range f 64 104 ++ slice_range f 104 112 =
    rw (
      slice-join f 0 16 20 (omega arith) (omega arith),
      slice-join f 0 20 24 (omega arith) (omega arith),
      slice-join f 24 28 32 (omega arith) (omega arith),
      slice-join f 24 32 36
          (omega arith) (omega arith),
      slice-join f 0 24 36 (omega arith) (omega arith),
      slice-join f 36 40 44 (omega arith) (omega arith),
      slice-join f 36 44 48 (omega arith)
          (omega arith),
      slice-join f 36 48 52 (omega arith) (omega arith),
      slice-join f 0 36 52 (omega arith) (omega arith),
      slice-join f 0 52 56 (omega arith)
          (omega arith),
      slice-join f 0 56 64 (omega arith) (omega arith),
      slice-join f 0 64 104 (omega arith) (omega arith),
      slice-join f 0 104 112 (omega arith) (omega arith),
    )
    (sym (slice-all f 112 (omega arith))) in
    cut ∙ rw (magic_is, version, arch, segs, avail, wanted, host, version_text, panic, msgbuf, none, root, windows, time) refl

-- the windows are the five numbers from place 64 on
pub windows_spelled : (f : List ℕ) (w : Windows) → u64 w.kernbase ≡ slice_range f 64 72 → u64 w.kernspan ≡ slice_range f 72 80 → u64 w.dmapbase ≡ slice_range f 80 88
    → u64 w.dmapend ≡ slice_range f 88 96 → u64 w.dmapphys ≡ slice_range f 96 104 → slice_range f 64 104 ≡ windows_of w
windows_spelled f w base span start end phys =
    let cut : slice_range f 64 72 ++ slice_range f 72 80 ++ slice_range f 80 88 ++ slice_range f 88 96 ++ slice_range f 96 104 ≡ slice_range f 64 104 =
    rw (
      slice-join f 64 72 80 (omega arith) (omega arith),
      slice-join f 64 80 88 (omega arith) (omega arith),
      slice-join f 64 88 96 (omega arith) (omega arith),
      slice-join f 64 96 104
          (omega arith) (omega arith),
    ) refl in
    sym cut ∙ rw (sym base, sym span, sym start, sym end, sym phys) refl
