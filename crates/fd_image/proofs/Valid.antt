-- What the validity of an image says of each of its fields.
use Rattle.std.proofs.Common.{◌≡◌, ℕ, suc, ◌<◌, ◌≤◌, Bool, true, false, not, ◌||◌, if◌then◌else◌, cond, find, List, [], ◌∷◌, length}
use Rattle.std.proofs.Common.{get_or, Option, Some, None, Bor, IsTrue, IfSome, ap, sym, ◌∙◌, refl, arith, ◌%◌, min, max}
use Rattle.std.specs.List.{position_or_len}
use Rattle.std.specs.Option.{option_copied}
use Rattle.std.proofs.lemmas.List.Sums.{fails_before_first}
use Rattle.std.proofs.lemmas.Bool.Decides.{nat_tests}
use Rattle.fd_bytes.specs.Profile.{profile_of}
use Rattle.fd_image.specs.Image.{MachineImage, first_failing, missing_segment, ragged_segment, segment_out_of_order, segment_past_end, is_whole_pages, unless}
use Rattle.fd_image.specs.Image.{is_within_limits, ragged_pair, pair_out_of_order, pair_outside, bad_wanted_page, bad_root, is_kernel_window, is_in_kernel_space}
use Rattle.fd_image.specs.Image.{is_direct_map, are_apart, is_known_paging, is_riscv, levels_of, breaches, first_breach, broken_rule, IsValid, is_page_aligned, kernel_end}
use Rattle.fd_image.specs.Physical.{has_address, segment_of}
use Rattle.fd_image.specs.declared.parts.Seg.{Seg}

-- the rules, each as it is kept
pub record KeepsRules (m : MachineImage) : Type 0 where
  pub has_segment : missing_segment m.segs ≡ None
  pub segments_whole : ragged_segment m.segs ≡ None
  pub segments_in_order : segment_out_of_order m.segs ≡ None
  pub segments_within : segment_past_end m.arch m.segs ≡ None
  pub within_limits : unless (is_within_limits m) ≡ None
  pub pairs_whole : ragged_pair m.avail ≡ None
  pub pairs_in_order : pair_out_of_order m.avail ≡ None
  pub pairs_inside : pair_outside m.segs m.avail ≡ None
  pub wanted_in_order : bad_wanted_page m.wanted ≡ None
  pub root_aligned : bad_root m.root ≡ None
  pub kernel_window : unless (is_kernel_window m.arch m.windows) ≡ None
  pub kernel_space : unless (is_in_kernel_space m) ≡ None
  pub direct_map : unless (is_direct_map m.arch m.windows) ≡ None
  pub windows_apart : unless (are_apart m.windows) ≡ None
  pub known_paging : unless (is_known_paging m.arch m.sv48) ≡ None

-- where no rule is broken, the first isn't and no later one is
unbroken-first : (n : ℕ) (place : Option ℕ) (later : List (Option ℕ)) → first_breach n (place ∷ later) ≡ None → (place ≡ None) × (first_breach (suc n) later ≡ None)
unbroken-first n None later e = (refl, e)
unbroken-first n (Some least) later e = absurd cc

pub rules_kept : (m : MachineImage) → broken_rule m ≡ None → KeepsRules m
unfolding broken_rule breaches
rules_kept m e =
    let a1 = unbroken-first 1 _ _ e in
    let a2 = unbroken-first 2 _ _ a1.1 in
    let a3 = unbroken-first 3 _ _ a2.1 in
    let a4 = unbroken-first 4 _ _ a3.1 in
    let a5 = unbroken-first 5 _ _ a4.1 in
    let a6 = unbroken-first 6 _ _ a5.1 in
    let a7 = unbroken-first 7 _ _ a6.1 in
    let a8 = unbroken-first 8 _ _ a7.1 in
    let a9 = unbroken-first 9 _ _ a8.1 in
    let a10 = unbroken-first 10 _ _ a9.1 in
    let a11 = unbroken-first 11 _ _ a10.1 in
    let a12 = unbroken-first 12 _ _ a11.1 in
    let a13 = unbroken-first 13 _ _ a12.1 in
    let a14 = unbroken-first 14 _ _ a13.1 in
    let a15 = unbroken-first 15 _ _ a14.1 in
    record {
      has_segment = a1.0;
      segments_whole = a2.0;
      segments_in_order = a3.0;
      segments_within = a4.0;
      within_limits = a5.0;
      pairs_whole = a6.0;
      pairs_in_order = a7.0;
      pairs_inside = a8.0;
      wanted_in_order = a9.0;
      root_aligned = a10.0;
      kernel_window = a11.0;
      kernel_space = a12.0;
      direct_map = a13.0;
      windows_apart = a14.0;
      known_paging = a15.0;
    }

-- where no place fails, each item passes
pub passes : {X : Type 0} (test : X → Bool) (xs : List X) → first_failing test xs ≡ None → (k : ℕ) → k < length xs → (d : X) → test (get_or xs k d) ≡ true
passes test xs none k within d =
    let all : length xs ≤ position_or_len (λ x. not (test x)) xs = grind (arith, nat_tests) in
    let kept : not (test (get_or xs k d)) ≡ false = fails_before_first (λ x. not (test x)) xs k d (omega arith) in
    by_not (test (get_or xs k d)) kept
  where
    by_not : (b : Bool) → not b ≡ false → b ≡ true
    by_not true e = refl
    by_not false e = cc

-- an item that was found has what it was looked for by, and what each item has
pub found : {X : Type 0} (wanted test : X → Bool) (xs : List X) (x : X) → find wanted xs ≡ Some x
    → ((k : ℕ) → k < length xs → (d : X) → test (get_or xs k d) ≡ true) → (wanted x ≡ true) × (test x ≡ true)
found wanted test [] x e all = absurd cc
found {X = X} wanted test (y ∷ ys) x e all =
    here (wanted y) refl e (λ rest. found wanted test ys x rest (λ k within d. all (suc k) (omega arith) d))
  where
    here : (b : Bool) → wanted y ≡ b → cond b (Some y) (find wanted ys) ≡ Some x
        → (find wanted ys ≡ Some x → (wanted x ≡ true) × (test x ≡ true)) → (wanted x ≡ true) × (test x ≡ true)
    here true is e later = let same : y ≡ x = cc in (ap wanted (sym same) ∙ is, ap test (sym same) ∙ all 0 (omega arith) y)
    here false is e later = later e

-- the segment of an address has it, and whole pages
pub segment_found : (m : MachineImage) (pa : ℕ) (seg : Seg) → IsValid m → segment_of m pa ≡ Some seg → (has_address pa seg ≡ true) × (is_whole_pages seg ≡ true)
segment_found m pa seg valid e = found (has_address pa) is_whole_pages m.segs seg e (passes is_whole_pages m.segs (rules_kept m valid.unbroken).segments_whole)

-- the same of a segment that is lent
pub segment_lent-has : (m : MachineImage) (pa : ℕ) (r : Option (Bor Seg)) → IsValid m → option_copied r ≡ segment_of m pa → IfSome r (λ seg. IsTrue (has_address pa seg.now))
segment_lent-has m pa None valid e = tt
segment_lent-has m pa (Some seg) valid e = (segment_found m pa seg.now valid (sym e)).0

pub segment_lent-whole : (m : MachineImage) (pa : ℕ) (r : Option (Bor Seg)) → IsValid m → option_copied r ≡ segment_of m pa → IfSome r (λ seg. IsTrue (is_whole_pages seg.now))
segment_lent-whole m pa None valid e = tt
segment_lent-whole m pa (Some seg) valid e = (segment_found m pa seg.now valid (sym e)).1

-- a rule at place 0 is kept
pub kept : (b : Bool) → unless b ≡ None → b ≡ true
kept true e = refl
kept false e = absurd cc

pub root_is_aligned : (m : MachineImage) → IsValid m → m.root % 4096 ≡ 0
root_is_aligned m valid =
    let test : is_page_aligned m.root ≡ true = kept (is_page_aligned m.root) (rules_kept m valid.unbroken).root_aligned in
    grind (arith, nat_tests)

-- Sv48 is on RISC-V alone
pub no_sv48 : (m : MachineImage) → IsValid m → is_riscv m.arch ≡ false → m.sv48 ≡ false
no_sv48 m valid other = by_test m.sv48 (is_riscv m.arch) (kept (is_known_paging m.arch m.sv48) (rules_kept m valid.unbroken).known_paging) other
  where
    by_test : (sv48 riscv : Bool) → (not sv48 || riscv) ≡ true → riscv ≡ false → sv48 ≡ false
    by_test false riscv test other = refl
    by_test true riscv test other = absurd (cc (test, other))

-- and the others have the levels of their profile
pub levels_of_profile : (m : MachineImage) → IsValid m → is_riscv m.arch ≡ false → levels_of m ≡ (profile_of m.arch).levels
levels_of_profile m valid other = ap (λ sv48. if sv48 then 4 else (profile_of m.arch).levels) (no_sv48 m valid other)

-- no kernel address lies in the kernel window and in the direct map
pub no_address_in_both : (m : MachineImage) → IsValid m → (va : ℕ) → m.windows.kernbase ≤ va → va < kernel_end m.windows → m.windows.dmapbase ≤ va → va < m.windows.dmapend → ⊥
no_address_in_both m valid va from_window to_window from_map to_map =
    let test : are_apart m.windows ≡ true = kept (are_apart m.windows) (rules_kept m valid.unbroken).windows_apart in
    let apart : min (kernel_end m.windows) m.windows.dmapend ≤ max m.windows.kernbase m.windows.dmapbase = grind (arith, nat_tests) in
    omega arith
