-- What the rules of a valid image say of its windows, ranges and texts.
use Rattle.std.proofs.Common.{◌≡◌, ◌∙◌, ℕ, suc, ◌+◌, ◌-◌, ◌*◌, ◌/◌, ◌%◌, ◌^◌, ◌≤◌, Bool, true, false, ◌&&◌, ◌||◌, List, [], ◌∷◌, length}
use Rattle.std.proofs.Common.{get_or, None, sum_by, refl, ap, sym, arith, lit≤, length-append}
use Rattle.std.proofs.Math.Dec.{eqb-suc-zero}
use Rattle.std.specs.Prelude.{nat_le, All, if◌then◌else◌}
use Rattle.std.specs.List.{range_with_len}
use Rattle.std.proofs.lemmas.List.FromFn.{length-range_with_len}
use Rattle.fd_bitmap.specs.Pages.{pages_of, consecutive, first_page, end_page}
use Rattle.std.proofs.lemmas.Bool.Decides.{nat_tests}
use Rattle.std.proofs.lemmas.List.Sums.{sum_by-cons}
use Rattle.fd_bytes.specs.declared.arch.Arch.{Arch}
use Rattle.fd_bytes.specs.declared.arch.Arch.TheVariants.{Amd64, Arm64, Riscv}
use Rattle.fd_bytes.specs.Profile.{profile_of}
use Rattle.fd_image.specs.declared.parts.Windows.{Windows}
use Rattle.fd_image.specs.declared.parts.Seg.{Seg}
use Rattle.fd_image.specs.Image.{MachineImage, levels_of, IsValid, is_within_limits, is_kernel_window, is_direct_map, is_range_of_pages, lies_in_segment, ragged_pair, direct_map_end, end_of}
use Rattle.fd_image.proofs.Valid.{rules_kept, kept, passes}
use Rattle.fd_pte.specs.Architecture.{directory_height_of}
use Rattle.fd_pte.specs.Entry.{bytes_under}

-- the kernel window has whole pages of the directory, and few enough entries
pub record IsDivided (arch : Arch) (w : Windows) : Type 0 where
  pub base : w.kernbase % (512 * bytes_under (directory_height_of arch)) ≡ 0
  pub span : w.kernspan % (512 * bytes_under (directory_height_of arch)) ≡ 0
  pub entries : w.kernspan / bytes_under (directory_height_of arch) ≤ 2 ^ 24
  pub end : w.kernbase + w.kernspan ≤ 2 ^ 64

divided : (arch : Arch) (w : Windows) → is_kernel_window arch w ≡ true → IsDivided arch w
divided Amd64 w test = record {
  base = grind (arith, nat_tests);
  span = grind (arith, nat_tests);
  entries = grind (arith, nat_tests);
  end = grind (arith, nat_tests);
}
divided Arm64 w test = record {
  base = grind (arith, nat_tests);
  span = grind (arith, nat_tests);
  entries = grind (arith, nat_tests);
  end = grind (arith, nat_tests);
}
divided Riscv w test = record {
  base = grind (arith, nat_tests);
  span = grind (arith, nat_tests);
  entries = grind (arith, nat_tests);
  end = grind (arith, nat_tests);
}

pub window_divided : (m : MachineImage) → IsValid m → IsDivided m.arch m.windows
window_divided m valid = divided m.arch m.windows (kept (is_kernel_window m.arch m.windows) (rules_kept m valid.unbroken).kernel_window)

reach : (arch : Arch) (w : Windows) → is_direct_map arch w ≡ true → direct_map_end w ≤ 2 ^ 56
reach Amd64 w test = grind (arith, nat_tests)
reach Arm64 w test = grind (arith, nat_tests)
reach Riscv w test = grind (arith, nat_tests)

pub direct_map_low : (m : MachineImage) → IsValid m → direct_map_end m.windows ≤ 2 ^ 56
direct_map_low m valid = reach m.arch m.windows (kept (is_direct_map m.arch m.windows) (rules_kept m valid.unbroken).direct_map)

-- the counts and the lengths that are limited
pub record IsSmall (m : MachineImage) : Type 0 where
  pub pairs : length m.avail ≤ 1024
  pub msgbuf : length m.texts.msgbuf ≤ 1048576

within_limits : (m : MachineImage) → IsValid m → is_within_limits m ≡ true
within_limits m valid = kept (is_within_limits m) (rules_kept m valid.unbroken).within_limits

pub small : (m : MachineImage) → IsValid m → IsSmall m
small m valid =
    let test = within_limits m valid in
    record { pairs = grind (arith, nat_tests); msgbuf = grind (arith, nat_tests) }

-- each range is of whole pages
pub pairs_of_pages : (m : MachineImage) → IsValid m → All (λ pair. is_range_of_pages pair ≡ true) m.avail
pairs_of_pages m valid = whole m.avail (rules_kept m valid.unbroken).pairs_whole
  where
    whole : (avail : List (ℕ × ℕ)) → ragged_pair avail ≡ None → All (λ pair. is_range_of_pages pair ≡ true) avail
    whole [] none k d within = absurd (omega arith)
    whole (pair ∷ pairs) none k d within = passes is_range_of_pages (pair ∷ pairs) (rw (eqb-suc-zero (length pairs)) at none) k within d

-- a range lies in one segment, and so isn't longer than all of them
in_segment : (segs : List Seg) (pair : ℕ × ℕ) → lies_in_segment segs pair ≡ true → pair.1 ≤ pair.0 + sum_by (λ seg. length seg.bytes) segs
in_segment [] pair lies = absurd cc
in_segment (seg ∷ segs) pair lies = here (nat_le seg.start pair.0 && nat_le pair.1 (end_of seg)) refl (in_segment segs pair)
  where
    sum : sum_by (λ (seg : Seg). length seg.bytes) (seg ∷ segs) ≡ length seg.bytes + sum_by (λ seg. length seg.bytes) segs
    sum = sum_by-cons (λ (seg : Seg). length seg.bytes) seg segs

    here : (b : Bool) → (nat_le seg.start pair.0 && nat_le pair.1 (end_of seg)) ≡ b
        → (lies_in_segment segs pair ≡ true → pair.1 ≤ pair.0 + sum_by (λ seg. length seg.bytes) segs) → pair.1 ≤ pair.0 + sum_by (λ seg. length seg.bytes) (seg ∷ segs)
    here true is later = let ends : pair.1 ≤ pair.0 + length seg.bytes = grind (arith, nat_tests) in omega (arith, sum)
    here false is later =
        let among : lies_in_segment segs pair ≡ true = sym (ap (λ b. b || lies_in_segment segs pair) is) ∙ lies in
        omega (arith, sum, later among)

-- a range has at most 2^30 bytes
pub pairs_short : (m : MachineImage) → IsValid m → All (λ pair. pair.1 ≤ pair.0 + 2 ^ 30) m.avail
pairs_short m valid k d within =
    let lies = passes (lies_in_segment m.segs) m.avail (rules_kept m valid.unbroken).pairs_inside k within d in
    let bounded : sum_by (λ (seg : Seg). length seg.bytes) m.segs ≤ 2 ^ 30 = (let test = within_limits m valid in grind (arith, nat_tests)) in
    omega (arith, in_segment m.segs (get_or m.avail k d) lies)

few_pages : (pairs : List (ℕ × ℕ)) → All (λ pair. is_range_of_pages pair ≡ true) pairs → All (λ pair. pair.1 ≤ pair.0 + 2 ^ 30) pairs
    → length (pages_of pairs) ≤ length pairs * 2 ^ 18
unfolding consecutive
few_pages [] whole short = lit≤ tt
few_pages (pair ∷ pairs) whole short =
    let is_whole = whole 0 pair (omega arith) in
    let is_short = short 0 pair (omega arith) in
    let count = end_page pair - first_page pair in
    let aligned : pair.0 % 4096 ≡ 0 = grind (arith, nat_tests) in
    let few : count ≤ 2 ^ 18 = omega arith in
    omega (
      arith,
      length-append (range_with_len (first_page pair) count) (pages_of pairs),
      length-range_with_len (first_page pair) count,
      few_pages pairs (λ k d h. whole (suc k) d (omega arith)) (λ k d h. short (suc k) d (omega arith)),
    )

-- so there are at most 2^28 pages that have a bit
pub pages_few : (m : MachineImage) → IsValid m → length (pages_of m.avail) ≤ 2 ^ 28
pages_few m valid = omega (arith, few_pages m.avail (pairs_of_pages m valid) (pairs_short m valid), (small m valid).pairs)

-- there are 2 to 4 levels of tables, above the directory's height
pub record IsTall (levels height : ℕ) : Type 0 where
  pub some_levels : 2 ≤ levels
  pub most_levels : levels ≤ 4
  pub low : height + 2 ≤ levels

tall : (arch : Arch) (sv48 : Bool) → IsTall (if sv48 then 4 else (profile_of arch).levels) (directory_height_of arch)
tall Amd64 true = record { some_levels = lit≤ tt; most_levels = lit≤ tt; low = lit≤ tt }
tall Arm64 true = record { some_levels = lit≤ tt; most_levels = lit≤ tt; low = lit≤ tt }
tall Riscv true = record { some_levels = lit≤ tt; most_levels = lit≤ tt; low = lit≤ tt }
tall Amd64 false = record { some_levels = lit≤ tt; most_levels = lit≤ tt; low = lit≤ tt }
tall Arm64 false = record { some_levels = lit≤ tt; most_levels = lit≤ tt; low = lit≤ tt }
tall Riscv false = record { some_levels = lit≤ tt; most_levels = lit≤ tt; low = lit≤ tt }

-- the same of the levels and the height of entries that serve an image
pub tall_of : (levels height : ℕ) (m : MachineImage) → levels ≡ levels_of m → height ≡ directory_height_of m.arch → IsTall levels height
tall_of levels height m is_levels is_height = rw (is_levels, is_height) (tall m.arch m.sv48)
