-- What the rules of a valid image say of its pairs and windows, in numbers.
use Rattle.std.proofs.Common.{◌≡◌, ℕ, ◌+◌, ◌*◌, ◌/◌, ◌%◌, ◌<◌, ◌≤◌, ◌^◌, Bool, true, false, cond, List, ◌∷◌, length, map, get_or, Option, Some, None, sym, ◌∙◌, ap, arith}
use Rattle.std.specs.Prelude.{◌==◌}
use Rattle.std.proofs.lemmas.Bool.Decides.{nat_tests}
use Rattle.fd_bytes.specs.Profile.{profile_of}
use Rattle.fd_bytes.specs.declared.arch.Arch.{Arch}
use Rattle.fd_bytes.specs.declared.arch.Arch.TheVariants.{Amd64, Arm64, Riscv}
use Rattle.fd_image.specs.Image.{MachineImage, IsValid, first_failing, beside_the_one_before, is_range_of_pages, ragged_pair, pair_end, pair_begins_at_or_after, is_direct_map}
use Rattle.fd_image.specs.declared.parts.Windows.{Windows}
use Rattle.fd_image.proofs.Places.{length-beside, get_or-beside}
use Rattle.fd_image.proofs.Valid.{rules_kept, passes, kept}
use Rattle.fd_pte.specs.Architecture.{directory_height_of}
use Rattle.fd_pte.specs.Entry.{bytes_under}
use Rattle.fd_dump.proofs.Limits.{IsDivided, window_divided}

-- there are pairs, and each passes
unless_none : (test : Bool) (later : Option ℕ) → cond test (Some 0) later ≡ None → later ≡ None
unless_none true later none = cc
unless_none false later none = none

pairs_pass : (avail : List (ℕ × ℕ)) → ragged_pair avail ≡ None → (k : ℕ) → k < length avail → (d : ℕ × ℕ) → is_range_of_pages (get_or avail k d) ≡ true
pairs_pass avail none k within d = passes is_range_of_pages avail (unless_none (length avail == 0) (first_failing is_range_of_pages avail) none) k within d

-- a pair of available memory
pub record IsRange (pair : ℕ × ℕ) : Type 0 where
  pub start : pair.0 % 4096 ≡ 0
  pub end : pair.1 % 4096 ≡ 0
  pub some : pair.0 < pair.1

IsRange-from_test : (pair : ℕ × ℕ) → is_range_of_pages pair ≡ true → IsRange pair
IsRange-from_test pair test = record { start = grind (arith, nat_tests); end = grind (arith, nat_tests); some = grind (arith, nat_tests) }

pub pair_whole : (m : MachineImage) → IsValid m → (k : ℕ) → k < length m.avail → (d : ℕ × ℕ) → IsRange (get_or m.avail k d)
pair_whole m valid k within d = IsRange-from_test (get_or m.avail k d) (pairs_pass m.avail (rules_kept m valid.unbroken).pairs_whole k within d)

-- a pair begins at or after the end of the one before, the first at or after 0
pub pair_after : (m : MachineImage) → IsValid m → (k : ℕ) → k < length m.avail → (d : ℕ × ℕ) → get_or (0 ∷ map pair_end m.avail) k 0 ≤ (get_or m.avail k d).0
pair_after m valid k within d =
    let in_order = (rules_kept m valid.unbroken).pairs_in_order in
    let test : pair_begins_at_or_after (get_or (beside_the_one_before pair_end m.avail) k (0, d)) ≡ true =
    passes pair_begins_at_or_after (beside_the_one_before pair_end m.avail) in_order k (omega (arith, length-beside pair_end m.avail)) (0, d) in
    let here : pair_begins_at_or_after (get_or (0 ∷ map pair_end m.avail) k 0, get_or m.avail k d) ≡ true = ap pair_begins_at_or_after (sym (get_or-beside pair_end m.avail k d within)) ∙ test in
    grind (arith, nat_tests, here)

-- the windows
pub record AreWindows (arch : Arch) (w : Windows) : Type 0 where
  pub kernbase : w.kernbase % bytes_under (directory_height_of arch + 1) ≡ 0
  pub kernspan : w.kernspan % bytes_under (directory_height_of arch + 1) ≡ 0
  pub entries : 8 * (w.kernspan / bytes_under (directory_height_of arch)) < 2 ^ 32
  pub whole_pages : 8 * (w.kernspan / bytes_under (directory_height_of arch)) % 4096 ≡ 0
  pub unshifted : (profile_of arch).shifts_direct_map ≡ false → w.dmapphys ≡ 0

windows_kept : (arch : Arch) (w : Windows) → is_direct_map arch w ≡ true → IsDivided arch w → AreWindows arch w
windows_kept Amd64 w direct divided = record {
  kernbase = divided.base;
  kernspan = divided.span;
  entries = omega (arith, divided.entries);
  whole_pages = omega (arith, divided.span);
  unshifted = λ shifts. grind (arith, nat_tests);
}
windows_kept Arm64 w direct divided = record {
  kernbase = divided.base;
  kernspan = divided.span;
  entries = omega (arith, divided.entries);
  whole_pages = omega (arith, divided.span);
  unshifted = λ shifts. grind (arith, nat_tests);
}
windows_kept Riscv w direct divided = record {
  kernbase = divided.base;
  kernspan = divided.span;
  entries = omega (arith, divided.entries);
  whole_pages = omega (arith, divided.span);
  unshifted = λ shifts. grind (arith, nat_tests);
}

pub windows_of : (m : MachineImage) → IsValid m → AreWindows m.arch m.windows
windows_of m valid =
    windows_kept m.arch m.windows (kept (is_direct_map m.arch m.windows) (rules_kept m valid.unbroken).direct_map) (window_divided m valid)
