-- Opening an image's minidump finds its header, the pages of its ranges and its bits.
use Rattle.std.proofs.Common.{◌≡◌, ℕ, zero, suc, ◌+◌, ◌-◌, ◌*◌, ◌<◌, ◌≤◌, ◌^◌, Bool, true, false, cond, List, ◌++◌, length, take, replicate, None, Result, Ok, refl, sym, ◌∙◌, ap, arith, lit<}
use Rattle.std.specs.Prelude.{◌==◌, if◌then◌else◌}
use Rattle.std.specs.Int.{div_ceil}
use Rattle.std.proofs.lemmas.Bool.Decides.{nat_tests}
use Rattle.std.proofs.lemmas.List.Sums.{sum_by-cons}
use Rattle.fd_bytes.specs.Profile.{profile_of}
use Rattle.fd_bytes.specs.declared.arch.Arch.{Arch}
use Rattle.fd_bytes.specs.declared.arch.Arch.TheVariants.{Amd64, Arm64, Riscv}
use Rattle.fd_image.specs.Image.{MachineImage, IsValid}
use Rattle.fd_bitmap.specs.Bits.{bits_of, set_count}
use Rattle.fd_bitmap.specs.Pages.{consecutive, pages_of, first_bad}
use Rattle.fd_bitmap.proofs.ByteBits.{set_count-append}
use Rattle.fd_mini.specs.Layout.{layout_of}
use Rattle.fd_mini.specs.Page as mini
use Rattle.fd_mini.specs.Places.{rounded_up, places_of}
use Rattle.fd_mini.specs.Read.{header_in}
use Rattle.fd_mini.specs.Readable.{IsReadable}
use Rattle.fd_mini.specs.declared.header.MiniHeader.{MiniHeader}
use Rattle.fd_mini.proofs.Layouts.{current_has_dumpavailsize, current_is_known, length-page_of}
use Rattle.fd_vmcore.specs.Ranges.{pairs_in, ranges_of, pages_in}
use Rattle.fd_vmcore.specs.Sections.{Sections, bits_in, pages_end, long_enough, by_pages, bad_range, by_ranges, by_header, opened}
use Rattle.fd_vmcore.specs.declared.open.OpenFault.{OpenFault}
use Rattle.fd_dump.specs.Dumped.{dumped_bits}
use Rattle.fd_dump.specs.Minidump.{avail_bytes, bitmap_bytes, filled, mini_header_of, minidump_of}
use Rattle.fd_dump.proofs.Limits.{small, pages_few}
use Rattle.fd_dump.proofs.Sizes.{length-avail, length-bits, length-memory}
use Rattle.fd_dump.proofs.Stands.{range-Stands}
use Rattle.fd_way.proofs.AvailBack.{pairs_back, none_bad}
use Rattle.fd_way.proofs.BitmapBits.{bits_of-filled}
use Rattle.fd_way.proofs.Limits.{AreWindows, windows_of, pair_whole}
use Rattle.fd_dump.proofs.SectionPlaces.{length-ranges, length-bitmap, Stands-header, Stands-ranges, Stands-bitmap, length-file}

-- that the page of each readable header is read as that header
abbrev pub AreReadBack : Type 0
AreReadBack = (h : MiniHeader) → IsReadable h → header_in (mini.page_of h) ≡ Ok h

-- the clear bits behind those of the pages
abbrev pub clear_count : MachineImage → ℕ
clear_count m =
    let bits = dumped_bits m in
    8 * div_ceil (length bits) 8 - length bits + 8 * (rounded_up (length (bitmap_bytes bits)) - length (bitmap_bytes bits))

abbrev pub clear_bits : MachineImage → List Bool
clear_bits m = replicate (clear_count m) false

-- what opening the minidump finds
abbrev pub sections_of : MachineImage → Sections
sections_of m = record { header = mini_header_of m; pages = pages_of m.avail; bits = dumped_bits m ++ clear_bits m }

set_count-clear : (count : ℕ) → set_count (replicate count false) ≡ 0
set_count-clear zero = refl
set_count-clear (suc count) = sum_by-cons (λ (bit : Bool). cond bit 1 0) false (replicate count false) ∙ omega (arith, set_count-clear count)

-- a header of the current version, and with dmapphys where the direct map may begin at another address
version_short : (arch : Arch) → (profile_of arch).minidump_version < 2 ^ 32
version_short Amd64 = lit< tt
version_short Arm64 = lit< tt
version_short Riscv = lit< tt

dmapphys_kept : (arch : Arch) (version : ℕ) → (profile_of arch).shifts_direct_map ≡ (layout_of arch version).has_dmapphys
dmapphys_kept Amd64 version = refl
dmapphys_kept Arm64 version = refl
dmapphys_kept Riscv version = refl

-- a file that is long enough isn't refused
enough : (f : List ℕ) (need : ℕ) (answer : Result Sections OpenFault) → need ≤ length f → long_enough f need answer ≡ answer
enough f need answer long = grind (arith, nat_tests)

module _ (m : MachineImage) (valid : IsValid m) where
  abbrev windows : AreWindows m.arch m.windows
  windows = windows_of m valid

  abbrev file : List ℕ
  file = minidump_of m

  abbrev header : MiniHeader
  header = mini_header_of m

  abbrev ranges : List ℕ
  ranges = filled (avail_bytes m.avail)

  abbrev bitmap : List ℕ
  bitmap = filled (bitmap_bytes (dumped_bits m))

  begins : take 4096 file ≡ mini.page_of header
  begins = range-Stands (mini.page_of header) file 0 4096 (Stands-header m valid) (length-page_of header)

  -- the sizes are within the reader's limits
  ranges_short : header.dumpavailsize ≤ 2 ^ 20
  ranges_short = omega (arith, length-avail m.avail, small m valid)

  bitmap_short : header.bitmapsize ≤ 2 ^ 26
  bitmap_short = omega (arith, length-bits m, pages_few m valid)

  readable : IsReadable header
  readable =
      let typed = valid.typed in
      record {
        typed = record {
          version = version_short m.arch;
          msgbufsize = omega (arith, small m valid);
          bitmapsize = omega (arith, bitmap_short);
          pmapsize = windows.entries;
          kernbase = typed.kernel_window.0;
          dmapphys = typed.direct_map.2;
          dmapbase = typed.direct_map.0;
          dmapend = typed.direct_map.1;
          dumpavailsize = omega (arith, ranges_short);
          flags = lit< tt;
        };
        known = current_is_known m.arch;
        no_dmapphys = λ none. windows.unshifted (dmapphys_kept m.arch header.version ∙ none);
        no_dumpavailsize = λ none. let e : true ≡ false = sym (current_has_dumpavailsize m.arch) ∙ none in cc;
        no_flags = λ none. refl;
        small_granule = refl;
        avail_within = ranges_short;
        bitmap_within = bitmap_short;
      }

  -- the ranges and their pages
  ranges_back : ranges_of file header ≡ m.avail
  ranges_back =
      ap (λ (section : List ℕ). pairs_in section header.dumpavailsize)
      (range-Stands ranges file (places_of header).avail header.dumpavailsize (Stands-ranges m valid) (length-ranges m valid))
      ∙ ap (pairs_in ranges) (sym (length-ranges m valid))
      ∙ pairs_back m.avail valid.typed.avail (λ k within. omega (arith, pair_whole m valid k within (0, 0)))

  some_ranges : (header.dumpavailsize == 0) ≡ false
  some_ranges =
      let some : 0 < header.dumpavailsize = omega (arith, length-avail m.avail) in
      grind (arith, nat_tests)

  none_is_bad : bad_range file header ≡ None
  none_is_bad = ap (λ (none : Bool). if none then None else first_bad (ranges_of file header)) some_ranges ∙ ap first_bad ranges_back ∙ none_bad m valid

  pages_back : pages_in file header ≡ pages_of m.avail
  pages_back =
      ap (λ (none : Bool). if none then consecutive 0 (8 * header.bitmapsize) else pages_of (ranges_of file header)) some_ranges ∙ ap pages_of ranges_back

  -- the bits
  bits_back : bits_in file header ≡ dumped_bits m ++ clear_bits m
  bits_back =
      ap bits_of (range-Stands bitmap file (places_of header).bitmap header.bitmapsize (Stands-bitmap m valid) (length-bitmap m valid))
      ∙ bits_of-filled (dumped_bits m) (rounded_up (length (bitmap_bytes (dumped_bits m))) - length (bitmap_bytes (dumped_bits m)))

  -- the file ends where its dumped pages do
  ends : pages_end (sections_of m) ≡ length file
  ends =
      omega (arith, length-file m valid, length-memory m valid, set_count-append (dumped_bits m) (clear_bits m), set_count-clear (clear_count m))

  pub opens : AreReadBack → opened file ≡ Ok (sections_of m)
  unfolding opened
  opens back =
      let first : header_in (take 4096 file) ≡ Ok header = ap header_in (begins) ∙ back header readable in
      enough file 4096 (by_header file (header_in (take 4096 file))) (omega (arith, length-file m valid))
      ∙ ap (by_header file) first
      ∙ enough file (places_of header).pages (by_ranges file header (bad_range file header)) (omega (arith, ends))
      ∙ ap (by_ranges file header) none_is_bad
      ∙ ap (λ (pages : List ℕ). by_pages file (record { header = header; pages = pages; bits = bits_in file header })) pages_back
      ∙ ap (λ (bits : List Bool). by_pages file (record { header = header; pages = pages_of m.avail; bits = bits })) bits_back
      ∙ enough file (pages_end (sections_of m)) (Ok (sections_of m)) (omega (arith, ends))
