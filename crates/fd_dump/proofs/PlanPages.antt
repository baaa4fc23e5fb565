-- The pages of a plan's minidump, section by section.
use Rattle.std.proofs.Common.{◌≡◌, ◌∙◌, ℕ, ◌+◌, ◌-◌, ◌*◌, ◌/◌, ◌%◌, ◌^◌, ◌<◌, ◌≤◌, List, length, slice_range, ap, sym, arith}
use Rattle.fd_bitmap.specs.Bits.{set_count}
use Rattle.fd_image.specs.Image.{MachineImage, IsValid}
use Rattle.fd_mini.specs.Page as mini
use Rattle.fd_mini.specs.Places.{places_of}
use Rattle.fd_mini.specs.declared.places.Places.{Places}
use Rattle.fd_mini.proofs.Layouts.{length-page_of}
use Rattle.fd_dump.specs.Dumped.{dumped_bits}
use Rattle.fd_dump.specs.Minidump.{filled, avail_bytes, bitmap_bytes, directory_of, memory_of, mini_header_of, minidump_of}
use Rattle.fd_dump.specs.Plan.{Planned, IsPlanOf}
use Rattle.fd_dump.specs.Sections.{nth_page, page_span, directory_page_of}
use Rattle.fd_dump.proofs.Directory.{whole_of, directory-page}
use Rattle.fd_dump.proofs.Limits.{small, pages_few, window_divided}
use Rattle.fd_dump.proofs.SectionPlaces as sections
use Rattle.fd_dump.proofs.Sizes as sizes
use Rattle.fd_dump.proofs.Stands.{Stands, range-Stands, range_within-Stands}

-- a page of a part of the minidump
page-in : (part whole : List ℕ) (start at : ℕ) → Stands part start whole → start % 4096 ≡ 0 → length part % 4096 ≡ 0 → at % 4096 ≡ 0 → start ≤ at → at < start + length part
    → slice_range whole at (at + 4096) ≡ nth_page part ((at - start) / 4096)
page-in part whole start at stands start_whole part_whole aligned from to =
    let place : at ≡ start + 4096 * ((at - start) / 4096) = omega arith in
    ap (λ n. slice_range whole n (n + 4096)) place ∙ range_within-Stands part whole start (4096 * ((at - start) / 4096)) 4096 stands (omega arith)

-- how long the whole is, by what the plan has
pub length-planned : (plan : Planned) (m : MachineImage) → IsPlanOf plan m → length (minidump_of m) ≡ (places_of plan.header).pages + 4096 * set_count plan.bits
length-planned plan m is_plan =
    sections.length-file m is_plan.valid
    ∙ ap (λ n. (places_of (mini_header_of m)).pages + n) (sizes.length-memory m is_plan.valid)
    ∙ ap (λ header. (places_of header).pages + 4096 * set_count (dumped_bits m)) (sym is_plan.header)
    ∙ ap (λ bits. (places_of plan.header).pages + 4096 * set_count bits) (sym is_plan.bits)

-- the pages before the dumped ones are few
pub front_low : (m : MachineImage) → IsValid m → (places_of (mini_header_of m)).pages ≤ 2 ^ 35
front_low m valid =
    let limits = small m valid in
    let window = window_divided m valid in
    omega (arith, pages_few m valid, sizes.length-avail m.avail, sizes.length-bits m)

module _ (plan : Planned) (m : MachineImage) (p : Places) (at : ℕ) (is_plan : IsPlanOf plan m) (are_places : p ≡ places_of plan.header) (aligned : at % 4096 ≡ 0) where
  here : p ≡ places_of (mini_header_of m)
  here = are_places ∙ ap places_of is_plan.header

  pub header-page : at < p.msgbuf → slice_range (minidump_of m) at (at + 4096) ≡ mini.page_of (mini_header_of m)
  header-page to =
      let start : at ≡ 0 = omega (arith, ap (λ p. p.msgbuf) here) in
      ap (λ n. slice_range (minidump_of m) n (n + 4096)) start
      ∙ range-Stands (mini.page_of (mini_header_of m)) (minidump_of m) 0 4096 (sections.Stands-header m is_plan.valid) (length-page_of (mini_header_of m))

  pub msgbuf-page : p.msgbuf ≤ at → at < p.avail → slice_range (minidump_of m) at (at + 4096) ≡ nth_page (filled m.texts.msgbuf) ((at - p.msgbuf) / 4096)
  msgbuf-page from to =
      page-in (filled m.texts.msgbuf) (minidump_of m) (places_of (mini_header_of m)).msgbuf at (sections.Stands-msgbuf m is_plan.valid) (omega arith)
      (omega (arith, sizes.length-filled m.texts.msgbuf)) aligned (omega (arith, ap (λ p. p.msgbuf) here))
      (omega (arith, ap (λ p. p.avail) here, sizes.length-filled m.texts.msgbuf))
      ∙ ap (λ p. nth_page (filled m.texts.msgbuf) ((at - p.msgbuf) / 4096)) (sym here)

  pub ranges-page : p.avail ≤ at → at < p.bitmap → slice_range (minidump_of m) at (at + 4096) ≡ nth_page (filled (avail_bytes m.avail)) ((at - p.avail) / 4096)
  ranges-page from to =
      page-in (filled (avail_bytes m.avail)) (minidump_of m) (places_of (mini_header_of m)).avail at (sections.Stands-ranges m is_plan.valid) (omega arith)
      (omega (arith, sections.length-ranges m is_plan.valid)) aligned (omega (arith, ap (λ p. p.avail) here))
      (omega (arith, ap (λ p. p.bitmap) here, sections.length-ranges m is_plan.valid))
      ∙ ap (λ p. nth_page (filled (avail_bytes m.avail)) ((at - p.avail) / 4096)) (sym here)

  pub ranges-within : p.avail ≤ at → at < p.bitmap → 4096 * ((at - p.avail) / 4096) < 16 * length m.avail + 16
  ranges-within from to = omega (arith, ap (λ p. p.avail) here, ap (λ p. p.bitmap) here, sizes.length-avail m.avail)

  pub bitmap-page : p.bitmap ≤ at → at < p.directory → slice_range (minidump_of m) at (at + 4096) ≡ nth_page (filled (bitmap_bytes (dumped_bits m))) ((at - p.bitmap) / 4096)
  bitmap-page from to =
      page-in (filled (bitmap_bytes (dumped_bits m))) (minidump_of m) (places_of (mini_header_of m)).bitmap at (sections.Stands-bitmap m is_plan.valid) (omega arith)
      (omega (arith, sections.length-bitmap m is_plan.valid)) aligned (omega (arith, ap (λ p. p.bitmap) here))
      (omega (arith, ap (λ p. p.directory) here, sections.length-bitmap m is_plan.valid))
      ∙ ap (λ p. nth_page (filled (bitmap_bytes (dumped_bits m))) ((at - p.bitmap) / 4096)) (sym here)

  pub directory-within : p.directory ≤ at → at < p.pages → (at - p.directory) / 4096 < m.windows.kernspan / page_span m.arch
  directory-within from to = omega (arith, ap (λ p. p.directory) here, ap (λ p. p.pages) here, whole_of m.arch m.windows (window_divided m is_plan.valid))

  pub directory_page-of : p.directory ≤ at → at < p.pages → slice_range (minidump_of m) at (at + 4096) ≡ directory_page_of m ((at - p.directory) / 4096)
  directory_page-of from to =
      page-in (directory_of m) (minidump_of m) (places_of (mini_header_of m)).directory at (sections.Stands-directory m is_plan.valid) (omega arith)
      (omega (arith, sections.length-directory_of m is_plan.valid, whole_of m.arch m.windows (window_divided m is_plan.valid))) aligned (omega (arith, ap (λ p. p.directory) here))
      (omega (arith, ap (λ p. p.pages) here, sections.length-directory_of m is_plan.valid, whole_of m.arch m.windows (window_divided m is_plan.valid)))
      ∙ ap (λ p. nth_page (directory_of m) ((at - p.directory) / 4096)) (sym here)
      ∙ directory-page m ((at - p.directory) / 4096) is_plan.valid (directory-within from to)

-- a range of the dumped pages is a range of the minidump
pub memory-range : (plan : Planned) (m : MachineImage) (at rank count : ℕ) → IsPlanOf plan m → at ≡ (places_of plan.header).pages + 4096 * rank → 4096 * rank + count ≤ length (memory_of m)
    → slice_range (minidump_of m) at (at + count) ≡ slice_range (memory_of m) (4096 * rank) (4096 * rank + count)
memory-range plan m at rank count is_plan is within =
    let place : at ≡ (places_of (mini_header_of m)).pages + 4096 * rank = is ∙ ap (λ header. (places_of header).pages + 4096 * rank) is_plan.header in
    ap (λ n. slice_range (minidump_of m) n (n + count)) place
    ∙ range_within-Stands (memory_of m) (minidump_of m) (places_of (mini_header_of m)).pages (4096 * rank) count (sections.Stands-memory m is_plan.valid) within
