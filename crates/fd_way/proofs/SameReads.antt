-- What a read of kernel addresses gives of a valid image's minidump is what it gives of the image.
--
-- Both sides answer address by address, and in three steps: the file is opened, the kernel address is translated to a
-- physical one, and the byte there is looked up. Each step of the file's side is shown to be the image's.
--
-- Opening (`Opening`). The file is six sections joined, and `SectionPlaces` of `fd_dump` says that each stands where the
-- header page says; `Stands` is the word for a part of a list at its place. From the sections the reader gets back the
-- header (by the law that header pages are read back, within the limits that `Limits` draws from the rules of a valid image),
-- the ranges (`AvailBack`) and the bits (`BitmapBits`), with clear bits behind those of the pages.
--
-- Lookup (`Located`). Each physical address either has a page that is dumped, or not. If so, its bit is set, and its 4096
-- bytes stand behind the pages of the set bits below, as a run of one page that the dump's plan has. If not, its bit is
-- clear, or it has none since it isn't available.
--
-- Translation (`Translated`). In the direct map both sides compute the same. In the kernel window the directory has the
-- entry of the address's unit (`Units`): the entry of the image's tables, or a unit of the larger leaf that maps the
-- address, or 0. By cases on what entries the tables have (`TableEntries`) both translate alike. On amd64 the entry may
-- name a last-level table, whose page is looked up in the file as above; its words are the image's (`ImageWords`).
use Rattle.std.proofs.Common.{◌≡◌, ℕ, zero, suc, ◌+◌, ◌-◌, ◌*◌, ◌/◌, ◌%◌, ◌^◌, Bool, true, false, ◌&&◌, nat_le, nat_lt, List, [], Some, Result, Ok, Err, refl, sym, ◌∙◌, ap, arith, inl, inr}
use Rattle.std.specs.Prelude.{if◌then◌else◌}
use Rattle.std.proofs.lemmas.Bool.{cases_Bool}
use Rattle.std.proofs.lemmas.Bool.Decides.{nat_tests}
use Rattle.fd_image.specs.Image.{MachineImage, IsValid}
use Rattle.fd_image.specs.Physical.{page_of}
use Rattle.fd_image.specs.declared.parts.Windows.{Windows}
use Rattle.fd_image.proofs.Valid.{no_address_in_both}
use Rattle.fd_pte.specs.Entry.{bytes_under}
use Rattle.fd_mini.specs.Kernel.{byte_before, bytes_from}
use Rattle.fd_mini.specs.declared.address_fault.AddressFault.{AddressFault}
use Rattle.fd_mini.specs.declared.address_fault.AddressFault.TheVariants.{NotDumped, PastTop, Outside}
use Rattle.fd_vmcore.specs.Sections.{Sections}
use Rattle.fd_kvm.specs.Answer as kvm
use Rattle.fd_kvm.specs.Answer.{by_offset, byte_in, by_sections, answer_of}
use Rattle.fd_kvm.specs.Place as vmcore
use Rattle.fd_kvm.specs.Place.{window_is_first, by_directory, by_direct_map, placed}
use Rattle.fd_dump.specs.KernelRead as dump
use Rattle.fd_dump.specs.KernelRead.{by_page, byte_of, kernel_read}
use Rattle.fd_dump.specs.Minidump.{entry_count, mini_header_of, minidump_of}
use Rattle.fd_dump.specs.Translation.{is_in_kernel_window, is_in_direct_map, by_tables, translated}
use Rattle.fd_way.proofs.Limits.{windows_of}
use Rattle.fd_way.proofs.Located.{IsDumpedAt, IsNotDumped, located}
use Rattle.fd_way.proofs.Opening.{AreReadBack, sections_of, opens}
use Rattle.fd_way.proofs.Translated.{by_directory_is}
use Rattle.fd_way.proofs.Units.{entry_height, same_window}
use Rattle.fd_way.proofs.Pieces.{get_or-Stands}

-- in which order the windows are looked at makes no difference, since they are apart
either_order : {X : Type 0} (first window direct : Bool) (x x' y other : X) → (window ≡ true → direct ≡ false) → (window ≡ true → x ≡ x')
    → (if first && window then x else if direct then y else if window then x else other) ≡ (if direct then y else if window then x' else other)
either_order true true direct x x' y other apart same = same refl ∙ sym (ap (λ (b : Bool). if b then y else x') (apart refl))
either_order false true direct x x' y other apart same = ap (λ z. if direct then y else z) (same refl)
either_order true false direct x x' y other apart same = refl
either_order false false direct x x' y other apart same = refl

module _ (m : MachineImage) (valid : IsValid m) where
  abbrev file : List ℕ
  file = minidump_of m

  abbrev sections : Sections
  sections = sections_of m

  abbrev w : Windows
  w = m.windows

  -- an address in the kernel window isn't in the direct map, and the directory has an entry for it
  apart : (va : ℕ) → is_in_kernel_window w va ≡ true → is_in_direct_map w va ≡ false
  apart va window =
      elim (cases_Bool (is_in_direct_map w va)) [
        | inl direct ↦
            absurd (no_address_in_both m valid va (grind (arith, nat_tests, window)) (grind (arith, nat_tests, window)) (grind (arith, nat_tests, direct)) (grind (arith, nat_tests, direct)))
        | inr outside ↦ outside
      ]

  window_is : (va : ℕ) → vmcore.is_in_kernel_window (mini_header_of m) va ≡ is_in_kernel_window w va
  window_is va =
      ap (λ h. nat_le w.kernbase va && nat_lt ((va - w.kernbase) / bytes_under h) (8 * entry_count m / 8)) (entry_height m)
      ∙ same_window m.arch w va (windows_of m valid)

  directory_is : (va : ℕ) → is_in_kernel_window w va ≡ true → by_directory file sections va ≡ by_tables m va
  directory_is va window =
      let test = same_window m.arch w va (windows_of m valid) ∙ window in
      by_directory_is m valid va (grind (arith, nat_tests, window)) (grind (arith, nat_tests, test))

  same_place : (va : ℕ) → placed file sections va ≡ translated m va
  unfolding placed translated
  same_place va =
      ap (λ (window : Bool).
      if window_is_first (mini_header_of m) && window then by_directory file sections va
      else if is_in_direct_map w va then by_direct_map (mini_header_of m) va
      else if window then by_directory file sections va
      else Err (Outside va))
      (window_is va)
      ∙ either_order (window_is_first (mini_header_of m)) (is_in_kernel_window w va) (is_in_direct_map w va) (by_directory file sections va) (by_tables m va)
      (by_direct_map (mini_header_of m) va) (Err (Outside va)) (apart va) (directory_is va)

  -- the byte of a page that stands in the file, and of one that isn't dumped
  same_dumped : (va pa : ℕ) → IsDumpedAt m valid pa → kvm.by_physical file sections va (Ok pa) ≡ dump.by_physical m va (Ok pa)
  same_dumped va pa at =
      ap (by_offset file va pa) at.offset
      ∙ ap Ok (get_or-Stands at.page file at.place (pa % 4096) at.stands (omega (arith, at.whole)))
      ∙ sym (ap (λ (dumped : Bool). if dumped then by_page va pa (page_of m pa) else Err (NotDumped va)) at.dumped ∙ ap (by_page va pa) at.is)

  same_not_dumped : (va pa : ℕ) → IsNotDumped m valid pa → kvm.by_physical file sections va (Ok pa) ≡ dump.by_physical m va (Ok pa)
  same_not_dumped va pa at =
      ap (by_offset file va pa) at.offset
      ∙ sym (ap (λ (dumped : Bool). if dumped then by_page va pa (page_of m pa) else Err (NotDumped va)) at.not_dumped)

  same_physical : (va : ℕ) (place : Result ℕ AddressFault) → kvm.by_physical file sections va place ≡ dump.by_physical m va place
  same_physical va (Err fault) = refl
  same_physical va (Ok pa) = elim (located m valid pa) [ inl at ↦ same_dumped va pa at | inr at ↦ same_not_dumped va pa at ]

  same_byte : (va : ℕ) → byte_in file sections va ≡ byte_of m va
  same_byte va = ap (kvm.by_physical file sections va) (same_place va) ∙ same_physical va (translated m va)

  same_bytes : (va count : ℕ) → bytes_from (byte_in file sections) va count ≡ bytes_from (byte_of m) va count
  unfolding bytes_from
  same_bytes va zero = refl
  same_bytes va (suc count) =
      ap (λ byte. byte_before byte (bytes_from (byte_in file sections) (va + 1) count)) (same_byte va)
      ∙ ap (byte_before (byte_of m va)) (same_bytes (va + 1) count)

  pub same_read : AreReadBack → (va count : ℕ) → answer_of file va count ≡ Ok (kernel_read m va count)
  same_read back va count =
      ap (by_sections file va count) (opens m valid back)
      ∙ ap (λ bytes. Ok (if nat_lt (2 ^ 64) (va + count) then record { bytes = []; fault = Some PastTop } else bytes)) (same_bytes va count)
