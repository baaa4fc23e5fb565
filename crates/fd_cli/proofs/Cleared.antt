-- A dump that was saved and marked is refused.
use Rattle.std.proofs.Common.{◌≡◌, inl, inr, ℕ, ◌+◌, ◌-◌, ◌≤◌, Bool, false, IsTrue, List, ◌++◌, length, take, drop, Option}
use Rattle.std.proofs.Common.{Some, None, Result, Ok, Err, refl, sym, ◌∙◌, ap, subst, arith, length-append, length-drop}
use Rattle.std.proofs.lemmas.List.{length-take-le}
use Rattle.std.proofs.lemmas.Slice.{between-put_mid}
use Rattle.fd_site.specs.Contents.{part_of, with_entries}
use Rattle.fd_site.specs.Journal.{Entry, all_kept, part_after, written}
use Rattle.fd_site.proofs.FileJournals.{AllOnFile-whole}
use Rattle.fd_site.proofs.OnFile.{part_after-on_file}
use Rattle.fd_site.proofs.Written.{length-written, part_after-append, written-all_kept}
use Rattle.fd_kdh.specs.Header.{cleared_magic, decoded}
use Rattle.fd_kdh.specs.declared.header.Header.{Header}
use Rattle.fd_kdh.specs.declared.header.HeaderFault.{HeaderFault}
use Rattle.fd_kdh.specs.declared.header.HeaderFault.TheVariants as fault
use Rattle.fd_info.specs.Info.{info_text}
use Rattle.fd_info.specs.Bounds.{bounds_text}
use Rattle.fd_info.specs.Name.{bounds_name, info_name, vmcore_name}
use Rattle.fd_part.specs.Partition.{is_good, sector_at, trailing_place, trailing_sector}
use Rattle.fd_judge.specs.Verdict.{by_fields, by_header, by_leading, first_of, judged, reasons, taken}
use Rattle.fd_judge.specs.declared.verdict.Verdict.TheVariants as verdict
use Rattle.fd_judge.specs.declared.why.Why.{Why}
use Rattle.fd_judge.specs.declared.why.Why.TheVariants.{Cleared}
use Rattle.fd_save.specs.Laws.{then_adds}
use Rattle.fd_save.specs.Saving.{IsSaveJournal, cleared_sector, clearing, device_name, parity_of}
use Rattle.fd_save.proofs.Places.{trailing_inside}
use Rattle.fd_cli.specs.Laws.{ClearedIsRefused, after}
use Rattle.fd_cli.proofs.Outcomes.{refused_not_zero}
use Rattle.fd_cli.proofs.Saves.{judged_refused, refused_or_saved}

-- the sector of a dump that judging finds is the trailing block's first
of_leading : (h h' : Header) (at at' : ℕ) (s s' : List ℕ) (place : Option ℕ) → by_leading h at s place ≡ verdict.Dump h' at' s' → s ≡ s'
of_leading h h' at at' s s' None is = cc
of_leading h h' at at' s s' (Some place) is = absurd (cc)

of_fields : (part : List ℕ) (block : ℕ) (s seen : List ℕ) (h h' : Header) (at' : ℕ) (s' : List ℕ) (why : Option Why) → by_fields part block s seen h why ≡ verdict.Dump h' at' s'
    → s ≡ s'
of_fields part block s seen h h' at' s' (Some why) is = absurd (cc)
of_fields part block s seen h h' at' s' None is = of_leading h h' _ at' s s' _ is

of_header : (part : List ℕ) (block : ℕ) (s seen : List ℕ) (read : Result Header HeaderFault) (h' : Header) (at' : ℕ) (s' : List ℕ)
    → by_header part block s seen read ≡ verdict.Dump h' at' s' → s ≡ s'
of_header part block s seen (Err e) h' at' s' is = absurd (cc)
of_header part block s seen (Ok h) h' at' s' is = of_fields part block s seen h h' at' s' (first_of (reasons h (length part) block)) is

sector_found : (part : List ℕ) (block : ℕ) (force : Bool) (h : Header) (at : ℕ) (sector : List ℕ) → judged part block force ≡ verdict.Dump h at sector
    → trailing_sector part block ≡ sector
sector_found part block force h at sector is =
    of_header part block (trailing_sector part block) (taken force (trailing_sector part block)) (decoded (taken force (trailing_sector part block))) h at sector is

-- a header with the cleared magic is read as one
cleared_is_read : (sector : List ℕ) → decoded (cleared_sector sector) ≡ Err fault.Cleared
unfolding decoded
cleared_is_read sector = refl

cleared_is_judged : (part : List ℕ) (block : ℕ) (sector : List ℕ) → trailing_sector part block ≡ cleared_sector sector → judged part block false ≡ verdict.Refused Cleared
cleared_is_judged part block sector is =
    ap (λ (s : List ℕ). by_header part block s s (decoded s)) is
    ∙ ap (by_header part block (cleared_sector sector) (cleared_sector sector)) (cleared_is_read sector)

-- what a save adds leaves the partition as it is
save_leaves_part : (part body : List ℕ) (h : Header) (parity number : ℕ) (journal : List Entry) → IsSaveJournal body h parity number journal → part_after part journal ≡ part
save_leaves_part part body h parity number journal s =
    ap (part_after part) s.is
    ∙ part_after-append part s.vmcore (s.info ++ s.bounds)
    ∙ ap (λ (p : List ℕ). part_after p (s.info ++ s.bounds)) (part_after-on_file (vmcore_name number) part s.vmcore (AllOnFile-whole (vmcore_name number) body s.vmcore s.is_vmcore))
    ∙ part_after-append part s.info s.bounds
    ∙ ap (λ (p : List ℕ). part_after p s.bounds)
    (part_after-on_file (info_name number) part s.info (AllOnFile-whole (info_name number) (info_text h device_name parity number) s.info s.is_info))
    ∙ part_after-on_file bounds_name part s.bounds (AllOnFile-whole bounds_name (bounds_text (number + 1)) s.bounds s.is_bounds)

-- a whole sector that was written is there
sector_written : (part : List ℕ) (at : ℕ) (bytes : List ℕ) → length bytes ≡ 512 → at + 512 ≤ length part → sector_at (written part at bytes (all_kept bytes)) at ≡ bytes
sector_written part at bytes size inside =
    ap (λ (p : List ℕ). sector_at p at) (written-all_kept part at bytes (omega (arith, size)))
    ∙ between-put_mid at (length bytes) part bytes (at + 512) (omega (arith, inside)) (omega (arith, size))

length-cleared : (sector : List ℕ) → length sector ≡ 512 → length (cleared_sector sector) ≡ 512
length-cleared sector size = omega (arith, size, length-append cleared_magic (drop 20 sector), length-drop 20 sector)

length-sector : (part : List ℕ) (at : ℕ) → at + 512 ≤ length part → length (sector_at part at) ≡ 512
length-sector part at inside =
    let size : at + 512 - at ≡ 512 = omega arith in
    ap (λ n. length (take n (drop at part))) size ∙ length-take-le 512 (drop at part) (omega (arith, inside, length-drop at part))

-- so a partition whose dump was marked is refused
marked_is_refused : (part : List ℕ) (block : ℕ) (sector : List ℕ) → IsTrue (is_good (length part) block) → trailing_sector part block ≡ sector
    → judged (part_after part (clearing (length part) block sector)) block false ≡ verdict.Refused Cleared
marked_is_refused part block sector good there =
    let at : ℕ = trailing_place (length part) block in
    let inside : at + 512 ≤ length part = trailing_inside (length part) block good in
    let mark : List ℕ = cleared_sector sector in
    let size : length mark ≡ 512 = length-cleared sector (ap length (sym there) ∙ length-sector part at inside) in
    let now : List ℕ = written part at mark (all_kept mark) in
    let length_is : length now ≡ length part = length-written part at mark (all_kept mark) (omega (arith, size)) (omega (arith, size, inside)) in
    cleared_is_judged now block sector (ap (λ n. sector_at now (trailing_place n block)) length_is ∙ sector_written part at mark size inside)

-- and so is a `savecore` behind one that marked
pub each_cleared_dump_is_refused : ClearedIsRefused
each_cleared_dump_is_refused options again keep found save next sized does zero unforced refuses c told = elim (refused_or_saved options false found save does) [
  | inl (refusal, refused) ↦ absurd (refused_not_zero refusal save refused zero)
  | inr (good, saves) ↦
      let part : List ℕ = part_of c in
      let size : length part ≡ found.size = sized c told in
      let sector : List ℕ = saves.saved.sector in
      let saving : List Entry = saves.entries.saving in
      let there : trailing_sector part found.block ≡ sector =
      sector_found part found.block options.force saves.saved.header saves.saved.at sector (saves.to_save.finds c told) in
      let part_is : part_of (then_adds c save.added.entries) ≡ part_after part (clearing (length part) found.block sector) =
      part_after-append c.base_part c.journal save.added.entries
      ∙ ap (part_after part) (saves.entries.is ∙ (λ i. saving ++ clearing (sym size i) found.block sector))
      ∙ part_after-append part saving (clearing (length part) found.block sector)
      ∙ ap (λ (p : List ℕ). part_after p (clearing (length part) found.block sector))
      (save_leaves_part part saves.body saves.saved.header (parity_of sector) saves.saved.number saving saves.entries.is_save) in
      judged_refused again keep (after found save) next (then_adds c save.added.entries) Cleared (ap (λ t. with_entries t save.added.entries) told)
      good
      (ap (judged (part_of (then_adds c save.added.entries)) found.block) unforced
      ∙ ap (λ (p : List ℕ). judged p found.block false) part_is
      ∙ marked_is_refused part found.block sector (subst (λ n. IsTrue (is_good n found.block)) (sym size) good) there)
      refuses
]
