-- How a drill ends over a clear partition: by the number of sectors, and then with the image's minidump.
use Rattle.std.proofs.Common.{◌≡◌, inl, inr, ℕ, ◌<◌, ◌≤◌, false, IsTrue, List, ◌++◌, length, Some, Result, sym, ◌∙◌, ap, subst, append_assoc}
use Rattle.fd_site.specs.Contents.{Contents, part_of}
use Rattle.fd_site.specs.Journal.{Entry}
use Rattle.fd_site.specs.Seen.{Seen}
use Rattle.fd_image.specs.Image.{IsValid}
use Rattle.fd_kdh.specs.Header.{dump_header}
use Rattle.fd_kdh.specs.declared.header.Header.{Header}
use Rattle.fd_dump.specs.Header.{header_of}
use Rattle.fd_dump.specs.Minidump.{minidump_of}
use Rattle.fd_part.specs.Outcome.{IsStoppedDump}
use Rattle.fd_part.specs.Partition.{IsClear, is_good, need_of}
use Rattle.fd_judge.specs.Crash.{IsRefused, IsThisDump}
use Rattle.fd_judge.specs.Verdict.{judged}
use Rattle.fd_judge.specs.declared.verdict.Verdict.TheVariants as verdict
use Rattle.fd_judge.specs.declared.why.Why.{Why}
use Rattle.fd_info.specs.Saved as info
use Rattle.fd_save.specs.Laws.{then_adds}
use Rattle.fd_save.specs.Saving.{clearing, device_name, parity_of}
use Rattle.fd_mini.specs.Kernel.{KernelBytes}
use Rattle.fd_vmcore.specs.declared.open.OpenFault.{OpenFault}
use Rattle.fd_way.specs.Drill as drill
use Rattle.fd_way.specs.Drill.{Does, Drill, IsDumped, EndsSaved, Outcome, Refused, Saved}
use Rattle.fd_way.specs.Laws.{EndsOverClear, IsDecided, sectors_needed}
use Rattle.fd_way.proofs.Decided.{stop_decides}
use Rattle.fd_way.proofs.LastSectors.{below_or_from}
use Rattle.fd_way.proofs.OverClear.{IsOfImage, ReadingLaw, part_behind, saved_of_image, told_after}
use Rattle.fd_way.proofs.Ways.{SavedLaw}

found_and_refused : (part : List ℕ) (block : ℕ) (h : Header) (at : ℕ) (sector : List ℕ) (why : Why) → judged part block false ≡ verdict.Dump h at sector
    → judged part block false ≡ verdict.Refused why → ⊥
found_and_refused part block h at sector why found refused = let both : verdict.Dump h at sector ≡ verdict.Refused why = sym found ∙ refused in cc

module _ (reading : ReadingLaw) (saving : SavedLaw) (d : Drill) (found : Seen) (c : Contents) (told : found.told ≡ Some c) (sized : length (part_of c) ≡ found.size)
    (good : IsTrue (is_good found.size found.block)) (valid : IsValid d.image) (clear : IsClear (part_of c) found.block) where
  -- the partition that the first sectors give is decided by their number
  decided : (dump : List Entry) → IsDumped d found dump → IsDecided d.image found.block d.stop (part_of (then_adds c dump))
  decided dump dumped =
      let size : found.size ≡ length (part_of c) = sym sized in
      subst (IsDecided d.image found.block d.stop) (sym (part_behind reading d found c told sized valid good clear dump))
      (stop_decides (part_of c) d.image found.block d.stop dump valid (subst (λ n. IsTrue (is_good n found.block)) size good)
      (subst (λ n. need_of found.block (length (minidump_of d.image)) ≤ n) size dumped.room) clear
      (subst (λ n. IsStoppedDump (minidump_of d.image) (header_of d.image found.block) n found.block d.stop dump) size dumped.first))

  behind : (dump : List Entry) → (drill.after found dump).told ≡ Some (then_adds c dump)
  behind dump = told_after reading d found c told sized valid good clear dump

  refused_ends : (why : Why) (added : List Entry) → drill.EndsRefused d found why added → d.stop < sectors_needed d.image found.block
  refused_ends why added does = elim (below_or_from d.stop (sectors_needed d.image found.block)) [
    | inl few ↦ few
    | inr enough ↦
        let this : IsThisDump (minidump_of d.image) (header_of d.image found.block) found.block (part_of (then_adds c added)) = (decided added does.dumped).found enough in
        absurd (found_and_refused (part_of (then_adds c added)) found.block _ _ _ why this.verdict (does.judged (then_adds c added) (behind added)))
  ]

  enough_of : (number len : ℕ) (given : Result KernelBytes OpenFault) (added : List Entry) → EndsSaved d found number len given added → sectors_needed d.image found.block ≤ d.stop
  enough_of number len given added s = elim (below_or_from d.stop (sectors_needed d.image found.block)) [
    | inl few ↦
        let refused : IsRefused found.block (part_of (then_adds c s.dump)) = (decided s.dump s.dumped).refused few in
        absurd (found_and_refused (part_of (then_adds c s.dump)) found.block s.saved.header s.saved.at s.saved.sector refused.0
        (s.is_savecore.finds (then_adds c s.dump) (behind s.dump)) refused.1)
    | inr enough ↦ enough
  ]

  files_of : (number len : ℕ) (given : Result KernelBytes OpenFault) (added : List Entry) (s : EndsSaved d found number len given added) → IsOfImage d found.block number len given s.saved s.body
      → info.IsSaved (then_adds c added) number (minidump_of d.image) (header_of d.image found.block) device_name (parity_of (dump_header (header_of d.image found.block)))
  files_of number len given added s of =
      let core = s.is_savecore in
      let size : ℕ = found.size in
      let there = saving (then_adds c s.dump) s.body s.saved.header (parity_of s.saved.sector) s.saved.number size found.block s.saved.sector core.saving core.is_save in
      let entries : (c.journal ++ s.dump) ++ (core.saving ++ clearing size found.block s.saved.sector) ≡ c.journal ++ added =
      append_assoc c.journal s.dump (core.saving ++ clearing size found.block s.saved.sector)
      ∙ ap (λ (l : List Entry). c.journal ++ l) (ap (λ (l : List Entry). s.dump ++ l) (sym core.is) ∙ sym s.is) in
      subst (λ (x : Contents). info.IsSaved x number (minidump_of d.image) (header_of d.image found.block) device_name (parity_of (dump_header (header_of d.image found.block))))
      (λ i. record c { journal = entries i })
      (subst (λ n. info.IsSaved (then_adds (then_adds c s.dump) (core.saving ++ clearing size found.block s.saved.sector)) n (minidump_of d.image) (header_of d.image found.block) device_name
      (parity_of (dump_header (header_of d.image found.block)))) (sym s.number_is)
      (subst (λ (sector : List ℕ). info.IsSaved (then_adds (then_adds c s.dump) (core.saving ++ clearing size found.block s.saved.sector)) s.saved.number (minidump_of d.image)
      (header_of d.image found.block) device_name (parity_of sector)) of.sector_is
      (subst (λ (h : Header). info.IsSaved (then_adds (then_adds c s.dump) (core.saving ++ clearing size found.block s.saved.sector)) s.saved.number (minidump_of d.image) h device_name
      (parity_of s.saved.sector)) of.header_is
      (subst (λ (b : List ℕ). info.IsSaved (then_adds (then_adds c s.dump) (core.saving ++ clearing size found.block s.saved.sector)) s.saved.number b s.saved.header device_name
      (parity_of s.saved.sector)) of.body_is there))))

  pub ends_over_clear : (outcome : Outcome) (added : List Entry) → Does d found outcome added → EndsOverClear d found.block c outcome added
  ends_over_clear (Refused why) added does = refused_ends why added does
  ends_over_clear (Saved number len given) added does =
      let of = saved_of_image reading d found c told sized valid good clear number len given added does in
      record {
        enough = enough_of number len given added does;
        length_is = of.len_is;
        files = files_of number len given added does of;
        read = of.given_is;
      }
