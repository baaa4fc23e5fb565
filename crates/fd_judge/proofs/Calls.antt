-- The law of cuts for the cuts of a call: those of what it added to the journal, over the partition as it found it.
use Rattle.std.proofs.Common.{◌≡◌, ℕ, ◌-◌, ◌≤◌, Bool, IsTrue, List, [], length, Option, Some, refl, sym, ◌∙◌, subst, arith}
use Rattle.fd_site.specs.Contents.{Contents, Adds, Told, part_of}
use Rattle.fd_site.specs.Cut.{part_cut}
use Rattle.fd_site.proofs.Cuts.{after_of_told, cut_of_told}
use Rattle.fd_site.proofs.Told.{with_entries-nil}
use Rattle.fd_kdh.specs.declared.header.Header.{Header}
use Rattle.fd_part.specs.Partition.{is_good, need_of, IsClear}
use Rattle.fd_part.specs.Dump.{IsBegunDump, IsDumpJournal}
use Rattle.fd_part.specs.Marked.{IsBegunMarked, IsMarkedJournal}
use Rattle.fd_judge.specs.Crash.{IsHeaderFor, IsOldOrRefusedOrThis, IsRefused, IsRefusedOrThis, IsThisDump}
use Rattle.fd_judge.proofs.CutLaw.{refused_or_this, this_after}
use Rattle.fd_judge.proofs.MarkedLaw.{each_cut, found_marked}
use Rattle.fd_judge.proofs.Verdicts.{refused}

-- what is told of a partition of a size, before and after a call
module _ (old new : Option Contents) (was now : Contents) (told_was : old ≡ Some was) (told_now : new ≡ Some now) where
  module _ (body : List ℕ) (h : Header) (size block : ℕ) (sized : length (part_of was) ≡ size) (good : IsTrue (is_good size block))
      (room : need_of block (length body) ≤ size) (header : IsHeaderFor body block h) where
    good_was : IsTrue (is_good (length (part_of was)) block)
    good_was = subst (λ n. IsTrue (is_good n block)) (sym sized) good

    -- each cut of a call that began a dump, if the partition was clear
    pub each_cut_of_call : Adds (IsBegunDump body h size block) old new → IsClear (part_of was) block → (k : ℕ) (these : List Bool) → length was.journal ≤ k
        → IsRefusedOrThis body h block (part_cut now.base_part now.journal k these)
    each_cut_of_call adds clear k these le =
        let begun : IsBegunDump body h (length (part_of was)) block adds.0 = subst (λ n. IsBegunDump body h n block adds.0) (sym sized) adds.1 in
        let cut = refused_or_this (part_of was) body h block adds.0 (k - length was.journal) these good_was (omega (arith, sized, room)) clear header begun in
        subst (IsRefusedOrThis body h block) (sym (cut_of_told old new was now adds.0 k these told_was told_now adds.2 le)) cut

    -- after a call that wrote a whole dump, judging finds it
    pub this_after_call : Adds (IsDumpJournal body h size block) old new → IsThisDump body h block (part_of now)
    this_after_call adds =
        let dump : IsDumpJournal body h (length (part_of was)) block adds.0 = subst (λ n. IsDumpJournal body h n block adds.0) (sym sized) adds.1 in
        let this = this_after (part_of was) body h block adds.0 good_was (omega (arith, sized, room)) header dump in
        subst (IsThisDump body h block) (sym (after_of_told old new was now adds.0 told_was told_now adds.2)) this

    -- each cut of a call that began one that marks first
    pub each_cut_of_marked_call : Adds (λ es. Told old (λ c. IsBegunMarked (part_of c) body h block es)) old new → (k : ℕ) (these : List Bool) → length was.journal ≤ k
        → IsOldOrRefusedOrThis (part_of was) body h block (part_cut now.base_part now.journal k these)
    each_cut_of_marked_call adds k these le =
        let cut = each_cut (part_of was) body h block good_was (omega (arith, sized, room)) header adds.0 (k - length was.journal) these (adds.1 was told_was) in
        subst (IsOldOrRefusedOrThis (part_of was) body h block) (sym (cut_of_told old new was now adds.0 k these told_was told_now adds.2 le)) cut

    -- after a call that wrote such a dump whole, judging finds it
    pub marked_after_call : Adds (λ es. Told old (λ c. IsMarkedJournal (part_of c) body h block es)) old new → IsThisDump body h block (part_of now)
    marked_after_call adds =
        let this = found_marked (part_of was) body h block good_was (omega (arith, sized, room)) header adds.0 (adds.1 was told_was) in
        subst (IsThisDump body h block) (sym (after_of_told old new was now adds.0 told_was told_now adds.2)) this

  -- each cut of a call that added nothing, if the partition was clear
  pub each_cut_of_nothing : (block : ℕ) → new ≡ old → IsClear (part_of was) block → (k : ℕ) (these : List Bool) → length was.journal ≤ k
      → IsRefused block (part_cut now.base_part now.journal k these)
  each_cut_of_nothing block same clear k these le =
      subst (IsRefused block) (sym (cut_of_told old new was now [] k these told_was told_now (same ∙ with_entries-nil old) le))
      (refused (part_of was) (part_of was) block clear refl)
