-- What a drill comes to over a partition that was clear: what is saved there is the image's minidump.
use Rattle.std.proofs.Common.{◌≡◌, inl, inr, ℕ, ◌+◌, ◌<◌, ◌≤◌, ◌^◌, IsTrue, List, [], ◌∷◌, length, slice_range, Some, Result, Ok, Err, refl, sym, ◌∙◌, ap, subst, arith}
use Rattle.fd_bytes.specs.Arch.{name_of, header_version_of, arch_of_header}
use Rattle.fd_bytes.specs.declared.arch.Arch.{Arch}
use Rattle.fd_bytes.specs.declared.arch.Arch.TheVariants.{Amd64, Arm64, Riscv}
use Rattle.fd_site.specs.Contents.{Contents, Told, part_of, with_entries}
use Rattle.fd_site.specs.Cut.{part_cut}
use Rattle.fd_site.specs.Journal.{Entry, part_after, part_step}
use Rattle.fd_site.specs.Seen.{Seen, Watched}
use Rattle.fd_site.proofs.Written.{part_after-append}
use Rattle.fd_image.specs.Image.{IsValid, MachineImage}
use Rattle.fd_kdh.specs.Header.{dump_header}
use Rattle.fd_kdh.specs.declared.header.Header.{Header}
use Rattle.fd_dump.specs.Header.{header_of}
use Rattle.fd_dump.specs.KernelRead.{kernel_read}
use Rattle.fd_dump.specs.Minidump.{minidump_of}
use Rattle.fd_dump.proofs.Headers.{header_within_fields}
use Rattle.fd_dump.proofs.Sizes.{minidump_pages, minidump_some}
use Rattle.fd_part.specs.Dump.{IsBegunDump}
use Rattle.fd_part.specs.Partition.{IsClear, dump_place, is_good, need_of}
use Rattle.fd_part.proofs.Blocks.{IsBlock-good}
use Rattle.fd_judge.specs.Crash.{IsHeaderFor, IsRefusedOrThis}
use Rattle.fd_judge.specs.declared.verdict.Verdict.TheVariants as verdict
use Rattle.fd_judge.specs.declared.why.Why.{Why}
use Rattle.fd_judge.proofs.CutLaw.{refused_or_this}
use Rattle.fd_save.specs.Laws.{then_adds}
use Rattle.fd_save.specs.declared.saved.Saved as save
use Rattle.fd_mini.specs.Kernel.{KernelBytes}
use Rattle.fd_vmcore.specs.declared.open.OpenFault.{OpenFault}
use Rattle.fd_kvm.specs.Answer.{answer_of}
use Rattle.fd_way.specs.Drill.{Answers, Does, Drill, Drills, IsDumped, EndsSaved, Outcome, Refused, Saved, after, drill_answer}
use Rattle.fd_way.specs.declared.way_fault.Drilled.{Drilled}
use Rattle.fd_way.specs.declared.way_fault.WayFault.{WayFault}
use Rattle.fd_way.specs.declared.way_fault.WayFault.TheVariants as way

-- that each read of an image's minidump gives what the image gives
abbrev pub ReadingLaw : Type 0
ReadingLaw = (m : MachineImage) (va count : ℕ) → IsValid m → answer_of (minidump_of m) va count ≡ Ok (kernel_read m va count)

-- a header's name and version are those of its architecture alone
arch_is_named : (arch : Arch) → arch_of_header (name_of arch) (header_version_of arch) ≡ Some arch
arch_is_named Amd64 = refl
arch_is_named Arm64 = refl
arch_is_named Riscv = refl

block_fits : (size block : ℕ) → IsTrue (is_good size block) → block < 2 ^ 32
block_fits size block good = omega (arith, (IsBlock-good size block good).high)

-- the header of an image's dump is one for its minidump
pub header_for : (m : MachineImage) (size block : ℕ) → IsValid m → IsTrue (is_good size block) → IsHeaderFor (minidump_of m) block (header_of m block)
header_for m size block valid good = record {
  within = header_within_fields m block valid (block_fits size block good);
  arch = m.arch;
  architecture = arch_is_named m.arch;
  blocksize = refl;
  compression = refl;
  dumpkeysize = refl;
  dumplength = refl;
  dumpextent = refl;
  pages = minidump_pages m valid;
  some = minidump_some m valid;
}

-- a cut behind all entries is none
cut_behind : (part : List ℕ) (es : List Entry) → part_cut part es (length es) [] ≡ part_after part es
cut_behind part [] = refl
cut_behind part (e ∷ es) = cut_behind (part_step part e) es

-- what was begun over a clear partition is refused, or it is the image's dump
pub begun_or_this : (part : List ℕ) (m : MachineImage) (size block : ℕ) (journal : List Entry) → length part ≡ size → IsValid m → IsTrue (is_good size block)
    → need_of block (length (minidump_of m)) ≤ size → IsClear part block → IsBegunDump (minidump_of m) (header_of m block) size block journal
    → IsRefusedOrThis (minidump_of m) (header_of m block) block (part_after part journal)
begun_or_this part m size block journal sized valid good room clear begun =
    subst (IsRefusedOrThis (minidump_of m) (header_of m block) block) (cut_behind part journal)
    (refused_or_this part (minidump_of m) (header_of m block) block journal (length journal) []
    (subst (λ n. IsTrue (is_good n block)) (sym sized) good) (omega (arith, sized, room)) clear (header_for m size block valid good)
    (subst (λ n. IsBegunDump (minidump_of m) (header_of m block) n block journal) (sym sized) begun))

-- a dump that was found is the one that stands there
record IsSame (saved : save.Saved) (h : Header) (at : ℕ) (sector : List ℕ) : Type 0 where
  header : saved.header ≡ h
  at_is : saved.at ≡ at
  sector_is : saved.sector ≡ sector

same_dump : (saved : save.Saved) (h : Header) (at : ℕ) (sector : List ℕ) → verdict.Dump saved.header saved.at saved.sector ≡ verdict.Dump h at sector → IsSame saved h at sector
same_dump saved h at sector is = record { header = cc; at_is = cc; sector_is = cc }

never : {R : Type 0} (h : Header) (at : ℕ) (sector : List ℕ) (why : Why) → verdict.Dump h at sector ≡ verdict.Refused why → R
never h at sector why is = absurd (cc)

-- what was saved is the image's dump, and what was read of it the image's bytes
pub record IsOfImage (d : Drill) (block number len : ℕ) (given : Result KernelBytes OpenFault) (saved : save.Saved) (body : List ℕ) : Type 0 where
  pub body_is : body ≡ minidump_of d.image
  pub header_is : saved.header ≡ header_of d.image block
  pub sector_is : saved.sector ≡ dump_header (header_of d.image block)
  pub len_is : len ≡ length (minidump_of d.image)
  pub given_is : given ≡ Ok (kernel_read d.image d.va d.count)

module _ (law : ReadingLaw) (d : Drill) (found : Seen) (c : Contents) (told : found.told ≡ Some c) (sized : length (part_of c) ≡ found.size) (valid : IsValid d.image)
    (good : IsTrue (is_good found.size found.block)) (clear : IsClear (part_of c) found.block) where
  -- the partition after the entries of a dump
  pub told_after : (dump : List Entry) → (after found dump).told ≡ Some (then_adds c dump)
  told_after dump = ap (λ t. with_entries t dump) told

  pub part_behind : (dump : List Entry) → part_of (then_adds c dump) ≡ part_after (part_of c) dump
  part_behind dump = part_after-append c.base_part c.journal dump

  pub refused_or_dumped : (dump : List Entry) → IsDumped d found dump
      → IsRefusedOrThis (minidump_of d.image) (header_of d.image found.block) found.block (part_of (then_adds c dump))
  refused_or_dumped dump dumped =
      subst (IsRefusedOrThis (minidump_of d.image) (header_of d.image found.block) found.block) (sym (part_behind dump))
      (begun_or_this (part_of c) d.image found.size found.block dump sized valid good dumped.room clear dumped.first.begun)

  pub saved_of_image : (number len : ℕ) (given : Result KernelBytes OpenFault) (added : List Entry) (s : EndsSaved d found number len given added)
      → IsOfImage d found.block number len given s.saved s.body
  saved_of_image number len given added s = elim (refused_or_dumped s.dump s.dumped) [
    | inl refused ↦
        never s.saved.header s.saved.at s.saved.sector refused.0 (sym (s.is_savecore.finds (then_adds c s.dump) (told_after s.dump)) ∙ refused.1)
    | inr this ↦
        let part : List ℕ = part_of (then_adds c s.dump) in
        let same = same_dump s.saved (header_of d.image found.block) (dump_place (length part) found.block (length (minidump_of d.image))) (dump_header (header_of d.image found.block))
        (sym (s.is_savecore.finds (then_adds c s.dump) (told_after s.dump)) ∙ this.verdict) in
        let body : s.body ≡ minidump_of d.image =
        s.is_savecore.bytes (then_adds c s.dump) (told_after s.dump)
        ∙ (λ i. slice_range part (same.at_is i) (same.at_is i + (same.header i).dumplength)) ∙ this.bytes in
        record {
          body_is = body;
          header_is = same.header;
          sector_is = same.sector_is;
          len_is = s.len_is ∙ ap (λ (h : Header). h.dumplength) same.header;
          given_is = s.given_is c told ∙ ap (λ (b : List ℕ). answer_of b d.va d.count) body ∙ law d.image d.va d.count valid;
        }
  ]

-- a file that is refused was saved from a partition that wasn't clear
pub not_clear : (law : ReadingLaw) (d : Drill) (old new : Seen) (was now : Watched ℕ) (result : Result Drilled WayFault) (fault : OpenFault) → IsValid d.image
    → IsTrue (is_good old.size old.block) → Told old.told (λ c. length (part_of c) ≡ old.size) → Drills d old new was now result → result ≡ Err (way.Unread fault)
    → Told old.told (λ c. IsClear (part_of c) old.block → ⊥)
not_clear law d old new was now result fault valid good sized drills is c told clear = by_answer (subst (Drills d old new was now) is drills)
  where
    by_outcome : (outcome : Outcome) (added : List Entry) → Does d old outcome added → Err (way.Unread fault) ≡ drill_answer outcome → ⊥
    by_outcome (Refused why) added does same = cc
    by_outcome (Saved number len (Ok given)) added does same = cc
    by_outcome (Saved number len (Err other)) added does same =
        let given_is : Err other ≡ Ok (kernel_read d.image d.va d.count) = (saved_of_image law d old c told (sized c told) valid good clear number len (Err other) added does).given_is in
        cc

    by_answer : Answers d old new was now (Err (way.Unread fault)) → ⊥
    by_answer a = by_outcome a.outcome a.added a.does a.is
