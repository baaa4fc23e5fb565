-- What a call of `dump` leaves on the partition, by its row.
use Rattle.std.proofs.Common.{◌≡◌, ◌⊎◌, inl, inr, ℕ, ◌<◌, ◌^◌, Bool, true, false, IsTrue, List, [], ◌++◌, length, Option, Some, refl, sym, ◌∙◌, ap, subst, arith}
use Rattle.std.specs.Bool.{OnTrue}
use Rattle.fd_bytes.specs.Arch.{name_of, header_version_of, arch_of_header}
use Rattle.fd_bytes.specs.declared.arch.Arch.{Arch}
use Rattle.fd_bytes.specs.declared.arch.Arch.TheVariants.{Amd64, Arm64, Riscv}
use Rattle.fd_site.specs.Contents.{Contents, Told, part_of, with_entries}
use Rattle.fd_site.specs.Cut.{EachCutOf}
use Rattle.fd_site.specs.Seen.{Seen}
use Rattle.fd_site.proofs.Cuts.{cut_of_told}
use Rattle.fd_site.proofs.Told.{with_entries-nil}
use Rattle.fd_image.specs.Image.{MachineImage, IsValid}
use Rattle.fd_dump.specs.Header.{header_of}
use Rattle.fd_dump.specs.Minidump.{minidump_of}
use Rattle.fd_dump.proofs.Sizes.{minidump_pages, minidump_some}
use Rattle.fd_dump.proofs.Headers.{header_within_fields}
use Rattle.fd_part.specs.Partition.{is_good}
use Rattle.fd_part.proofs.Blocks.{IsBlock-good}
use Rattle.fd_judge.specs.Crash.{IsHeaderFor, IsOldOrRefusedOrThis, IsRefusedOrThis, IsThisDump}
use Rattle.fd_judge.proofs.Calls.{each_cut_of_call, each_cut_of_marked_call, each_cut_of_nothing, marked_after_call, this_after_call}
use Rattle.fd_cli.specs.Crash.{IsCutOfDump, IsCutOfMarkedDump, IsFound, IsRefusedOrNamed}
use Rattle.fd_cli.specs.Ending.{Answered, Call, Ends}
use Rattle.fd_cli.specs.Laws.{EachDumpIsSafe, EachMarkedDumpIsSafe, IsSized, IsSound, JudgeFindsDump, Left, after}
use Rattle.fd_cli.specs.Row.{Added, Outside, Row, Work}
use Rattle.fd_cli.specs.Rows.Common.{OnGood}
use Rattle.fd_cli.specs.Rows.Dump.{MayHaveBegun, Names, dump_row}
use Rattle.fd_cli.specs.Rows.Judge.{Judges, verdict_answer}
use Rattle.fd_cli.specs.declared.answer.Answer.TheVariants.{Dump}
use Rattle.fd_words.specs.declared.source.Source.{Source}
use Rattle.fd_cli.proofs.Dumps.{image_of}
use Rattle.fd_cli.proofs.Outcomes.{IsWhole, whole_of_zero}

-- a header's name and version are those of its architecture alone
arch_is_named : (arch : Arch) → arch_of_header (name_of arch) (header_version_of arch) ≡ Some arch
arch_is_named Amd64 = refl
arch_is_named Arm64 = refl
arch_is_named Riscv = refl

-- a block of a good partition has a size of 32 bits
block_fits : (size block : ℕ) → IsTrue (is_good size block) → block < 2 ^ 32
block_fits size block good = omega (arith, (IsBlock-good size block good).high)

-- the header of an image's dump is one for its minidump
header_for : (m : MachineImage) (size block : ℕ) → IsValid m → IsTrue (is_good size block) → IsHeaderFor (minidump_of m) block (header_of m block)
header_for m size block valid good = record {
  within = header_within_fields m block valid (block_fits size block good);
  arch = m.arch;
  architecture = arch_is_named m.arch;
  blocksize = refl;
  compression = refl;
  dumpkeysize = refl;
  dumplength = refl;
  dumpextent = refl;
  pages = minidump_pages m valid;
  some = minidump_some m valid;
}

-- what a call left, however it ended
pub left_of : (row : Row) (old new : Outside) (status : ℕ) → IsSound row → Call row old new status → Left row old.reach.site new.reach.site.told
left_of row old new status sound call = by_ending call.ends
  where
    by_ending : Ends row old new status → Left row old.reach.site new.reach.site.told
    by_ending (inl done) = record { added = done.work.added; leaves = sound.whole old.reach.site done.work done.does; told = done.grew.site }
    by_ending (inr (inl done)) = record { added = done.work.added; leaves = sound.whole old.reach.site done.work done.does; told = done.grew.site }
    by_ending (inr (inr (inl done))) = record { added = done.added; leaves = done.leaves; told = done.grew.site }
    by_ending (inr (inr (inr done))) =
        record { added = done.added; leaves = sound.starved old.reach.site done.added done.starves; told = done.grew.site }

named_or_refused : (c : Contents) (source : Source) (block : ℕ) (part : List ℕ) (m : MachineImage) → Names c source m
    → IsRefusedOrThis (minidump_of m) (header_of m block) block part → IsRefusedOrNamed c source block part
named_or_refused c source block part m names (inl refused) = inl refused
named_or_refused c source block part m names (inr this) = inr (m, names, this)

-- each cut of what `dump` leaves is refused, or holds the dump
each_cut : (found : Seen) (source : Source) (added : Added) (new : Option Contents) → IsSized found → MayHaveBegun false source found added
    → new ≡ with_entries found.told added.entries → EachCutOf found.told new (IsCutOfDump source found.block)
each_cut found source added new sized (inl none) told was now told_was told_now k these disk le cut clear =
    let same : new ≡ found.told = told ∙ ap (λ a. with_entries found.told a.entries) none ∙ sym (with_entries-nil found.told) in
    subst (IsRefusedOrNamed was source found.block) (sym cut.partition)
    (inl (each_cut_of_nothing found.told new was now told_was told_now found.block same clear k these le))
each_cut found source added new sized (inr (m, given, begun)) told was now told_was told_now k these disk le cut clear =
    let image = image_of found source m given was told_was in
    subst (IsRefusedOrNamed was source found.block) (sym cut.partition)
    (named_or_refused was source found.block _ m image.names
    (each_cut_of_call found.told new was now told_was told_now (minidump_of m) (header_of m found.block) found.size found.block (sized was told_was)
    begun.good begun.room (header_for m found.size found.block image.valid begun.good) (added.entries, begun.begun, told) clear k these le))

pub each_dump_is_safe : EachDumpIsSafe
each_dump_is_safe source found new sized left = each_cut found source left.added new sized left.leaves left.told

-- the same of a dump that marks first, over any partition
old_or_named : (c : Contents) (source : Source) (block : ℕ) (part : List ℕ) (m : MachineImage) → Names c source m
    → IsOldOrRefusedOrThis (part_of c) (minidump_of m) (header_of m block) block part → (part ≡ part_of c) ⊎ IsRefusedOrNamed c source block part
old_or_named c source block part m names (inl old) = inl old
old_or_named c source block part m names (inr other) = inr (named_or_refused c source block part m names other)

each_marked_cut : (found : Seen) (source : Source) (added : Added) (new : Option Contents) → IsSized found → MayHaveBegun true source found added
    → new ≡ with_entries found.told added.entries → EachCutOf found.told new (IsCutOfMarkedDump source found.block)
each_marked_cut found source added new sized (inl none) told was now told_was told_now k these disk le cut =
    let same : new ≡ found.told = told ∙ ap (λ a. with_entries found.told a.entries) none ∙ sym (with_entries-nil found.told) in
    inl (cut.partition ∙ cut_of_told found.told new was now [] k these told_was told_now (same ∙ with_entries-nil found.told) le)
each_marked_cut found source added new sized (inr (m, given, begun)) told was now told_was told_now k these disk le cut =
    let image = image_of found source m given was told_was in
    subst (λ (part : List ℕ). (part ≡ part_of was) ⊎ IsRefusedOrNamed was source found.block part) (sym cut.partition)
    (old_or_named was source found.block _ m image.names
    (each_cut_of_marked_call found.told new was now told_was told_now (minidump_of m) (header_of m found.block) found.size found.block (sized was told_was)
    begun.good begun.room (header_for m found.size found.block image.valid begun.good) (added.entries, begun.begun, told) k these le))

pub each_marked_dump_is_safe : EachMarkedDumpIsSafe
each_marked_dump_is_safe source found new sized left = each_marked_cut found source left.added new sized left.leaves left.told

-- a whole dump is found
pub whole_is_found : (mark : Bool) (found : Seen) (source : Source) (w : Work) (new : Option Contents) → IsSized found → (whole : IsWhole mark source found w)
    → new ≡ with_entries found.told w.added.entries → (was now : Contents) → found.told ≡ Some was → new ≡ Some now
    → IsThisDump (minidump_of whole.image) (header_of whole.image found.block) found.block (part_of now)
whole_is_found false found source w new sized whole told was now told_was told_now =
    let image = image_of found source whole.image whole.given was told_was in
    let header = header_for whole.image found.size found.block image.valid whole.good in
    this_after_call found.told new was now told_was told_now (minidump_of whole.image) (header_of whole.image found.block) found.size found.block
    (sized was told_was) whole.good whole.room header (w.added.entries, whole.dumps.is_dump, told)
whole_is_found true found source w new sized whole told was now told_was told_now =
    let image = image_of found source whole.image whole.given was told_was in
    let header = header_for whole.image found.size found.block image.valid whole.good in
    marked_after_call found.told new was now told_was told_now (minidump_of whole.image) (header_of whole.image found.block) found.size found.block
    (sized was told_was) whole.good whole.room header (w.added.entries, whole.dumps.is_dump, told)

found_after : (mark : Bool) (found : Seen) (source : Source) (w : Work) (new : Option Contents) → IsSized found → IsWhole mark source found w
    → new ≡ with_entries found.told w.added.entries → IsFound found.told new source found.block
found_after mark found source w new sized whole told was now told_was told_now =
    let image = image_of found source whole.image whole.given was told_was in
    (whole.image, image.names, whole_is_found mark found source w new sized whole told was now told_was told_now)

not_74 : (status : ℕ) → status ≡ 74 → status ≡ 0 → ⊥
not_74 status is zero = omega (arith, is, zero)

not_71 : (status : ℕ) → status ≡ 71 → status ≡ 0 → ⊥
not_71 status is zero = omega (arith, is, zero)

-- a call that ended with 0 was answered
pub answered_zero : (row : Row) (old new : Outside) (status : ℕ) → Ends row old new status → status ≡ 0 → Answered row old new status
answered_zero row old new status (inl done) zero = done
answered_zero row old new status (inr (inl done)) zero = absurd (not_74 status done.status_is zero)
answered_zero row old new status (inr (inr (inl done))) zero = absurd (not_74 status done.status_is zero)
answered_zero row old new status (inr (inr (inr done))) zero = absurd (not_71 status done.status_is zero)

pub found_of_call : (mark : Bool) (old new : Outside) (source : Source) (status : ℕ) → IsSized old.reach.site → Call (dump_row mark source) old new status
    → status ≡ 0
    → IsFound old.reach.site.told new.reach.site.told source old.reach.site.block
found_of_call mark old new source status sized call zero =
    let done = answered_zero (dump_row mark source) old new status call.ends zero in
    found_after mark old.reach.site source done.work new.reach.site.told sized
    (whole_of_zero mark source old.reach.site done.work done.does (sym done.status_is ∙ zero)) done.grew.site

of_true : (b : Bool) (P : Type 0) → b ≡ true → OnTrue b P → P
of_true true P is p = p
of_true false P is p = absurd (cc)

-- after a whole dump, a judge over what it left answers its length
judged_after : (mark : Bool) (found : Seen) (source : Source) (dump judge : Work) → IsSized found → IsWhole mark source found dump
    → OnGood (after found dump) (Judges false (after found dump)) judge
    → Told found.told (λ c. (m : MachineImage) × Names c source m × (judge.answer ≡ Dump (length (minidump_of m))))
judged_after mark found source dump judge sized whole judges c told =
    let now : Contents = record c { journal = c.journal ++ dump.added.entries } in
    let told_now : with_entries found.told dump.added.entries ≡ Some now = ap (λ t. with_entries t dump.added.entries) told in
    let this = found_after mark found source dump (with_entries found.told dump.added.entries) sized whole refl c now told told_now in
    let judged = of_true (is_good found.size found.block) (Judges false (after found dump) judge) whole.good judges.0 in
    (this.0, this.1, ap (λ w. w.answer) judged.2 ∙ ap verdict_answer (judged.1 now told_now ∙ this.2.verdict))

pub judge_finds_dump : JudgeFindsDump
judge_finds_dump mark source found dump judge sized does zero judges =
    judged_after mark found source dump judge sized (whole_of_zero mark source found dump does zero) judges
