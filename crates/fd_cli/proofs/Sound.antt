-- What holds of every command's row.
use Rattle.std.proofs.Common.{◌≡◌, ◌⊎◌, inl, inr, ℕ, Bool, true, false, List, [], Option, Some, None, Result, Ok, Err, refl, sym, ◌∙◌, ap, subst}
use Rattle.fd_bytes.specs.declared.arch.Arch.{Arch}
use Rattle.fd_site.specs.Begun.{IsBegun}
use Rattle.fd_site.specs.Journal.{Entry}
use Rattle.fd_site.specs.Seen.{Seen}
use Rattle.fd_site.proofs.Begun.{IsBegun-whole}
use Rattle.fd_dump.specs.Header.{header_of}
use Rattle.fd_dump.specs.Minidump.{minidump_of}
use Rattle.fd_kdh.specs.declared.header.Header.{Header}
use Rattle.fd_part.proofs.WholeDump.{IsBegunDump-whole}
use Rattle.fd_cli.specs.Ending.{Ends, answer_status}
use Rattle.fd_cli.specs.Laws.{AddsEntriesAlone, IsLocal, IsOneStep, IsSound, OnlyDoneOrFailedAdds}
use Rattle.fd_save.specs.Saving.{clearing}
use Rattle.fd_save.specs.declared.saved.Options.{Options}
use Rattle.fd_cli.specs.Row.{Added, Grew, Work, nothing, only}
use Rattle.fd_cli.specs.Rows.{row_of}
use Rattle.fd_cli.specs.Rows.Drill.{Drills, DrillsSource, drill_of, drill_row}
use Rattle.fd_image.specs.Image.{MachineImage}
use Rattle.fd_imgfile.specs.declared.fault.ImageFault.{ImageFault}
use Rattle.fd_imgfile.specs.declared.fault.ImageFault.TheVariants as image
use Rattle.fd_part.specs.Partition.{is_good}
use Rattle.fd_cli.proofs.Good.{either}
use Rattle.fd_cli.specs.Rows.Dump.{OnImage, HasBegun, IsBegunOver, IsDumpOver, MayHaveBegun, dump_row}
use Rattle.fd_cli.specs.Rows.Clear.{MayHaveBegunToClear, clear_row}
use Rattle.fd_cli.specs.Rows.Image.{image_row}
use Rattle.fd_cli.specs.Rows.Save.{MayHaveBegunToSave, save_row}
use Rattle.fd_words.specs.declared.command.Command.{Command}
use Rattle.fd_words.specs.declared.command.Command.TheVariants as command
use Rattle.fd_words.specs.declared.source.Source.{Source}
use Rattle.fd_cli.proofs.Saves.{refused_or_cleared, refused_or_saved}
use Rattle.fd_cli.proofs.Outcomes.{IsWhole, judge_adds_nothing, refused_adds_nothing, refused_or_whole}

-- a command may end without a word
pub may_be_silent : (command : Option Command) (found : Seen) (added : Added) → (row_of command).Says found added []
may_be_silent None found added = refl
may_be_silent (Some (command.Image arch number file)) found added = refl
may_be_silent (Some (command.Judge force)) found added = refl
may_be_silent (Some (command.Clear force)) found added = refl
may_be_silent (Some (command.Save options keep)) found added = refl
may_be_silent (Some (command.Dump mark source)) found added = refl
may_be_silent (Some (command.Netdump source server)) found added = refl
may_be_silent (Some (command.Netdumpd dumps)) found added = refl
may_be_silent (Some (command.Read name va count)) found added = refl
may_be_silent (Some (command.Pages name)) found added = inl refl
may_be_silent (Some (command.Drill source stop va count)) found added = inl refl

-- a whole dump was begun
begun_over : (mark : Bool) (found : Seen) (body : List ℕ) (h : Header) (journal : List Entry) → IsDumpOver mark found.told found.size found.block body h journal
    → IsBegunOver mark found.told found.size found.block body h journal
begun_over false found body h journal dump = IsBegunDump-whole body h found.size found.block journal dump
begun_over true found body h journal dump = λ c told. record { planned = journal; is_marked = dump c told; begun = IsBegun-whole journal }

begun : (mark : Bool) (source : Source) (found : Seen) (w : Work) (whole : IsWhole mark source found w) → HasBegun mark found.told found.size found.block whole.image w.added
begun mark source found w whole = record {
  good = whole.good;
  room = whole.room;
  begun = begun_over mark found (minidump_of whole.image) (header_of whole.image found.block) w.added.entries whole.dumps.is_dump;
  alone = whole.dumps.alone;
}

dump_leaves : (mark : Bool) (source : Source) (found : Seen) (w : Work) → (dump_row mark source).Does found w → MayHaveBegun mark source found w.added
dump_leaves mark source found w does = elim (refused_or_whole mark source found w does) [
  | inl refused ↦ inl (refused_adds_nothing refused.0 w refused.1)
  | inr whole ↦ inr (whole.image, whole.given, begun mark source found w whole)
]

-- a whole file was begun
image_leaves : (arch : Arch) (number : ℕ) (file : List ℕ) (found : Seen) (w : Work) → (image_row arch number file).Does found w
    → (image_row arch number file).Leaves found w.added
image_leaves arch number file found w writes = inr (record {
  begun = record { planned = w.added.entries; is_file = writes.is_file; begun = IsBegun-whole w.added.entries };
  alone = writes.alone;
})

-- clearing that was done was begun
clear_leaves : (force : Bool) (found : Seen) (w : Work) → (clear_row force).Does found w → MayHaveBegunToClear force found w.added
clear_leaves force found w does = elim (refused_or_cleared force found w does) [
  | inl refused ↦ inl (refused_adds_nothing refused.0 w refused.1)
  | inr cleared ↦ inr (record {
    good = cleared.0;
    header = cleared.1.header;
    at = cleared.1.at;
    sector = cleared.1.sector;
    finds = cleared.1.finds;
    begun = subst (λ (x : Work). IsBegun (clearing found.size found.block cleared.1.sector) x.added.entries) (sym cleared.1.is)
        (IsBegun-whole (clearing found.size found.block cleared.1.sector));
    alone = subst (λ (x : Work). x.added ≡ only x.added.entries) (sym cleared.1.is) refl;
  })
]

-- a dump that was saved was begun to save
save_leaves : (options : Options) (keep : Bool) (found : Seen) (w : Work) → (save_row options keep).Does found w
    → MayHaveBegunToSave options keep found w.added
save_leaves options keep found w does = elim (refused_or_saved options keep found w does) [
  | inl refused ↦ inl (refused_adds_nothing refused.0 w refused.1)
  | inr saved ↦ inr (record {
    good = saved.0;
    saved = saved.1.saved;
    body = saved.1.body;
    to_save = saved.1.to_save;
    planned = w.added.entries;
    is_planned = saved.1.entries;
    begun = IsBegun-whole w.added.entries;
    alone = saved.1.alone;
  })
]

no_bool : true ≡ false → ⊥
no_bool is = cc

-- each row that uses no network is sound
pub sound : (command : Option Command) → IsLocal (row_of command) → IsSound (row_of command)
sound None local = record { whole = λ found w does. ap (λ x. x.added) does; starved = λ found added is. is; silent = λ found added. refl }
sound (Some (command.Image arch number file)) local =
    record { whole = image_leaves arch number file; starved = λ found added is. inl is; silent = λ found added. refl }
sound (Some (command.Clear force)) local = record { whole = clear_leaves force; starved = λ found added is. inl is; silent = λ found added. refl }
sound (Some (command.Save options keep)) local = record { whole = save_leaves options keep; starved = λ found added is. inl is; silent = λ found added. refl }
sound (Some (command.Judge force)) local = record { whole = judge_adds_nothing force; starved = λ found added is. is; silent = λ found added. refl }
sound (Some (command.Dump mark source)) local = record { whole = dump_leaves mark source; starved = λ found added is. inl is; silent = λ found added. refl }
sound (Some (command.Netdump source server)) local = absurd (no_bool local.0)
sound (Some (command.Netdumpd dumps)) local = absurd (no_bool local.1)
sound (Some (command.Read name va count)) local =
    record { whole = λ found w does. ap (λ x. x.added) does.1; starved = λ found added is. is; silent = λ found added. refl }
sound (Some (command.Pages name)) local =
    record { whole = λ found w does. ap (λ x. x.added) does.1; starved = λ found added is. is; silent = λ found added. inl refl }
sound (Some (command.Drill source stop va count)) local = record {
  whole = λ found w does. inl (w, does, refl);
  starved = λ found added is. is;
  silent = λ found added. inl refl;
}

-- a command whose work adds something ends with 0
adds_with_zero : (command : Option Command) (found : Seen) (w : Work) → IsOneStep command → IsLocal (row_of command) →
    (row_of command).Does found w → (answer_status w.answer ≡ 0) ⊎ (w.added ≡ nothing)
adds_with_zero None found w one local does = inr (ap (λ x. x.added) does)
adds_with_zero (Some (command.Image arch number file)) found w one local does = inl (ap answer_status does.answer)
adds_with_zero (Some (command.Judge force)) found w one local does = inr (judge_adds_nothing force found w does)
adds_with_zero (Some (command.Clear force)) found w one local does = elim (refused_or_cleared force found w does) [
  | inl refused ↦ inr (refused_adds_nothing refused.0 w refused.1)
  | inr cleared ↦ inl (ap (λ x. answer_status x.answer) cleared.1.is)
]
adds_with_zero (Some (command.Save options keep)) found w one local does = elim (refused_or_saved options keep found w does) [
  | inl refused ↦ inr (refused_adds_nothing refused.0 w refused.1)
  | inr saved ↦ inl (ap answer_status saved.1.answer)
]
adds_with_zero (Some (command.Dump mark source)) found w one local does = elim (refused_or_whole mark source found w does) [
  | inl refused ↦ inr (refused_adds_nothing refused.0 w refused.1)
  | inr whole ↦ inl (ap answer_status whole.dumps.answer)
]
adds_with_zero (Some (command.Netdump source server)) found w one local does = absurd (no_bool local.0)
adds_with_zero (Some (command.Netdumpd dumps)) found w one local does = absurd (no_bool local.1)
adds_with_zero (Some (command.Read name va count)) found w one local does = inr (ap (λ x. x.added) does.1)
adds_with_zero (Some (command.Pages name)) found w one local does = inr (ap (λ x. x.added) does.1)
adds_with_zero (Some (command.Drill source stop va count)) found w one local does = absurd one

starves_with_nothing : (command : Option Command) (found : Seen) (added : Added) → IsOneStep command → IsLocal (row_of command) → (row_of command).Starves found added → added ≡ nothing
starves_with_nothing None found added one local is = is
starves_with_nothing (Some (command.Image arch number file)) found added one local is = is
starves_with_nothing (Some (command.Judge force)) found added one local is = is
starves_with_nothing (Some (command.Clear force)) found added one local is = is
starves_with_nothing (Some (command.Save options keep)) found added one local is = is
starves_with_nothing (Some (command.Dump mark source)) found added one local is = is
starves_with_nothing (Some (command.Netdump source server)) found added one local is = is
starves_with_nothing (Some (command.Netdumpd dumps)) found added one local is = absurd (no_bool local.1)
starves_with_nothing (Some (command.Read name va count)) found added one local is = is
starves_with_nothing (Some (command.Pages name)) found added one local is = is
starves_with_nothing (Some (command.Drill source stop va count)) found added one local is = absurd one

pub only_done_or_failed_adds : OnlyDoneOrFailedAdds
only_done_or_failed_adds command old new status one local call = by_ending call.ends
  where
    by_ending : Ends (row_of command) old new status → (status ≡ 0) ⊎ ((status ≡ 74) ⊎ Grew old.reach new.reach nothing)
    by_ending (inl done) = elim (adds_with_zero command old.reach.site done.work one local done.does) [
      | inl zero ↦ inl (done.status_is ∙ zero)
      | inr none ↦ inr (inr (subst (Grew old.reach new.reach) none done.grew))
    ]
    by_ending (inr (inl done)) = inr (inl done.status_is)
    by_ending (inr (inr (inl done))) = inr (inl done.status_is)
    by_ending (inr (inr (inr done))) =
        inr (inr (subst (Grew old.reach new.reach) (starves_with_nothing command old.reach.site done.added one local done.starves) done.grew))

-- nothing is no entries
none_alone : (added : Added) → added ≡ nothing → added ≡ only added.entries
none_alone added is = subst (λ (a : Added). a ≡ only a.entries) (sym is) refl

-- a drill's work adds entries alone
alone_on_image : (stop va count : ℕ) (found : Seen) (given : Result MachineImage ImageFault) (w : Work)
    → OnImage (λ m. Drills (drill_of stop va count m) found) given w → w.added ≡ only w.added.entries
alone_on_image stop va count found (Ok m) w drills = elim drills.1 [
  | inl short ↦ none_alone w.added (ap (λ x. x.added) short.refuses)
  | inr more ↦ elim more [ inl none ↦ none.alone | inr done ↦ done.alone ]
]
alone_on_image stop va count found (Err image.NoFile) w is = none_alone w.added (ap (λ x. x.added) is)
alone_on_image stop va count found (Err (image.NotImage place)) w is = none_alone w.added (ap (λ x. x.added) is)
alone_on_image stop va count found (Err (image.BadImage bad)) w is = none_alone w.added (ap (λ x. x.added) is)
alone_on_image stop va count found (Err image.SiteFault) w is = absurd is
alone_on_image stop va count found (Err image.NoMemory) w is = absurd is

drill_alone : (source : Source) (stop va count : ℕ) (found : Seen) (w : Work) → (drill_row source stop va count).Does found w → w.added ≡ only w.added.entries
drill_alone source stop va count found w does =
    either (is_good found.size found.block) (DrillsSource source stop va count found w) _ _ does (λ good d. alone_on_image stop va count found d.0 w d.2)
    (λ bad is. none_alone w.added (ap (λ x. x.added) is))

pub adds_entries_alone : AddsEntriesAlone
adds_entries_alone None found added local left = none_alone added left
adds_entries_alone (Some (command.Image arch number file)) found added local left = elim left [ inl none ↦ none_alone added none | inr begun ↦ begun.alone ]
adds_entries_alone (Some (command.Judge force)) found added local left = none_alone added left
adds_entries_alone (Some (command.Clear force)) found added local left = elim left [ inl none ↦ none_alone added none | inr begun ↦ begun.alone ]
adds_entries_alone (Some (command.Save options keep)) found added local left = elim left [ inl none ↦ none_alone added none | inr begun ↦ begun.alone ]
adds_entries_alone (Some (command.Dump mark source)) found added local left = elim left [ inl none ↦ none_alone added none | inr begun ↦ begun.2.alone ]
adds_entries_alone (Some (command.Netdump source server)) found added local left = absurd (no_bool local.0)
adds_entries_alone (Some (command.Netdumpd dumps)) found added local left = absurd (no_bool local.1)
adds_entries_alone (Some (command.Read name va count)) found added local left = none_alone added left
adds_entries_alone (Some (command.Pages name)) found added local left = none_alone added left
adds_entries_alone (Some (command.Drill source stop va count)) found added local left = elim left [
  | inl done ↦ subst (λ (a : Added). a ≡ only a.entries) done.2 (drill_alone source stop va count found done.0 done.1)
  | inr early ↦ elim early.1 [ inl none ↦ none_alone added none.0 | inr begun ↦ begun.2.alone ]
]
