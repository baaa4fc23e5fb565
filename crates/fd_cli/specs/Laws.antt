-- Laws over rows: what holds of every row, and what follows where calls come one after another.
use Rattle.std.specs.Prelude.{◌≡◌, ◌⊎◌, ℕ, ◌≤◌, Bool, true, false, List, [], length, Option, Some, None, Ok}
use Rattle.fd_site.specs.Contents.{Contents, Told, part_of, with_entries}
use Rattle.fd_site.specs.Cut.{Disk, EachCutOf, IsCut}
use Rattle.fd_site.specs.Seen.{Seen}
use Rattle.fd_site.specs.Trace.{LinkEvent}
use Rattle.fd_image.specs.Image.{IsValid, MachineImage}
use Rattle.fd_kdh.specs.Header.{dump_header}
use Rattle.fd_dump.specs.Header.{header_of}
use Rattle.fd_dump.specs.KernelRead.{kernel_read}
use Rattle.fd_dump.specs.Minidump.{minidump_of}
use Rattle.fd_netclient.specs.Trace.{IsClientRun}
use Rattle.fd_netserver.specs.Session.{Turn}
use Rattle.fd_part.specs.Partition.{IsClear}
use Rattle.fd_info.specs.Name.{vmcore_name}
use Rattle.fd_info.specs.Saved.{IsSaved}
use Rattle.fd_save.specs.Saving.{device_name, parity_of}
use Rattle.fd_save.specs.declared.saved.Options.{Options}
use Rattle.fd_judge.specs.declared.why.Why.TheVariants.{Cleared}
use Rattle.fd_kvm.specs.Answer.{answer_of}
use Rattle.fd_way.specs.ImageWalk.{image_walk}
use Rattle.fd_cli.specs.Crash.{IsCutOfDump, IsCutOfMarkedDump, IsCutOfSavecore, LeavesSavedFiles}
use Rattle.fd_cli.specs.Ending.{Call, answer_status}
use Rattle.fd_cli.specs.Row.{Added, Grew, Outside, Row, Work, nothing, only}
use Rattle.fd_cli.specs.Rows.{row_of}
use Rattle.fd_cli.specs.Rows.Dump.{IsGiven, Names, dump_row}
use Rattle.fd_cli.specs.Rows.Common.{Refuses}
use Rattle.fd_cli.specs.Delivered.{HasTurns, IsImageKept, IsKeptByCalls}
use Rattle.fd_cli.specs.Rows.Judge.{judge_row}
use Rattle.fd_cli.specs.Rows.Netdump.{netdump_row, sent_to, usual}
use Rattle.fd_cli.specs.Rows.Netdumpd.{netdumpd_row}
use Rattle.fd_cli.specs.Rows.Pages.{pages_answer, pages_row}
use Rattle.fd_cli.specs.Rows.Read.{bytes_answer, read_row}
use Rattle.fd_cli.specs.Rows.Save.{save_row}
use Rattle.fd_cli.specs.declared.answer.Answer.TheVariants.{Dump, Saved}
use Rattle.fd_words.specs.declared.command.Command.{Command}
use Rattle.fd_words.specs.declared.command.Command.TheVariants as command
use Rattle.fd_cli.specs.declared.refusal.Refusal.{Refusal}
use Rattle.fd_cli.specs.declared.refusal.Refusal.TheVariants.{Judged}
use Rattle.fd_words.specs.declared.source.Source.{Source}

-- whatever a row's work was, it left what the row may leave; and it may end without a word
pub record IsSound (row : Row) : Type 0 where
  pub whole : (found : Seen) (w : Work) → row.Does found w → row.Leaves found w.added
  pub starved : (found : Seen) (added : Added) → row.Starves found added → row.Leaves found added
  pub silent : (found : Seen) (added : Added) → row.Says found added []

-- the row of commands that use no network
abbrev pub IsLocal : Row → Type 0
IsLocal row = (row.blames.link ≡ false) × (row.blames.ports ≡ false)

-- a command whose work is one step, of which it then tells: each but a drill
abbrev pub IsOneStep : Option Command → Type 0
IsOneStep (Some (command.Drill source stop va count)) = ⊥
IsOneStep other = Unit {0}

-- what a row leaves over what was found, and the site then tells
pub record Left (row : Row) (found : Seen) (new : Option Contents) : Type 0 where
  pub added : Added
  pub leaves : row.Leaves found added
  pub told : new ≡ with_entries found.told added.entries

-- one row says all that another says, of one thing that was found
pub record Refines (found : Seen) (row other : Row) : Type 0 where
  pub does : (w : Work) → row.Does found w → other.Does found w
  pub leaves : (added : Added) → row.Leaves found added → other.Leaves found added
  pub starves : (added : Added) → row.Starves found added → other.Starves found added
  pub says : (added : Added) (text : List ℕ) → row.Says found added text → other.Says found added text
  pub blames : row.blames ≡ other.blames

-- a call of one step that uses no network, and ended with another status than 0 or 74, added nothing
abbrev pub OnlyDoneOrFailedAdds : Type 0
OnlyDoneOrFailedAdds =
    (command : Option Command) (old new : Outside) (status : ℕ) → IsOneStep command → IsLocal (row_of command) → Call (row_of command) old new status
    → (status ≡ 0) ⊎ ((status ≡ 74) ⊎ Grew old.reach new.reach nothing)

-- what a call finds that comes next
abbrev pub after : Seen → Work → Seen
after found w = record found { told = with_entries found.told w.added.entries }

-- the partition that is told has its size
abbrev pub IsSized : Seen → Type 0
IsSized found = Told found.told (λ c. length (part_of c) ≡ found.size)

-- after a `dump` that ended with 0, `savecore -C` answers the length of the image's minidump
abbrev pub JudgeFindsDump : Type 0
JudgeFindsDump =
    (mark : Bool) (source : Source) (found : Seen) (dump judge : Work) → IsSized found → (dump_row mark source).Does found dump → answer_status dump.answer ≡ 0
    → (judge_row false).Does (after found dump) judge
    → Told found.told (λ c. (m : MachineImage) × Names c source m × (judge.answer ≡ Dump (length (minidump_of m))))

-- wherever a machine stops in what `dump` left, over a partition that was clear: judging refuses it, or finds the image's dump
abbrev pub EachDumpIsSafe : Type 0
EachDumpIsSafe =
    (source : Source) (found : Seen) (new : Option Contents) → IsSized found → Left (dump_row false source) found new
    → EachCutOf found.told new (IsCutOfDump source found.block)

-- wherever a machine stops in what `dump -i` left, over any partition: it is as it was, or judging refuses it, or finds the
-- image's dump
abbrev pub EachMarkedDumpIsSafe : Type 0
EachMarkedDumpIsSafe =
    (source : Source) (found : Seen) (new : Option Contents) → IsSized found → Left (dump_row true source) found new
    → EachCutOf found.told new (IsCutOfMarkedDump source found.block)

-- `dump`, then a `savecore` that saves, then `read` of the saved file: the image's bytes, or its refusal
abbrev pub ReadsWhatWasDumped : Type 0
ReadsWhatWasDumped =
    (mark : Bool) (source : Source) (options : Options) (keep : Bool) (found : Seen) (dump save read : Work) (number len va count : ℕ)
    → options.force ≡ false → IsSized found → (dump_row mark source).Does found dump → answer_status dump.answer ≡ 0
    → (save_row options keep).Does (after found dump) save → save.answer ≡ Saved number len
    → (read_row (vmcore_name number) va count).Does (after (after found dump) save) read
    → Told found.told (λ c. (m : MachineImage) × Names c source m × (read.answer ≡ bytes_answer va (kernel_read m va count)))

-- `dump`, then a `savecore` that saves, then `pages` of the saved file: the image's pages, in the order of a walk
abbrev pub ListsWhatWasDumped : Type 0
ListsWhatWasDumped =
    (mark : Bool) (source : Source) (options : Options) (keep : Bool) (found : Seen) (dump save pages : Work) (number len : ℕ)
    → options.force ≡ false → IsSized found → (dump_row mark source).Does found dump → answer_status dump.answer ≡ 0
    → (save_row options keep).Does (after found dump) save → save.answer ≡ Saved number len
    → (pages_row (vmcore_name number)).Does (after (after found dump) save) pages
    → Told found.told (λ c. (m : MachineImage) × Names c source m × (pages.answer ≡ pages_answer (image_walk m)))

-- a site that is found as a machine left it that stopped: its partition has these bytes and sizes, its directory any files
pub record IsFoundAs (disk : Disk) (size block : ℕ) (found : Seen) : Type 0 where
  pub contents : Contents
  pub told : found.told ≡ Some contents
  pub part : part_of contents ≡ disk.part
  pub size_is : found.size ≡ size
  pub block_is : found.block ≡ block

-- `savecore` was refused, or it saved exactly the minidump of the image that the source named, and its info
pub record IsWhollySaved (c : Contents) (source : Source) (found : Seen) (w : Work) : Type 0 where
  pub image : MachineImage
  pub names : Names c source image
  pub number : ℕ
  pub answer : w.answer ≡ Saved number (length (minidump_of image))
  pub files : Told (with_entries found.told w.added.entries)
      (λ now. IsSaved now number (minidump_of image) (header_of image found.block) device_name (parity_of (dump_header (header_of image found.block))))

abbrev pub IsRefusedOrWhollySaved : Contents → Source → Seen → Work → Type 0
IsRefusedOrWhollySaved c source found w = ((refusal : Refusal) × Refuses refusal w) ⊎ IsWhollySaved c source found w

-- Wherever a machine stops in a `dump` over a clear partition, and whatever the call would have answered: a later `savecore`
-- without force that meets no fault is refused, or saves exactly the minidump of the image.
abbrev pub EachCutDumpIsSavedWhole : Type 0
EachCutDumpIsSavedWhole =
    (source : Source) (options : Options) (keep : Bool) (found later : Seen) (new : Option Contents) (was now : Contents) (save : Work)
    → options.force ≡ false → IsSized found → Left (dump_row false source) found new → found.told ≡ Some was → new ≡ Some now
    → IsClear (part_of was) found.block
    → (k : ℕ) (these : List Bool) (disk : Disk) → length was.journal ≤ k → IsCut now k these disk → IsFoundAs disk found.size found.block later
    → (save_row options keep).Does later save → IsRefusedOrWhollySaved was source later save

-- The same of `dump -i`, over any partition: it is as it was, or a later `savecore` is refused, or saves exactly the minidump.
abbrev pub EachCutMarkedDumpIsSavedWhole : Type 0
EachCutMarkedDumpIsSavedWhole =
    (source : Source) (options : Options) (keep : Bool) (found later : Seen) (new : Option Contents) (was now : Contents) (save : Work)
    → options.force ≡ false → IsSized found → Left (dump_row true source) found new → found.told ≡ Some was → new ≡ Some now
    → (k : ℕ) (these : List Bool) (disk : Disk) → length was.journal ≤ k → IsCut now k these disk → IsFoundAs disk found.size found.block later
    → (save_row options keep).Does later save → (disk.part ≡ part_of was) ⊎ IsRefusedOrWhollySaved was source later save

-- wherever a machine stops in what `savecore` left, the dump that judging found stands
abbrev pub EachSavecoreIsSafe : Type 0
EachSavecoreIsSafe =
    (options : Options) (keep : Bool) (found : Seen) (new : Option Contents) → IsSized found → Left (save_row options keep) found new
    → EachCutOf found.told new (IsCutOfSavecore options found.block)

-- without a maximum, what `savecore` left has no entry on a file of another saved dump
abbrev pub EachSavedFileIsLeft : Type 0
EachSavedFileIsLeft =
    (options : Options) (keep : Bool) (found : Seen) (new : Option Contents) → options.max ≡ None → IsSized found
    → Left (save_row options keep) found new → LeavesSavedFiles found.told new

-- a command that uses no network adds entries to the site's journal, and nothing else
abbrev pub AddsEntriesAlone : Type 0
AddsEntriesAlone =
    (command : Option Command) (found : Seen) (added : Added) → IsLocal (row_of command) → (row_of command).Leaves found added → added ≡ only added.entries

-- nothing was added, or a link was opened to a server, and had a client run of the image that a source names
abbrev pub MayHaveRun : Source → (server : ℕ) → Seen → Added → Type 0
MayHaveRun source server found added =
    (added ≡ nothing)
    ⊎ ((m : MachineImage) × IsGiven source found (Ok m)
    × ((trace : List LinkEvent) × IsClientRun (minidump_of m) (header_of m 512) usual trace × (added ≡ sent_to server trace)))

-- however a `netdump` ended
pub record IsRunAlways (source : Source) (server : ℕ) : Type 0 where
  pub whole : (found : Seen) (w : Work) → (netdump_row source server).Does found w → MayHaveRun source server found w.added
  pub left : (found : Seen) (added : Added) → (netdump_row source server).Leaves found added → MayHaveRun source server found added
  pub starved : (found : Seen) (added : Added) → (netdump_row source server).Starves found added → MayHaveRun source server found added

-- nothing was added, or ports listened and had turns of a server
abbrev pub MayHaveTurns : Seen → Added → Type 0
MayHaveTurns found added = (added ≡ nothing) ⊎ ((turns : List Turn) × HasTurns found added turns)

-- however a `netdumpd` ended
pub record HasTurnsAlways (dumps : ℕ) : Type 0 where
  pub whole : (found : Seen) (w : Work) → (netdumpd_row dumps).Does found w → MayHaveTurns found w.added
  pub left : (found : Seen) (added : Added) → (netdumpd_row dumps).Leaves found added → MayHaveTurns found added
  pub starved : (found : Seen) (added : Added) → (netdumpd_row dumps).Starves found added → MayHaveTurns found added

-- a `netdump` that ended with 0, and calls of `netdumpd` that its datagrams came to
abbrev pub EachNetdumpIsReceived : Type 0
EachNetdumpIsReceived =
    (source : Source) (server : ℕ) (found : Seen) (w : Work) → (netdump_row source server).Does found w → answer_status w.answer ≡ 0
    → (trace : List LinkEvent) × (w.added ≡ sent_to server trace)
    × Told found.told (λ c. (m : MachineImage) × Names c source m × IsKeptByCalls m trace)

-- a `netdump` that ended with 0 opened a link and then had a trace by which the servers keep the dump of the image that its
-- source named
abbrev pub EachNetdumpIsDelivered : Type 0
EachNetdumpIsDelivered =
    (source : Source) (server : ℕ) (found : Seen) (w : Work) → (netdump_row source server).Does found w → answer_status w.answer ≡ 0
    → (trace : List LinkEvent) × (w.added ≡ sent_to server trace) × Told found.told (λ c. IsImageKept c source trace)

-- after a `savecore` that saved a dump and didn't keep it, one without force is refused: the dump is cleared
abbrev pub ClearedIsRefused : Type 0
ClearedIsRefused =
    (options again : Options) (keep : Bool) (found : Seen) (save next : Work)
    → IsSized found → (save_row options false).Does found save → answer_status save.answer ≡ 0
    → again.force ≡ false → (save_row again keep).Does (after found save) next
    → Told found.told (λ c. Refuses (Judged Cleared) next)

-- every kernel read of an image's minidump gives the image's bytes, or the fault that the image defines
abbrev pub EachReadIsTheImages : Type 0
EachReadIsTheImages = (m : MachineImage) (va count : ℕ) → IsValid m → answer_of (minidump_of m) va count ≡ Ok (kernel_read m va count)

-- the headline: what becomes of a dump that is cut, of one that is sent, and of reads
pub record IsHeadline : Type 0 where
  pub cut : EachCutDumpIsSavedWhole
  pub sent : EachNetdumpIsDelivered
  pub read : EachReadIsTheImages

-- the second headline: the same of a dump that marks first, over any partition
pub record IsMarkedHeadline : Type 0 where
  pub cut : EachCutMarkedDumpIsSavedWhole
  pub sent : EachNetdumpIsDelivered
  pub read : EachReadIsTheImages
