-- `dump [-i] IMAGE`: a machine image's dump is written, with `-i` over a header that is marked as cleared first.
use Rattle.std.specs.Prelude.{◌≡◌, ◌⊎◌, ◌≤◌, Bool, true, false, IsTrue, IfOk, List, ℕ, length, Option, Some, Result, Ok, Err}
use Rattle.std.specs.Bool.{OnTrue, OnFalse}
use Rattle.fd_site.specs.Contents.{Contents, Told, file_of, part_of}
use Rattle.fd_site.specs.Journal.{Entry}
use Rattle.fd_site.specs.Seen.{Seen}
use Rattle.fd_bytes.specs.declared.arch.Arch.{Arch}
use Rattle.fd_image.specs.Image.{MachineImage, IsValid}
use Rattle.fd_gen.specs.Generated.{generated}
use Rattle.fd_imgfile.specs.Reading.{IsReading, Spells}
use Rattle.fd_imgfile.specs.declared.fault.ImageFault.{ImageFault}
use Rattle.fd_imgfile.specs.declared.fault.ImageFault.TheVariants as image
use Rattle.fd_dump.specs.Header.{header_of}
use Rattle.fd_dump.specs.Minidump.{minidump_of}
use Rattle.fd_kdh.specs.declared.header.Header.{Header}
use Rattle.fd_part.specs.Dump.{IsBegunDump, IsDumpJournal}
use Rattle.fd_part.specs.Marked.{IsBegunMarked, IsMarkedJournal}
use Rattle.fd_part.specs.Partition.{has_room, is_good, need_of}
use Rattle.fd_cli.specs.Reply.{IsReplyOf}
use Rattle.fd_cli.specs.Row.{Added, Row, Work, nothing, only}
use Rattle.fd_cli.specs.Rows.Common.{AddsNothing, OnGood, Refuses, SaysNothing, the_site}
use Rattle.fd_cli.specs.declared.answer.Answer.{Answer}
use Rattle.fd_cli.specs.declared.answer.Answer.TheVariants.{Dumped}
use Rattle.fd_cli.specs.declared.reply.Reply.{Reply}
use Rattle.fd_cli.specs.declared.reply.Trouble.{Trouble}
use Rattle.fd_cli.specs.declared.refusal.Refusal.{Refusal}
use Rattle.fd_cli.specs.declared.refusal.Refusal.TheVariants.{NoFile, NotImage, BadImage, NoRoom}
use Rattle.fd_words.specs.declared.source.Source.{Source}
use Rattle.fd_words.specs.declared.source.Source.TheVariants.{File, Made}

-- the file of this name spells this image
pub record IsNamed (c : Contents) (name : List ℕ) (m : MachineImage) : Type 0 where
  pub file : List ℕ
  pub there : file_of c name ≡ Some file
  pub spells : Spells file m

-- a source names this image
abbrev pub Names : Contents → Source → MachineImage → Type 0
Names c (File name) m = IsNamed c name m
Names c (Made arch number) m = m ≡ generated arch number

-- what making the image of a number may answer: that image, which is a valid one
abbrev pub IsMaking : Arch → (number : ℕ) → Result MachineImage ImageFault → Type 0
IsMaking arch number (Ok m) = (m ≡ generated arch number) × IsValid m
IsMaking arch number (Err image.NoFile) = ⊥
IsMaking arch number (Err (image.NotImage place)) = ⊥
IsMaking arch number (Err (image.BadImage bad)) = ⊥
IsMaking arch number (Err image.SiteFault) = ⊥
IsMaking arch number (Err image.NoMemory) = Unit {0}

-- what a source may give over what was found
abbrev pub IsGiven : Source → Seen → Result MachineImage ImageFault → Type 0
IsGiven (File name) found reading = Told found.told (λ c. IsReading (file_of c name) reading)
IsGiven (Made arch number) found reading = IsMaking arch number reading

-- the journal of a dump over what was found: with `mark`, a marked dump's over the partition as it was
abbrev pub IsDumpOver : (mark : Bool) → Option Contents → (size block : ℕ) → (body : List ℕ) → Header → List Entry → Type 0
IsDumpOver false told size block body h journal = IsDumpJournal body h size block journal
IsDumpOver true told size block body h journal = Told told (λ c. IsMarkedJournal (part_of c) body h block journal)

-- what such a dump began to add
abbrev pub IsBegunOver : (mark : Bool) → Option Contents → (size block : ℕ) → (body : List ℕ) → Header → List Entry → Type 0
IsBegunOver false told size block body h added = IsBegunDump body h size block added
IsBegunOver true told size block body h added = Told told (λ c. IsBegunMarked (part_of c) body h block added)

-- the whole dump of an image was written
pub record Dumps (mark : Bool) (told : Option Contents) (size block : ℕ) (m : MachineImage) (w : Work) : Type 0 where
  pub answer : w.answer ≡ Dumped (length (minidump_of m))
  pub is_dump : IsDumpOver mark told size block (minidump_of m) (header_of m block) w.added.entries
  pub alone : w.added ≡ only w.added.entries

-- a partition that needs more bytes than it has
abbrev pub no_room : Seen → MachineImage → Refusal
no_room found m = NoRoom (record { need = need_of found.block (length (minidump_of m)); have = found.size })

-- by the room that the partition has for an image's dump
abbrev pub DumpsIfRoom : (mark : Bool) → Seen → MachineImage → Work → Type 0
DumpsIfRoom mark found m w =
    OnTrue (has_room found.size found.block (length (minidump_of m))) (Dumps mark found.told found.size found.block m w)
    × OnFalse (has_room found.size found.block (length (minidump_of m))) (Refuses (no_room found m) w)

-- P of the work with an image that was given; where none was, that is refused
abbrev pub OnImage : (MachineImage → Work → Type 0) → Result MachineImage ImageFault → Work → Type 0
OnImage P (Ok m) w = P m w
OnImage P (Err image.NoFile) w = Refuses NoFile w
OnImage P (Err (image.NotImage place)) w = Refuses (NotImage place) w
OnImage P (Err (image.BadImage bad)) w = Refuses (BadImage bad) w
OnImage P (Err image.SiteFault) w = ⊥
OnImage P (Err image.NoMemory) w = ⊥

-- by what the image's source gives
abbrev pub ByImage : (mark : Bool) → Seen → Result MachineImage ImageFault → Work → Type 0
ByImage mark found given w = OnImage (DumpsIfRoom mark found) given w

-- a dump of an image was begun on a good partition with room
pub record HasBegun (mark : Bool) (told : Option Contents) (size block : ℕ) (m : MachineImage) (added : Added) : Type 0 where
  pub good : IsTrue (is_good size block)
  pub room : need_of block (length (minidump_of m)) ≤ size
  pub begun : IsBegunOver mark told size block (minidump_of m) (header_of m block) added.entries
  pub alone : added ≡ only added.entries

-- the row of an image that was read
abbrev pub image_dump_row : (mark : Bool) → MachineImage → Row
image_dump_row mark m = record {
  Does = λ found w. DumpsIfRoom mark found m w;
  Leaves = λ found added. (added ≡ nothing) ⊎ HasBegun mark found.told found.size found.block m added;
  Starves = AddsNothing;
  Says = SaysNothing;
  blames = the_site;
}

-- what is done over a good partition
abbrev pub DumpsSource : (mark : Bool) → Source → Seen → Work → Type 0
DumpsSource mark source found w = (given : Result MachineImage ImageFault) × IsGiven source found given × ByImage mark found given w

-- nothing was added, or a dump of the image that the source names was begun
abbrev pub MayHaveBegun : (mark : Bool) → Source → Seen → Added → Type 0
MayHaveBegun mark source found added =
    (added ≡ nothing) ⊎ ((m : MachineImage) × IsGiven source found (Ok m) × HasBegun mark found.told found.size found.block m added)

-- the reply to an image that wasn't given, whichever dump was asked for
abbrev pub RefusesImage : ImageFault → Result Reply Trouble → Type 0
RefusesImage fault result =
    IfOk result (λ reply. (answer : Answer) × ((found : Seen) → ByImage false found (Err fault) (record { answer = answer; added = nothing })) × IsReplyOf answer reply)

abbrev pub dump_row : (mark : Bool) → Source → Row
dump_row mark source = record {
  Does = λ found w. OnGood found (DumpsSource mark source found) w;
  Leaves = MayHaveBegun mark source;
  Starves = AddsNothing;
  Says = SaysNothing;
  blames = the_site;
}
