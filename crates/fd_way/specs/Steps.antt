-- What the steps of a drill come to, by their answers. No public clause cites these.
use Rattle.std.specs.Prelude.{◌≡◌, ◌⊎◌, ℕ, ◌<◌, ◌≤◌, List, ◌++◌, length, take, Option, Some, Result, Ok, Err}
use Rattle.fd_site.specs.Begun.{IsBegun}
use Rattle.fd_site.specs.Contents.{Adds, Contents, Told, file_of}
use Rattle.fd_site.specs.Journal.{Entry}
use Rattle.fd_site.specs.Seen.{Seen, Watched}
use Rattle.fd_site.specs.Trace.{grown}
use Rattle.fd_image.specs.Image.{IsValid, MachineImage}
use Rattle.fd_dump.specs.Header.{header_of}
use Rattle.fd_dump.specs.Minidump.{minidump_of}
use Rattle.fd_part.specs.Dump.{IsBegunDump}
use Rattle.fd_part.specs.Outcome.{IsStoppedDump}
use Rattle.fd_part.specs.Partition.{need_of}
use Rattle.fd_part.specs.declared.outcome.NoRoom.{NoRoom}
use Rattle.fd_judge.specs.declared.why.Why.{Why}
use Rattle.fd_info.specs.Name.{vmcore_name}
use Rattle.fd_save.specs.Outcome.{HasNoNumber, Refuses}
use Rattle.fd_save.specs.declared.fault.SaveFault.{SaveFault}
use Rattle.fd_save.specs.declared.fault.SaveFault.TheVariants as no
use Rattle.fd_save.specs.declared.saved.Saved.{Saved}
use Rattle.fd_mini.specs.Kernel.{KernelBytes}
use Rattle.fd_mini.specs.declared.address_fault.AddressFault.{AddressFault}
use Rattle.fd_vmcore.specs.declared.open.OpenFault.{OpenFault}
use Rattle.fd_kvm.specs.Answer.{answer_of}
use Rattle.fd_way.specs.Drill.{IsOfBytes, IsOfFile, IsSavecore, file_text, no_options, refusal_text, saved_text}
use Rattle.fd_way.specs.declared.way_fault.WayFault.{WayFault}
use Rattle.fd_way.specs.declared.way_fault.WayFault.TheVariants as way

-- a partition has room for a valid image's dump, and of that entries were added of which P holds
pub record Writes (P : List Entry → Type 0) (m : MachineImage) (old new : Seen) : Type 0 where
  pub valid : IsValid m
  pub room : need_of old.block (length (minidump_of m)) ≤ old.size
  pub adds : Adds P old.told new.told

-- it has no room
pub record Lacks (m : MachineImage) (old new : Seen) (room : NoRoom) : Type 0 where
  pub short : old.size < need_of old.block (length (minidump_of m))
  pub room_is : room ≡ record { need = need_of old.block (length (minidump_of m)); have = old.size }
  pub same : new ≡ old

-- the first sectors of an image's dump were written
abbrev pub WritesFirst : MachineImage → (stop : ℕ) → (old new : Seen) → Result (Unit {0}) WayFault → Type 0
WritesFirst m stop old new (Ok done) = Writes (IsStoppedDump (minidump_of m) (header_of m old.block) old.size old.block stop) m old new
WritesFirst m stop old new (Err (way.NoRoom room)) = Lacks m old new room
WritesFirst m stop old new (Err way.SiteFault) = Writes (IsBegunDump (minidump_of m) (header_of m old.block) old.size old.block) m old new
WritesFirst m stop old new (Err way.NoMemory) = new ≡ old
WritesFirst m stop old new (Err way.NoNumber) = ⊥
WritesFirst m stop old new (Err (way.Unread fault)) = ⊥
WritesFirst m stop old new (Err way.SinkFault) = ⊥

-- of what savecore adds, these entries were added
pub record Saves (P : List Entry → List Entry → Type 0) (old new : Seen) (saved : Saved) : Type 0 where
  pub body : List ℕ
  pub planned : List Entry
  pub is_savecore : IsSavecore old saved body planned
  pub adds : Adds (P planned) old.told new.told

-- none, or they were begun
abbrev pub MaySave : (old new : Seen) → Type 0
MaySave old new = (new.told ≡ old.told) ⊎ ((saved : Saved) × Saves IsBegun old new saved)

-- judging refused, or found no number, and nothing was added
pub record RefusesWhole (old new : Seen) (why : Why) : Type 0 where
  pub judged : Refuses (no_options.force) old why
  pub same : new.told ≡ old.told

pub record LacksNumber (old new : Seen) : Type 0 where
  pub none : HasNoNumber no_options old
  pub same : new.told ≡ old.told

abbrev pub SavesAndClears : (old new : Seen) → Result Saved SaveFault → Type 0
SavesAndClears old new (Ok saved) = Saves (λ planned added. added ≡ planned) old new saved
SavesAndClears old new (Err (no.Refused why)) = RefusesWhole old new why
SavesAndClears old new (Err no.NoNumber) = LacksNumber old new
SavesAndClears old new (Err no.SiteFault) = MaySave old new

-- a refusal's line was printed, some of the first bytes of it, or nothing
abbrev pub PrintsRefusal : Why → (old new : Watched ℕ) → Result (Unit {0}) WayFault → Type 0
PrintsRefusal why old new (Ok done) = new.told ≡ grown old.told (refusal_text why)
PrintsRefusal why old new (Err way.SinkFault) = (n : ℕ) × (new.told ≡ grown old.told (take n (refusal_text why)))
PrintsRefusal why old new (Err way.NoMemory) = new ≡ old
PrintsRefusal why old new (Err (way.NoRoom room)) = ⊥
PrintsRefusal why old new (Err way.NoNumber) = ⊥
PrintsRefusal why old new (Err (way.Unread fault)) = ⊥
PrintsRefusal why old new (Err way.SiteFault) = ⊥

-- what a read of the file of this number gives, where files are told
abbrev pub GivenBy : Option Contents → (number va count : ℕ) → Result KernelBytes OpenFault → Type 0
GivenBy told number va count given = Told told (λ c. (f : List ℕ) → file_of c (vmcore_name number) ≡ Some f → given ≡ answer_of f va count)

-- behind some text, that of a file was printed
pub record PrintsFile (told : Option Contents) (number va count : ℕ) (front : List ℕ) (old new : Watched ℕ) (fault : Option AddressFault) : Type 0 where
  pub given : KernelBytes
  pub is_given : GivenBy told number va count (Ok given)
  pub fault_is : fault ≡ given.fault
  pub printed : new.told ≡ grown old.told (front ++ file_text va (Ok given))

-- the file was refused
pub record RefusesFile (told : Option Contents) (number va count : ℕ) (front : List ℕ) (old new : Watched ℕ) (fault : OpenFault) : Type 0 where
  pub is_given : GivenBy told number va count (Err fault)
  pub of_bytes : IsOfBytes fault
  pub printed : new.told ≡ grown old.told front

-- the sink failed: some of the first bytes of the text were printed
pub record PrintsFirst (told : Option Contents) (number va count : ℕ) (front : List ℕ) (old new : Watched ℕ) : Type 0 where
  pub given : Result KernelBytes OpenFault
  pub of_file : IsOfFile given
  pub is_given : GivenBy told number va count given
  pub n : ℕ
  pub printed : new.told ≡ grown old.told (take n (front ++ file_text va given))

abbrev pub Reads : Option Contents → (number va count : ℕ) → (front : List ℕ) → (old new : Watched ℕ) → Result (Option AddressFault) WayFault → Type 0
Reads told number va count front old new (Ok fault) = PrintsFile told number va count front old new fault
Reads told number va count front old new (Err (way.Unread fault)) = RefusesFile told number va count front old new fault
Reads told number va count front old new (Err way.SinkFault) = PrintsFirst told number va count front old new
Reads told number va count front old new (Err way.SiteFault) = new.told ≡ grown old.told front
Reads told number va count front old new (Err way.NoMemory) = new.told ≡ grown old.told front
Reads told number va count front old new (Err (way.NoRoom room)) = ⊥
Reads told number va count front old new (Err way.NoNumber) = ⊥

-- a file is read and printed, alone or behind the line of a dump that was saved
abbrev pub ReadsFile : Option Contents → (number va count : ℕ) → (old new : Watched ℕ) → Result (Option AddressFault) WayFault → Type 0
ReadsFile told number va count old new result = (front : List ℕ) (was : Watched ℕ) → old.told ≡ grown was.told front → Reads told number va count front was new result

abbrev pub ReadsSaved : Option Contents → Saved → (va count : ℕ) → (old new : Watched ℕ) → Result (Option AddressFault) WayFault → Type 0
ReadsSaved told saved va count old new result = Reads told saved.number va count (saved_text saved.number saved.header.dumplength) old new result
