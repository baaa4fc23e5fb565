-- What a drill comes to: of an image's dump the first sectors are written to a partition, what then stands there is saved
-- and cleared as savecore(8) does without options, and the saved file is read.
use Rattle.std.specs.Prelude.{◌≡◌, ◌⊎◌, ℕ, ◌+◌, ◌<◌, ◌≤◌, false, List, [], ◌∷◌, ◌++◌, length, slice_range, take, codes, None, Some, Result, Ok, Err}
use Rattle.std.specs.Fmt.{decimal}
use Rattle.fd_bytes.specs.Printed.{refused_line}
use Rattle.fd_site.specs.Begun.{IsBegun}
use Rattle.fd_site.specs.Contents.{Told, part_of, with_entries}
use Rattle.fd_site.specs.Journal.{Entry}
use Rattle.fd_site.specs.Seen.{Seen, Watched}
use Rattle.fd_site.specs.Trace.{grown}
use Rattle.fd_image.specs.Image.{MachineImage}
use Rattle.fd_dump.specs.Header.{header_of}
use Rattle.fd_dump.specs.Minidump.{minidump_of}
use Rattle.fd_part.specs.Dump.{IsBegunDump}
use Rattle.fd_part.specs.Outcome.{IsStoppedDump}
use Rattle.fd_part.specs.Partition.{need_of}
use Rattle.fd_part.specs.declared.outcome.NoRoom.{NoRoom}
use Rattle.fd_judge.specs.Printed.{why_number, why_text}
use Rattle.fd_judge.specs.declared.why.Why.{Why}
use Rattle.fd_info.specs.Name.{vmcore_name}
use Rattle.fd_save.specs.Outcome.{Finds, HasNoNumber, Numbers, Refuses}
use Rattle.fd_save.specs.Saving.{IsSaveJournal, clearing, parity_of}
use Rattle.fd_save.specs.declared.saved.Options.{Options}
use Rattle.fd_save.specs.declared.saved.Saved as save
use Rattle.fd_mini.specs.Kernel.{KernelBytes}
use Rattle.fd_vmcore.specs.declared.open.OpenFault.{OpenFault}
use Rattle.fd_vmcore.specs.declared.open.OpenFault.TheVariants as vmcore
use Rattle.fd_kvm.specs.Answer.{answer_of}
use Rattle.fd_way.specs.Print.{given_text}
use Rattle.fd_way.specs.declared.way_fault.Drilled.{Drilled}
use Rattle.fd_way.specs.declared.way_fault.Drilled.TheVariants as drilled
use Rattle.fd_way.specs.declared.way_fault.WayFault.{WayFault}
use Rattle.fd_way.specs.declared.way_fault.WayFault.TheVariants as way

-- what is drilled: an image, how many sectors of its dump are written, and the kernel addresses that are read
pub record Drill : Type 0 where
  pub image : MachineImage
  pub stop : ℕ
  pub va : ℕ
  pub count : ℕ

-- How a drill ends that went its way: savecore refused what stood on the partition, or it saved a dump of so many bytes
-- under a number, of which the read gave this, or whose file was refused.
pub data Outcome : Type 0 where
  Refused : Why → Outcome
  Saved : (number len : ℕ) (given : Result KernelBytes OpenFault) → Outcome

-- the line of a partition that holds no dump that can be saved, and that of a dump that was saved
abbrev pub refusal_text : Why → List ℕ
refusal_text why = refused_line (why_number why) (why_text why) ++ 10 ∷ []

abbrev pub saved_text : (number len : ℕ) → List ℕ
saved_text number len = (codes "saved " ++ (vmcore_name number ++ (codes " " ++ decimal len))) ++ 10 ∷ []

-- what is printed of the file behind that: nothing of one that is refused
abbrev pub file_text : (va : ℕ) → Result KernelBytes OpenFault → List ℕ
file_text va (Ok given) = given_text va given
file_text va (Err fault) = []

abbrev pub drill_text : (va : ℕ) → Outcome → List ℕ
drill_text va (Refused why) = refusal_text why
drill_text va (Saved number len given) = saved_text number len ++ file_text va given

-- what is answered
abbrev pub drill_answer : Outcome → Result Drilled WayFault
drill_answer (Refused why) = Ok (drilled.Refused why)
drill_answer (Saved number len (Ok given)) = Ok (drilled.Saved number len given.fault)
drill_answer (Saved number len (Err fault)) = Err (way.Unread fault)

-- how a site is seen after some entries more
abbrev pub after : Seen → List Entry → Seen
after found added = record found { told = with_entries found.told added }

-- the first sectors of the image's dump were written, as many as were asked for, to a partition with room for the dump
pub record IsDumped (d : Drill) (found : Seen) (added : List Entry) : Type 0 where
  pub room : need_of found.block (length (minidump_of d.image)) ≤ found.size
  pub first : IsStoppedDump (minidump_of d.image) (header_of d.image found.block) found.size found.block d.stop added

-- savecore without options
abbrev pub no_options : Options
no_options = record { force = false; max = None }

-- what it adds, of the dump that judging finds: the journal of the save, and of clearing it
pub record IsSavecore (found : Seen) (saved : save.Saved) (body : List ℕ) (planned : List Entry) : Type 0 where
  pub finds : Finds false found saved.header saved.at saved.sector
  pub number : Numbers None found (Some saved.number)
  pub bytes : Told found.told (λ c. body ≡ slice_range (part_of c) saved.at (saved.at + saved.header.dumplength))
  pub saving : List Entry
  pub is_save : IsSaveJournal body saved.header (parity_of saved.sector) saved.number saving
  pub is : planned ≡ saving ++ clearing found.size found.block saved.sector

-- what stood there was refused
pub record EndsRefused (d : Drill) (found : Seen) (why : Why) (added : List Entry) : Type 0 where
  pub dumped : IsDumped d found added
  pub judged : Refuses false (after found added) why

-- a dump stood there, and there was no number for it
pub record EndsUnnumbered (d : Drill) (found : Seen) (added : List Entry) : Type 0 where
  pub dumped : IsDumped d found added
  pub none : HasNoNumber no_options (after found added)

-- what a file is refused for by its bytes
abbrev pub IsOfBytes : OpenFault → Type 0
IsOfBytes vmcore.NoFile = ⊥
IsOfBytes (vmcore.Short need have) = Unit {0}
IsOfBytes (vmcore.Mini fault) = Unit {0}
IsOfBytes (vmcore.BadAvail index) = Unit {0}
IsOfBytes vmcore.SiteFault = ⊥
IsOfBytes vmcore.NoMemory = ⊥

-- what a read may give of a file, whatever its bytes are
abbrev pub IsOfFile : Result KernelBytes OpenFault → Type 0
IsOfFile (Ok given) = Unit {0}
IsOfFile (Err fault) = IsOfBytes fault

-- the dump that stood there was saved and cleared, and this is what reading it gives: where its bytes are told, theirs
pub record EndsSaved (d : Drill) (found : Seen) (number len : ℕ) (given : Result KernelBytes OpenFault) (added : List Entry) : Type 0 where
  pub dump : List Entry
  pub dumped : IsDumped d found dump
  pub saved : save.Saved
  pub body : List ℕ
  pub planned : List Entry
  pub is_savecore : IsSavecore (after found dump) saved body planned
  pub number_is : number ≡ saved.number
  pub len_is : len ≡ saved.header.dumplength
  pub of_file : IsOfFile given
  pub given_is : Told found.told (λ c. given ≡ answer_of body d.va d.count)
  pub is : added ≡ dump ++ planned

-- a drill's way to its end, over what was found
abbrev pub Does : Drill → Seen → Outcome → List Entry → Type 0
Does d found (Refused why) added = EndsRefused d found why added
Does d found (Saved number len given) added = EndsSaved d found number len given added

-- What a drill may leave that was ended on its way, and what it had printed by then: of a dump that was begun; of a
-- savecore that was begun over what was written; or, behind both, while the saved file was read.
pub record HasBegunDump (d : Drill) (found : Seen) (added : List Entry) (early : List ℕ) : Type 0 where
  pub room : need_of found.block (length (minidump_of d.image)) ≤ found.size
  pub begun : IsBegunDump (minidump_of d.image) (header_of d.image found.block) found.size found.block added
  pub silent : early ≡ []

pub record HasBegunSavecore (d : Drill) (found : Seen) (added : List Entry) (early : List ℕ) : Type 0 where
  pub dump : List Entry
  pub dumped : IsDumped d found dump
  pub saved : save.Saved
  pub body : List ℕ
  pub planned : List Entry
  pub is_savecore : IsSavecore (after found dump) saved body planned
  pub more : List Entry
  pub begun : IsBegun planned more
  pub is : added ≡ dump ++ more
  pub silent : early ≡ []

pub record HasSaved (d : Drill) (found : Seen) (added : List Entry) (early : List ℕ) : Type 0 where
  pub number : ℕ
  pub len : ℕ
  pub given : Result KernelBytes OpenFault
  pub is_saved : EndsSaved d found number len given added
  pub said : early ≡ saved_text number len

abbrev pub Leaves : Drill → Seen → (added : List Entry) → (early : List ℕ) → Type 0
Leaves d found added early = HasBegunDump d found added early ⊎ (HasBegunSavecore d found added early ⊎ HasSaved d found added early)

-- where no memory was found, it may also have done nothing
pub record IsNothing (added : List Entry) (early : List ℕ) : Type 0 where
  pub adds : added ≡ []
  pub says : early ≡ []

abbrev pub Starves : Drill → Seen → (added : List Entry) → (early : List ℕ) → Type 0
Starves d found added early = IsNothing added early ⊎ Leaves d found added early

-- it went its way, printed all its text, and gave its answer
pub record Answers (d : Drill) (old new : Seen) (was now : Watched ℕ) (result : Result Drilled WayFault) : Type 0 where
  pub outcome : Outcome
  pub added : List Entry
  pub does : Does d old outcome added
  pub told : new.told ≡ with_entries old.told added
  pub printed : now.told ≡ grown was.told (drill_text d.va outcome)
  pub is : result ≡ drill_answer outcome

-- it went its way, as far as the sink tells, and some of the first bytes of its text were printed
pub record Unprinted (d : Drill) (old new : Seen) (was now : Watched ℕ) : Type 0 where
  pub outcome : Outcome
  pub added : List Entry
  pub does : Does d old outcome added
  pub told : new.told ≡ with_entries old.told added
  pub n : ℕ
  pub printed : now.told ≡ grown was.told (take n (drill_text d.va outcome))

-- it was ended on its way
pub record Ended (P : List Entry → List ℕ → Type 0) (old new : Seen) (was now : Watched ℕ) : Type 0 where
  pub added : List Entry
  pub early : List ℕ
  pub leaves : P added early
  pub told : new.told ≡ with_entries old.told added
  pub printed : now.told ≡ grown was.told early

-- the partition has no room for the dump, and nothing was done
pub record HasNoRoom (d : Drill) (old new : Seen) (was now : Watched ℕ) (room : NoRoom) : Type 0 where
  pub short : old.size < need_of old.block (length (minidump_of d.image))
  pub room_is : room ≡ record { need = need_of old.block (length (minidump_of d.image)); have = old.size }
  pub same : new ≡ old
  pub silent : now ≡ was

-- no number was free for the dump that stood there, and nothing was printed
pub record FindsNoNumber (d : Drill) (old new : Seen) (was now : Watched ℕ) : Type 0 where
  pub added : List Entry
  pub unnumbered : EndsUnnumbered d old added
  pub told : new.told ≡ with_entries old.told added
  pub silent : now ≡ was

-- what a drill did, by its answer
abbrev pub Drills : Drill → (old new : Seen) → (was now : Watched ℕ) → Result Drilled WayFault → Type 0
Drills d old new was now (Ok done) = Answers d old new was now (Ok done)
Drills d old new was now (Err (way.Unread fault)) = Answers d old new was now (Err (way.Unread fault))
Drills d old new was now (Err (way.NoRoom room)) = HasNoRoom d old new was now room
Drills d old new was now (Err way.NoNumber) = FindsNoNumber d old new was now
Drills d old new was now (Err way.SinkFault) = Unprinted d old new was now
Drills d old new was now (Err way.SiteFault) = Ended (Leaves d old) old new was now
Drills d old new was now (Err way.NoMemory) = Ended (Starves d old) old new was now
