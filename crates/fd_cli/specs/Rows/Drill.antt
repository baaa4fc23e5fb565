-- `drill IMAGE STOP ADDRESS LENGTH`: the whole way of an image's dump in one call.
use Rattle.std.specs.Prelude.{◌≡◌, ◌⊎◌, ℕ, ◌<◌, IsTrue, List, [], ◌++◌, length, take, Some, None, Result, Ok, Err}
use Rattle.fd_site.specs.Fault.{Rose}
use Rattle.fd_site.specs.Seen.{Seen, Watched}
use Rattle.fd_site.specs.Trace.{grown}
use Rattle.fd_image.specs.Image.{MachineImage}
use Rattle.fd_imgfile.specs.declared.fault.ImageFault.{ImageFault}
use Rattle.fd_dump.specs.Minidump.{minidump_of}
use Rattle.fd_mini.specs.Kernel.{KernelBytes}
use Rattle.fd_part.specs.Partition.{is_good, need_of}
use Rattle.fd_vmcore.specs.declared.open.OpenFault.{OpenFault}
use Rattle.fd_vmcore.specs.declared.open.OpenFault.TheVariants as vmcore
use Rattle.fd_way.specs.Drill.{Drill, Outcome}
use Rattle.fd_way.specs.Drill as way
use Rattle.fd_way.specs.declared.way_fault.Drilled.{Drilled}
use Rattle.fd_way.specs.declared.way_fault.Drilled.TheVariants as drilled
use Rattle.fd_way.specs.declared.way_fault.WayFault.{WayFault}
use Rattle.fd_way.specs.declared.way_fault.WayFault.TheVariants as fault
use Rattle.fd_cli.specs.Ending.{answer_status, answer_text, line}
use Rattle.fd_cli.specs.Refusal.{line_of, status_of}
use Rattle.fd_cli.specs.Row.{Added, Row, Work, nothing, only}
use Rattle.fd_cli.specs.Rows.Common.{OnGood, Refuses, the_site}
use Rattle.fd_cli.specs.Rows.Dump.{IsGiven, OnImage, no_room}
use Rattle.fd_cli.specs.Rows.Read.{bytes_answer}
use Rattle.fd_cli.specs.declared.answer.Answer.{Answer}
use Rattle.fd_cli.specs.declared.answer.Answer.TheVariants.{Printed, Refused}
use Rattle.fd_cli.specs.declared.refusal.Refusal.{Refusal}
use Rattle.fd_cli.specs.declared.refusal.Refusal.TheVariants.{Judged, Short, Mini, BadAvail, NoFile, NoNumber, NoRoom}
use Rattle.fd_words.specs.declared.source.Source.{Source}

-- what a vmcore is refused for; a file that was saved is there, so the last three don't come of one
abbrev pub file_refusal : OpenFault → Refusal
file_refusal (vmcore.Short need have) = Short need have
file_refusal (vmcore.Mini why) = Mini why
file_refusal (vmcore.BadAvail index) = BadAvail index
file_refusal vmcore.NoFile = NoFile
file_refusal vmcore.SiteFault = NoFile
file_refusal vmcore.NoMemory = NoFile

-- the answer to the read of the saved file
abbrev pub saved_answer : (va : ℕ) → Result KernelBytes OpenFault → Answer
saved_answer va (Ok given) = bytes_answer va given
saved_answer va (Err why) = Refused (file_refusal why)

-- the answer by how the drill ended: a refusal, or the line of the saved dump and behind it the answer to the read
abbrev pub drilled_answer : (va : ℕ) → Outcome → Answer
drilled_answer va (way.Refused why) = Refused (Judged why)
drilled_answer va (way.Saved number len given) =
    Printed (answer_status (saved_answer va given)) (way.saved_text number len ++ answer_text (saved_answer va given))

-- how a site is seen by and by, when nothing was added: with another count of faults
abbrev pub by_then : Seen → (faults : ℕ) → Seen
by_then found faults = record found { faults = faults }

-- it went its way
pub record GoesItsWay (d : Drill) (found : Seen) (w : Work) : Type 0 where
  pub outcome : Outcome
  pub does : way.Does d found outcome w.added.entries
  pub answer : w.answer ≡ drilled_answer d.va outcome
  pub alone : w.added ≡ only w.added.entries

-- a dump stood there, and no number was free
pub record FindsNoNumber (d : Drill) (found : Seen) (w : Work) : Type 0 where
  pub unnumbered : way.EndsUnnumbered d found w.added.entries
  pub answer : w.answer ≡ Refused NoNumber
  pub alone : w.added ≡ only w.added.entries

-- the partition has no room
pub record HasNoRoom (d : Drill) (found : Seen) (w : Work) : Type 0 where
  pub short : found.size < need_of found.block (length (minidump_of d.image))
  pub refuses : Refuses (no_room found d.image) w

abbrev pub Drills : Drill → Seen → Work → Type 0
Drills d found w = (faults : ℕ) × (HasNoRoom d (by_then found faults) w ⊎ (FindsNoNumber d (by_then found faults) w ⊎ GoesItsWay d (by_then found faults) w))

abbrev pub drill_of : (stop va count : ℕ) → MachineImage → Drill
drill_of stop va count m = record { image = m; stop = stop; va = va; count = count }

-- the status that follows a drill that printed all its text itself
abbrev pub drilled_status : Drilled → ℕ
drilled_status (drilled.Refused why) = 1
drilled_status (drilled.Saved number len None) = 0
drilled_status (drilled.Saved number len (Some address)) = 1

-- a refusal's line is printed last, and then its status follows; the sink may fail, or no memory be found for the line
abbrev pub PrintsRefusal : Refusal → (old new : Watched ℕ) → (status : ℕ) → Type 0
PrintsRefusal refusal old new status =
    ((status ≡ status_of refusal) × (new.told ≡ grown old.told (line (line_of refusal))))
    ⊎ (((status ≡ 74) × Rose old.faults new.faults × ((n : ℕ) × (new.told ≡ grown old.told (take n (line (line_of refusal))))))
    ⊎ ((status ≡ 71) × (new ≡ old)))

-- how a drill is ended that didn't print all its text
abbrev pub EndsDrill : WayFault → (old new : Watched ℕ) → (status : ℕ) → Type 0
EndsDrill (fault.Unread why) old new status = PrintsRefusal (file_refusal why) old new status
EndsDrill (fault.NoRoom room) old new status = PrintsRefusal (NoRoom room) old new status
EndsDrill fault.NoNumber old new status = PrintsRefusal NoNumber old new status
EndsDrill fault.SiteFault old new status = (status ≡ 74) × (new ≡ old)
EndsDrill fault.SinkFault old new status = (status ≡ 74) × (new ≡ old)
EndsDrill fault.NoMemory old new status = (status ≡ 71) × (new ≡ old)

-- what is done over a good partition, with what the image's source gives
abbrev pub DrillsSource : Source → (stop va count : ℕ) → Seen → Work → Type 0
DrillsSource source stop va count found w =
    (given : Result MachineImage ImageFault) × IsGiven source found given × OnImage (λ m. Drills (drill_of stop va count m) found) given w

-- a drill of an image was begun, and had printed this when it was ended
pub record HasBegunToDrill (d : Drill) (found : Seen) (added : Added) (early : List ℕ) : Type 0 where
  pub good : IsTrue (is_good found.size found.block)
  pub faults : ℕ
  pub begun : way.Starves d (by_then found faults) added.entries early
  pub alone : added ≡ only added.entries

-- what was added and printed by a drill that was ended on its way, or before it
abbrev pub EndsEarly : Source → (stop va count : ℕ) → Seen → Added → List ℕ → Type 0
EndsEarly source stop va count found added early =
    ((added ≡ nothing) × (early ≡ []))
    ⊎ ((m : MachineImage) × IsGiven source found (Ok m) × HasBegunToDrill (drill_of stop va count m) found added early)

-- what a drill may leave: what it adds that went its way, or that was ended early
abbrev pub MayHaveDrilled : Source → (stop va count : ℕ) → Seen → Added → Type 0
MayHaveDrilled source stop va count found added =
    ((w : Work) × OnGood found (DrillsSource source stop va count found) w × (w.added ≡ added))
    ⊎ ((early : List ℕ) × EndsEarly source stop va count found added early)

abbrev pub drill_row : Source → (stop va count : ℕ) → Row
drill_row source stop va count = record {
  Does = λ found w. OnGood found (DrillsSource source stop va count found) w;
  Leaves = MayHaveDrilled source stop va count;
  Starves = MayHaveDrilled source stop va count;
  Says = λ found added early. (early ≡ []) ⊎ EndsEarly source stop va count found added early;
  blames = the_site;
}
