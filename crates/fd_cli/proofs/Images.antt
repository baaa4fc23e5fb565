-- What `read` answers of the minidump of an image.
use Rattle.std.proofs.Common.{◌≡◌, inl, inr, ℕ, List, Some, Result, Ok, refl, ◌∙◌, ap, subst}
use Rattle.fd_site.specs.Contents.{Contents, file_of}
use Rattle.fd_site.specs.Seen.{Seen}
use Rattle.fd_image.specs.Image.{MachineImage, IsValid}
use Rattle.fd_mini.specs.Kernel.{KernelBytes}
use Rattle.fd_dump.specs.KernelRead.{kernel_read}
use Rattle.fd_dump.specs.Minidump.{minidump_of}
use Rattle.fd_vmcore.specs.declared.open.OpenFault.{OpenFault}
use Rattle.fd_kvm.specs.Answer.{answer_of}
use Rattle.fd_cli.specs.Ending.{Ends}
use Rattle.fd_cli.specs.Rows.ImageRead.{image_read_row, OfImage}
use Rattle.fd_cli.specs.Laws.{Refines}
use Rattle.fd_cli.specs.Row.{FaultRose, Outside, Row, nothing}
use Rattle.fd_cli.specs.Rows.Read.{IsAnswerToFile, bytes_answer, file_answer, read_row}
use Rattle.fd_cli.specs.declared.answer.Answer.{Answer}

-- that each read of an image's minidump gives what the image gives
abbrev pub ReadingLaw : Type 0
ReadingLaw = (m : MachineImage) (va count : ℕ) → IsValid m → answer_of (minidump_of m) va count ≡ Ok (kernel_read m va count)

-- a call that ended by a row ended by each row that this one refines
ends_by : (row other : Row) (old new : Outside) (status : ℕ) → Refines old.reach.site row other → Ends row old new status → Ends other old new status
ends_by row other old new status finer (inl done) = inl (record {
  work = done.work;
  does = finer.does done.work done.does;
  grew = done.grew;
  printed = done.printed;
  status_is = done.status_is;
})
ends_by row other old new status finer (inr (inl done)) = inr (inl (record {
  work = done.work;
  does = finer.does done.work done.does;
  grew = done.grew;
  n = done.n;
  printed = done.printed;
  status_is = done.status_is;
  rose = done.rose;
}))
ends_by row other old new status finer (inr (inr (inl done))) = inr (inr (inl (record {
  added = done.added;
  leaves = finer.leaves done.added done.leaves;
  grew = done.grew;
  early = done.early;
  may_say = finer.says done.added done.early done.may_say;
  printed = done.printed;
  status_is = done.status_is;
  rose = subst (λ b. FaultRose b old.reach new.reach) finer.blames done.rose;
})))
ends_by row other old new status finer (inr (inr (inr done))) = inr (inr (inr (record {
  added = done.added;
  starves = finer.starves done.added done.starves;
  grew = done.grew;
  early = done.early;
  may_say = finer.says done.added done.early done.may_say;
  printed = done.printed;
  status_is = done.status_is;
})))

by_given : (va : ℕ) (given : Result KernelBytes OpenFault) (bytes : KernelBytes) (answer : Answer) → given ≡ Ok bytes → IsAnswerToFile va given answer
    → answer ≡ bytes_answer va bytes
by_given va given bytes answer is_given is = subst (λ g. IsAnswerToFile va g answer) is_given is

-- over a file that is an image's minidump, `read` reads the image
pub read_is_images : (law : ReadingLaw) (found : Seen) (name : List ℕ) (va count : ℕ) (c : Contents) (m : MachineImage) → found.told ≡ Some c → IsValid m
    → file_of c name ≡ Some (minidump_of m) → Refines found (read_row name va count) (image_read_row m va count)
read_is_images law found name va count c m told valid is = record {
  does = λ w does.
      let answer_is : w.answer ≡ bytes_answer va (kernel_read m va count) =
      by_given va does.0.0 (kernel_read m va count) w.answer (does.0.1 c told ∙ ap (λ file. file_answer file va count) is ∙ law m va count valid) does.0.2 in
      does.1 ∙ ap (λ a. record { answer = a; added = nothing }) answer_is;
  leaves = λ added leaves. leaves;
  starves = λ added starves. starves;
  says = λ added text says. says;
  blames = refl;
}

pub reads_of_call : (law : ReadingLaw) (old new : Outside) (name : List ℕ) (va count status : ℕ) → Ends (read_row name va count) old new status
    → OfImage old.reach.site name (λ m. Ends (image_read_row m va count) old new status)
reads_of_call law old new name va count status ends c told m valid is =
    ends_by (read_row name va count) (image_read_row m va count) old new status (read_is_images law old.reach.site name va count c m told valid is) ends
