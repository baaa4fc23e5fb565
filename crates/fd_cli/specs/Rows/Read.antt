-- `read FILE ADDRESS LENGTH`: a saved minidump's bytes at kernel addresses.
use Rattle.std.specs.Prelude.{◌≡◌, ℕ, List, Option, Some, None, IfOk, Result, Ok, Err}
use Rattle.fd_site.specs.Contents.{Contents, Told, file_of}
use Rattle.fd_mini.specs.Kernel.{KernelBytes}
use Rattle.fd_mini.specs.declared.address_fault.AddressFault.{AddressFault}
use Rattle.fd_vmcore.specs.declared.open.OpenFault.{OpenFault}
use Rattle.fd_vmcore.specs.declared.open.OpenFault.TheVariants as vmcore
use Rattle.fd_kvm.specs.Answer.{answer_of}
use Rattle.fd_cli.specs.Reply.{IsReplyOf}
use Rattle.fd_way.specs.declared.print_fault.PrintFault.{PrintFault}
use Rattle.fd_way.specs.declared.print_fault.PrintFault.TheVariants as print
use Rattle.fd_cli.specs.Row.{Row}
use Rattle.fd_cli.specs.Rows.Common.{AddsNothing, Answers, SaysNothing, the_site}
use Rattle.fd_cli.specs.declared.answer.Answer.{Answer}
use Rattle.fd_cli.specs.declared.answer.Answer.TheVariants.{Read, Refused}
use Rattle.fd_cli.specs.declared.reply.Reply.{Reply}
use Rattle.fd_cli.specs.declared.reply.Trouble.{Trouble}
use Rattle.fd_cli.specs.declared.refusal.Refusal.TheVariants.{Address, NoFile, Mini, Short, BadAvail}

-- the answer, by the bytes and the first fault of an address
abbrev pub answer_by : (va : ℕ) → List ℕ → Option AddressFault → Answer
answer_by va bytes None = Read va bytes
answer_by va bytes (Some fault) = Refused (Address fault)

abbrev pub bytes_answer : (va : ℕ) → KernelBytes → Answer
bytes_answer va given = answer_by va given.bytes given.fault

-- what a read of a file gives, if there is the file
abbrev pub file_answer : Option (List ℕ) → (va count : ℕ) → Result KernelBytes OpenFault
file_answer None va count = Err vmcore.NoFile
file_answer (Some f) va count = answer_of f va count

-- the answer to a file that isn't opened
abbrev pub RefusesFor : OpenFault → Answer → Type 0
RefusesFor vmcore.NoFile answer = answer ≡ Refused NoFile
RefusesFor (vmcore.Short need have) answer = answer ≡ Refused (Short need have)
RefusesFor (vmcore.Mini fault) answer = answer ≡ Refused (Mini fault)
RefusesFor (vmcore.BadAvail index) answer = answer ≡ Refused (BadAvail index)
RefusesFor vmcore.SiteFault answer = ⊥
RefusesFor vmcore.NoMemory answer = ⊥

-- the answer, by what the file gives
abbrev pub IsAnswerToFile : (va : ℕ) → Result KernelBytes OpenFault → Answer → Type 0
IsAnswerToFile va (Ok given) answer = answer ≡ bytes_answer va given
IsAnswerToFile va (Err fault) answer = RefusesFor fault answer

-- the reply to a file that isn't opened
abbrev pub RefusesFile : OpenFault → Result Reply Trouble → Type 0
RefusesFile fault result =
    IfOk result (λ reply. (answer : Answer) × RefusesFor fault answer × IsReplyOf answer reply)

-- the answer over what the site tells
abbrev pub IsReadAnswer : Option Contents → (name : List ℕ) → (va count : ℕ) → Answer → Type 0
IsReadAnswer told name va count answer =
    (given : Result KernelBytes OpenFault) × Told told (λ c. given ≡ file_answer (file_of c name) va count) × IsAnswerToFile va given answer

-- the status that follows a read, by how it was printed
abbrev pub read_status : Result (Option AddressFault) PrintFault → ℕ
read_status (Ok None) = 0
read_status (Ok (Some fault)) = 1
read_status (Err print.SiteFault) = 74
read_status (Err print.SinkFault) = 74
read_status (Err print.NoMemory) = 71

abbrev pub read_row : (name : List ℕ) → (va count : ℕ) → Row
read_row name va count = record {
  Does = λ found w. IsReadAnswer found.told name va count w.answer × Answers w.answer w;
  Leaves = AddsNothing;
  Starves = AddsNothing;
  Says = SaysNothing;
  blames = the_site;
}
