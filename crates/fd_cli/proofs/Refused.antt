-- Files that are refused.
use Rattle.std.proofs.Common.{◌≡◌, ◌∙◌, ℕ, List, [], Option, Some, None, Result, Ok, Err, refl, sym, ap}
use Rattle.fd_site.specs.Contents.{Contents, Told, file_of}
use Rattle.fd_vmcore.specs.Sections.{IsOpening, opened_file}
use Rattle.fd_vmcore.specs.declared.open.OpenFault.{OpenFault}
use Rattle.fd_vmcore.specs.declared.open.OpenFault.TheVariants.{NoFile, Short, Mini, BadAvail, SiteFault, NoMemory}
use Rattle.fd_kvm.specs.Answer.{by_sections}
use Rattle.fd_site.specs.Seen.{Seen, Untouched}
use Rattle.fd_site.proofs.Told.{with_entries-nil}
use Rattle.fd_cli.specs.Reply.{WorksOnSite}
use Rattle.fd_cli.specs.Rows.Read.{IsAnswerToFile, IsReadAnswer, RefusesFile, file_answer, read_row}
use Rattle.fd_cli.specs.declared.reply.Reply.{Reply}
use Rattle.fd_cli.specs.declared.reply.Trouble.TheVariants as trouble
use Rattle.fd_cli.proofs.Dumps.{read_replied}
use Rattle.fd_cli.specs.declared.answer.Answer.{Answer}
use Rattle.fd_cli.specs.declared.reply.Trouble.{Trouble}

-- a file that isn't opened answers every read with the fault
by_opening : (file : Option (List ℕ)) (fault : OpenFault) (va count : ℕ) → opened_file file ≡ Err fault → Err fault ≡ file_answer file va count
by_opening None fault va count is = sym (ap (by_sections [] va count) is)
by_opening (Some f) fault va count is = sym (ap (by_sections f va count) is)

answered : (told : Option Contents) (name : List ℕ) (va count : ℕ) (fault : OpenFault) (answer : Answer)
    → Told told (λ c. opened_file (file_of c name) ≡ Err fault) → IsAnswerToFile va (Err fault) answer → IsReadAnswer told name va count answer
answered told name va count fault answer opening is = (Err fault, (λ c told_is. by_opening (file_of c name) fault va count (opening c told_is)), is)

-- the answer to a file that isn't opened is one to `read`
file_refused : (told : Option Contents) (name : List ℕ) (va count : ℕ) (fault : OpenFault) (answer : Answer)
    → Told told (λ c. IsOpening (file_of c name) (Err fault)) → IsAnswerToFile va (Err fault) answer → IsReadAnswer told name va count answer
file_refused told name va count NoFile answer opening is = answered told name va count NoFile answer opening is
file_refused told name va count (Short need have) answer opening is = answered told name va count (Short need have) answer opening is
file_refused told name va count (Mini fault) answer opening is = answered told name va count (Mini fault) answer opening is
file_refused told name va count (BadAvail index) answer opening is = answered told name va count (BadAvail index) answer opening is
file_refused told name va count SiteFault answer opening is = absurd is
file_refused told name va count NoMemory answer opening is = absurd is

-- a read of a file that isn't opened
pub refused_works : (old new : Seen) (name : List ℕ) (va count : ℕ) (fault : OpenFault) (result : Result Reply Trouble)
    → Told old.told (λ c. IsOpening (file_of c name) (Err fault)) → Untouched old new → RefusesFile fault result
    → WorksOnSite (read_row name va count) old new result
refused_works old new name va count fault (Ok reply) opening untouched is =
    read_replied old new name va count is.0 reply (file_refused old.told name va count fault is.0 opening is.1) untouched.told is.2
refused_works old new name va count fault (Err trouble.Fault) opening untouched is =
    record { entries = []; leaves = refl; told = untouched.told ∙ with_entries-nil old.told }
refused_works old new name va count fault (Err trouble.NoMemory) opening untouched is =
    record { entries = []; starves = refl; told = untouched.told ∙ with_entries-nil old.told }
