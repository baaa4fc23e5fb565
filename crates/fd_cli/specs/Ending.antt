-- How a call of the program ends: what was printed, and the status.
use Rattle.std.specs.Prelude.{◌≡◌, ◌⊎◌, ℕ, ◌+◌, ◌^◌, ◌≤◌, List, [], ◌∷◌, ◌++◌, length, take, codes}
use Rattle.std.specs.Fmt.{decimal}
use Rattle.fd_site.specs.Fault.{Rose}
use Rattle.fd_site.specs.Seen.{Seen, Watched}
use Rattle.fd_site.specs.Trace.{LinkEvent, PortsEvent, grown}
use Rattle.fd_info.specs.Name.{vmcore_name}
use Rattle.fd_way.specs.ReadText.{read_text}
use Rattle.fd_cli.specs.Received.{report_of}
use Rattle.fd_cli.specs.Refusal.{line_of, spent_status_of, status_of}
use Rattle.fd_cli.specs.Row.{Added, FaultRose, Grew, Kept, Outside, Row, Work, outside}
use Rattle.fd_cli.specs.declared.answer.Answer.{Answer}
use Rattle.fd_cli.specs.declared.answer.Answer.TheVariants.{Made, Dump, Dumped, Cleared, Saved, Sent, Received, Read, Printed, Refused}

-- a line, with its newline
abbrev pub line : List ℕ → List ℕ
line text = text ++ 10 ∷ []

-- the text of an answer
abbrev pub answer_text : Answer → List ℕ
answer_text (Made file len) = line (codes "image " ++ (file ++ (codes " " ++ decimal len)))
answer_text (Dump len) = line (codes "dump " ++ decimal len)
answer_text (Dumped len) = line (codes "dumped " ++ decimal len)
answer_text Cleared = line (codes "cleared")
answer_text (Saved number len) = line (codes "saved " ++ (vmcore_name number ++ (codes " " ++ decimal len)))
answer_text (Sent len last) = line (codes "sent " ++ (decimal len ++ (codes " " ++ decimal last)))
answer_text (Received sessions spent) = report_of sessions spent
answer_text (Read address bytes) = read_text address bytes
answer_text (Printed status text) = text
answer_text (Refused refusal) = line (line_of refusal)

abbrev pub answer_status : Answer → ℕ
answer_status (Made file len) = 0
answer_status (Dump len) = 0
answer_status (Dumped len) = 0
answer_status Cleared = 0
answer_status (Saved number len) = 0
answer_status (Sent len last) = 0
answer_status (Received sessions spent) = spent_status_of spent
answer_status (Read address bytes) = 0
answer_status (Printed status text) = status
answer_status (Refused refusal) = status_of refusal

-- a call ended with an answer: its whole text, and its status
pub record Answered (row : Row) (old new : Outside) (status : ℕ) : Type 0 where
  pub work : Work
  pub does : row.Does old.reach.site work
  pub grew : Grew old.reach new.reach work.added
  pub printed : new.sink.told ≡ grown old.sink.told (answer_text work.answer)
  pub status_is : status ≡ answer_status work.answer

-- it did its work, but the sink failed: 74, and some of the first bytes of the answer's text
pub record Unprinted (row : Row) (old new : Outside) (status : ℕ) : Type 0 where
  pub work : Work
  pub does : row.Does old.reach.site work
  pub grew : Grew old.reach new.reach work.added
  pub n : ℕ
  pub printed : new.sink.told ≡ grown old.sink.told (take n (answer_text work.answer))
  pub status_is : status ≡ 74
  pub rose : Rose old.sink.faults new.sink.faults

-- a fault ended its work: 74, and something has failed that the row blames
pub record Failed (row : Row) (old new : Outside) (status : ℕ) : Type 0 where
  pub added : Added
  pub leaves : row.Leaves old.reach.site added
  pub grew : Grew old.reach new.reach added
  pub early : List ℕ
  pub may_say : row.Says old.reach.site added early
  pub printed : new.sink.told ≡ grown old.sink.told early
  pub status_is : status ≡ 74
  pub rose : FaultRose row.blames old.reach new.reach

-- it ended for want of memory: 71
pub record Starved (row : Row) (old new : Outside) (status : ℕ) : Type 0 where
  pub added : Added
  pub starves : row.Starves old.reach.site added
  pub grew : Grew old.reach new.reach added
  pub early : List ℕ
  pub may_say : row.Says old.reach.site added early
  pub printed : new.sink.told ≡ grown old.sink.told early
  pub status_is : status ≡ 71

-- how a call may end
abbrev pub Ends : Row → (old new : Outside) → ℕ → Type 0
Ends row old new status =
    Answered row old new status ⊎ (Unprinted row old new status ⊎ (Failed row old new status ⊎ Starved row old new status))

-- what a call of a command did: how it ended, and what it kept
pub record Call (row : Row) (old new : Outside) (status : ℕ) : Type 0 where
  pub ends : Ends row old new status
  pub kept : Kept row.blames old.reach new.reach
  pub sink : old.sink.faults ≤ new.sink.faults

-- a call of a command that touches neither the link nor the ports
abbrev pub CallOnSite : Row → (old new : Seen) → (sink printed : Watched ℕ) → ℕ → Type 0
CallOnSite row old new sink printed status =
    (link : Watched LinkEvent) → (ports : Watched PortsEvent) → Call row (outside old link ports sink) (outside new link ports printed) status

-- a file's name in it has at most 64 bytes, there are at most 16 sessions, and the bytes that were read end at 2^64 or below
abbrev pub IsPrintable : Answer → Type 0
IsPrintable (Made file len) = length file ≤ 64
IsPrintable (Dump len) = Unit {0}
IsPrintable (Dumped len) = Unit {0}
IsPrintable Cleared = Unit {0}
IsPrintable (Saved number len) = Unit {0}
IsPrintable (Sent len last) = Unit {0}
IsPrintable (Received sessions spent) = length sessions ≤ 16
IsPrintable (Read address bytes) = address + length bytes ≤ 2 ^ 64
IsPrintable (Printed status text) = Unit {0}
IsPrintable (Refused refusal) = Unit {0}
