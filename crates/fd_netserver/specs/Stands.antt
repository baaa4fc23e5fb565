-- What the records of a server stand for.
use Rattle.std.specs.Prelude.{◌≡◌, ◌⊎◌, ℕ, ◌^◌, ◌+◌, ◌-◌, ◌≤◌, List, [], ◌∷◌, length, Option, Some, None, Result, Ok, Err, IsSome, IfSome, slice_get, IsTrue}
use Rattle.fd_cover.specs.Intervals.{has}
use Rattle.fd_info.specs.Info.{IsPlain}
use Rattle.fd_info.specs.Name.{vmcore_name}
use Rattle.fd_kdh.specs.declared.header.Header.{Header}
use Rattle.fd_netmsg.specs.Each.{Each}
use Rattle.fd_netmsg.specs.Message.{Message, vmcore, kdh, finished}
use Rattle.fd_site.specs.Begun.{IsBegun}
use Rattle.fd_site.specs.Journal.{Entry, Create}
use Rattle.fd_site.specs.declared.fault.Failed.{Failed}
use Rattle.fd_netserver.specs.Files.{Files}
use Rattle.fd_netserver.specs.History.{IsDone, IsBrokenOff}
use Rattle.fd_netserver.specs.Session.{Session, Phase, Input, Turn, Open, Done, Broken, covers, told, with_phase}
use Rattle.fd_netserver.specs.Table.{Row, Skips, Repeats, Writes, Keeps, Ends, may_break, entries_of}
use Rattle.fd_netserver.specs.declared.record.Record.{Record}
use Rattle.fd_netserver.specs.declared.reply.Reply.{Reply}
use Rattle.fd_netserver.specs.declared.reply.Reply.TheVariants.{Opened, Ack, Finished, Ignored}
use Rattle.fd_netserver.specs.declared.reply.Skip.TheVariants as skip
use Rattle.fd_netserver.specs.declared.step.Step.{Step}
use Rattle.fd_netserver.specs.declared.step.Step.TheVariants as step

-- a record keeps what a session has
pub record Holds (r : Record) (s : Session) : Type 0 where
  pub number : r.number ≡ s.number
  pub header : r.header ≡ s.header
  pub cover : (i : ℕ) → has r.cover i ≡ covers s.taken i
  pub pieces : Each (λ p. p.bytes ≡ [] → ⊥) s.taken

-- a record stands for a session: of a broken one it has the peer alone
pub record StandsIn (r : Record) (s : Session) : Type 0 where
  pub peer : r.peer ≡ s.peer
  pub phase : r.phase ≡ s.phase
  pub holds : (s.phase ≡ Broken → ⊥) → Holds r s

-- records stand for sessions, each for one
abbrev pub StandsFor : List Record → List Session → Type 0
StandsFor [] [] = Unit {0}
StandsFor [] (s ∷ ss) = ⊥
StandsFor (r ∷ rs) [] = ⊥
StandsFor (r ∷ rs) (s ∷ ss) = StandsIn r s × StandsFor rs ss

-- the row of a step
abbrev pub StepsTo : Step → ℕ → ℕ → Message → Row
StepsTo (step.Skips why) slot number m = Skips why
StepsTo step.Repeats slot number m = Repeats slot m.seqno
StepsTo step.Writes slot number m = Writes slot m.seqno number (record { at = m.offset; bytes = m.body })
StepsTo (step.Keeps header) slot number m = Keeps slot m.seqno
StepsTo (step.Ends header parity) slot number m = Ends slot m.seqno number header parity

-- what is known of a message where its step is a piece
pub record IsPiece (r : Record) (m : Message) : Type 0 where
  pub open_ : r.phase ≡ Open
  pub fits : m.offset + length m.body ≤ 2 ^ 40
  pub kind : m.kind ≡ vmcore
  pub some : m.body ≡ [] → ⊥

pub record IsHeader (header : List ℕ) (r : Record) (m : Message) : Type 0 where
  pub open_ : r.phase ≡ Open
  pub is : header ≡ m.body
  pub kind : m.kind ≡ kdh

pub record IsEnd (header : Header) (r : Record) : Type 0 where
  pub open_ : r.phase ≡ Open
  pub plain : IsPlain header

-- what is known where a step is taken
abbrev pub IsOpenStep : Step → Record → Message → Type 0
IsOpenStep (step.Skips why) r m = why ≡ skip.Broken → r.phase ≡ Broken
IsOpenStep step.Repeats r m = (m.kind ≡ finished) ⊎ ((m.kind ≡ vmcore) × (m.body ≡ []))
IsOpenStep step.Writes r m = IsPiece r m
IsOpenStep (step.Keeps header) r m = IsHeader header r m
IsOpenStep (step.Ends header parity) r m = IsEnd header r

-- what a reply at its port makes of a session
abbrev pub session_after : Message → Reply → Session → Session
session_after m (Opened slot seqno number) s = s
session_after m (Ack slot seqno) s = told (Some m) s
session_after m (Finished seqno slot number size) s = with_phase Done s
session_after m (Ignored skip.Broken) s = with_phase Broken s
session_after m (Ignored why) s = s

-- the reply to a call that was done or failed, and the phase after it
abbrev pub settled : {T : Type 0} → Result T Failed → Reply → Reply
settled (Ok x) reply = reply
settled (Err e) reply = Ignored skip.Broken

abbrev pub phase_by : {T : Type 0} → Result T Failed → Phase → Phase
phase_by (Ok x) next = next
phase_by (Err e) next = Broken

-- a turn of a row
abbrev pub TurnOf : Input → Reply → List Entry → Turn
TurnOf input reply es = record { input = input; reply = reply; entries = es }

abbrev pub IsRowTurn : Row → Turn → Type 0
IsRowTurn row t = IsDone row t ⊎ IsBrokenOff row t

-- a reply at a session's port
abbrev pub IsAtPort : Reply → Type 0
IsAtPort (Opened slot seqno number) = ⊥
IsAtPort (Ack slot seqno) = Unit {0}
IsAtPort (Finished seqno slot number size) = Unit {0}
IsAtPort (Ignored why) = Unit {0}

-- where the contents are told, the file of each open session is there
abbrev pub AreThere : List Record → Files → Type 0
AreThere rs files = Each (λ (r : Record). r.phase ≡ Open → IsSome (files (vmcore_name r.number))) rs

-- what was made of a number that was found
abbrev pub made_of : Option ℕ → List Entry
made_of None = []
made_of (Some n) = Create (vmcore_name n) ∷ []

-- what may have been begun of a row
pub record IsBegunRow (row : Row) (es : List Entry) : Type 0 where
  pub may : IsTrue (may_break row)
  pub begun : IsBegun (entries_of row) es

-- the record of a session's slot is broken
pub record IsBrokenAt (rs : List Record) (slot : ℕ) : Type 0 where
  pub session : 1 ≤ slot
  pub there : IsSome (slice_get rs (slot - 1))
  pub broken : IfSome (slice_get rs (slot - 1)) (λ (r : Record). r.phase ≡ Broken)

-- how many sessions a reply finishes
abbrev pub finishes : Reply → ℕ
finishes (Opened slot seqno number) = 0
finishes (Ack slot seqno) = 0
finishes (Finished seqno slot number size) = 1
finishes (Ignored why) = 0

-- how many records are done
abbrev pub done_of : Phase → ℕ
done_of Open = 0
done_of Done = 1
done_of Broken = 0

abbrev pub dones : List Record → ℕ
dones [] = 0
dones (r ∷ rs) = done_of r.phase + dones rs
