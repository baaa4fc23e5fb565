-- What a server's ports and site have after its turns, and when it ends.
use Rattle.std.specs.Prelude.{◌≡◌, ◌⊎◌, ℕ, ◌+◌, ◌-◌, ◌<◌, ◌≤◌, min, List, [], ◌∷◌, ◌++◌, length, take, Option, Some, None}
use Rattle.fd_netmsg.specs.Message.{ack}
use Rattle.fd_site.specs.Contents.{Told, file_of, with_entries}
use Rattle.fd_site.specs.Fault.{Rose}
use Rattle.fd_site.specs.Seen.{Seen}
use Rattle.fd_site.specs.Trace.{PortsEvent, SlotOpened, Taken, NoneTaken, Answered, grown}
use Rattle.fd_site.specs.declared.ports.Peer.{Peer}
use Rattle.fd_netserver.specs.History.{IsServerRun, NoneBroken, entries_in}
use Rattle.fd_netserver.specs.Session.{Input, Turn}
use Rattle.fd_netserver.specs.declared.limits.ServeLimits.{ServeLimits}
use Rattle.fd_netserver.specs.declared.limits.Received.{Received}
use Rattle.fd_netserver.specs.declared.limits.ServeFault.{ServeFault}
use Rattle.fd_netserver.specs.declared.limits.ServeFault.TheVariants.{TurnsSpent, PortsFault, NoMemory}
use Rattle.fd_netserver.specs.declared.reply.Reply.{Reply}
use Rattle.fd_netserver.specs.declared.reply.Reply.TheVariants.{Opened, Ack, Finished, Ignored}

-- from 1 to 16 dumps, and at least one turn
pub record IsServing (limits : ServeLimits) : Type 0 where
  pub some : 1 ≤ limits.dumps
  pub most : limits.dumps ≤ 16
  pub turns : 1 ≤ limits.turns

-- how a reply is answered
abbrev pub answers_of : Peer → Reply → List PortsEvent
answers_of peer (Opened slot seqno number) = SlotOpened slot ∷ Answered slot peer (ack seqno) ∷ []
answers_of peer (Ack slot seqno) = Answered slot peer (ack seqno) ∷ []
answers_of peer (Finished seqno slot number size) = Answered slot peer (ack seqno) ∷ []
answers_of peer (Ignored why) = []

-- the turns of what happened; None is a silent one
abbrev pub turns_in : List (Option Turn) → List Turn
turns_in [] = []
turns_in (None ∷ hs) = turns_in hs
turns_in (Some t ∷ hs) = t ∷ turns_in hs

-- what the ports had of it
abbrev pub input_event : Input → PortsEvent
input_event input = Taken input.slot input.peer input.bytes

abbrev pub events_of : List (Option Turn) → List PortsEvent
events_of [] = []
events_of (None ∷ hs) = NoneTaken ∷ events_of hs
events_of (Some t ∷ hs) = input_event t.input ∷ (answers_of t.input.peer t.reply ++ events_of hs)

-- the sessions that a reply finishes, and those that were finished in all
abbrev pub finished_by : Reply → List Received
finished_by (Opened slot seqno number) = []
finished_by (Ack slot seqno) = []
finished_by (Finished seqno slot number size) = record { number = number; length = size } ∷ []
finished_by (Ignored why) = []

abbrev pub finished_in : List (Option Turn) → List Received
finished_in [] = []
finished_in (None ∷ hs) = finished_in hs
finished_in (Some t ∷ hs) = finished_by t.reply ++ finished_in hs

-- a fault of the site broke no turn off, or the site's count of faults rose
abbrev pub IsUnbroken : (was now : ℕ) → List (Option Turn) → Type 0
IsUnbroken was now happened = NoneBroken (turns_in happened) ⊎ Rose was now

-- so much of what the ports are asked was done, and not all
pub record IsDoneInPart (asked given : List PortsEvent) : Type 0 where
  pub next : PortsEvent
  pub lacking : List PortsEvent
  pub is : asked ≡ given ++ next ∷ lacking

-- behind what happened before, one turn more was answered in part, or not at all
pub record IsUnanswered (before happened : List (Option Turn)) (events : List PortsEvent) : Type 0 where
  pub last : Turn
  pub given : List PortsEvent
  pub is : happened ≡ before ++ Some last ∷ []
  pub answers : IsDoneInPart (answers_of last.input.peer last.reply) given
  pub events_are : events ≡ events_of before ++ input_event last.input ∷ given

-- behind what happened before, the ports gave nothing
pub record IsUnlooked (before happened : List (Option Turn)) (events : List PortsEvent) : Type 0 where
  pub is : happened ≡ before
  pub events_are : events ≡ events_of before

-- behind what happened before, one input more was taken, of which nothing came
pub record IsUntaken (before happened : List (Option Turn)) (events : List PortsEvent) : Type 0 where
  pub input : Input
  pub is : happened ≡ before
  pub events_are : events ≡ events_of before ++ input_event input ∷ []

-- where the turn behind what happened before was broken off
abbrev pub BreaksOff : ServeFault → (before happened : List (Option Turn)) → List PortsEvent → Type 0
BreaksOff (TurnsSpent n) before happened events = ⊥
BreaksOff PortsFault before happened events = IsUnlooked before happened events ⊎ IsUnanswered before happened events
BreaksOff NoMemory before happened events = IsUntaken before happened events

-- What happened, whatever came of it: the inputs with their replies and entries are a server run, the site has just these
-- entries, and the finished sessions are listed in the order in which they finished. How the events ended is as it says.
pub record IsServedTo (ends : List (Option Turn) → List PortsEvent → Type 0) (old new : Seen) (seen now : Option (List PortsEvent)) (list : List Received) : Type 0 where
  pub happened : List (Option Turn)
  pub events : List PortsEvent
  pub run : Told old.told (λ c. IsServerRun [] (file_of c) (turns_in happened))
  pub entries : new.told ≡ with_entries old.told (entries_in (turns_in happened))
  pub unbroken : IsUnbroken old.faults new.faults happened
  pub given : now ≡ grown seen events
  pub listed : list ≡ finished_in happened
  pub ended : ends happened events

-- some turns, none of which comes when so many sessions were finished
abbrev pub AreFew : ℕ → List (Option Turn) → Type 0
AreFew dumps happened = (k : ℕ) → k < length happened → length (finished_in (take k happened)) < dumps

-- All dumps were finished, by the last of the first turns, and as many turns came behind them as it lingers, or as were left.
pub record IsOver (limits : ServeLimits) (happened : List (Option Turn)) : Type 0 where
  pub first : List (Option Turn)
  pub linger : List (Option Turn)
  pub is : happened ≡ first ++ linger
  pub few : AreFew limits.dumps first
  pub finished : length (finished_in first) ≡ limits.dumps
  pub within : length first ≤ limits.turns
  pub lingered : length linger ≡ min limits.linger (limits.turns - length first)

-- all turns were taken, and fewer dumps were finished
pub record IsSpent (limits : ServeLimits) (happened : List (Option Turn)) : Type 0 where
  pub all : length happened ≡ limits.turns
  pub few : length (finished_in happened) < limits.dumps

-- With so many turns left dumps are still waited for, and not all are finished; or all were finished, and the turns that are
-- left are those that it still lingers.
pub record IsWaiting (limits : ServeLimits) (left : ℕ) (happened : List (Option Turn)) : Type 0 where
  pub few : AreFew limits.dumps happened
  pub fewer : length (finished_in happened) < limits.dumps
  pub turns : left + length happened ≡ limits.turns

pub record IsLingering (limits : ServeLimits) (left : ℕ) (happened : List (Option Turn)) : Type 0 where
  pub first : List (Option Turn)
  pub linger : List (Option Turn)
  pub is : happened ≡ first ++ linger
  pub few : AreFew limits.dumps first
  pub finished : length (finished_in first) ≡ limits.dumps
  pub within : length first ≤ limits.turns
  pub turns : left + length linger ≡ min limits.linger (limits.turns - length first)

-- turns are left, for dumps that are waited for or to linger
pub record IsGoing (limits : ServeLimits) (happened : List (Option Turn)) : Type 0 where
  pub left : ℕ
  pub some : 0 < left
  pub goes : IsWaiting limits left happened ⊎ IsLingering limits left happened

-- a turn was begun since serving wasn't over, and broken off
pub record IsEndedBy (limits : ServeLimits) (why : ServeFault) (happened : List (Option Turn)) (events : List PortsEvent) : Type 0 where
  pub before : List (Option Turn)
  pub going : IsGoing limits before
  pub broken : BreaksOff why before happened events

-- how serving ends that is done, and how it ends otherwise
abbrev pub EndsDone : ServeLimits → List (Option Turn) → List PortsEvent → Type 0
EndsDone limits happened events = (events ≡ events_of happened) × IsOver limits happened

abbrev pub EndsBy : ServeLimits → ServeFault → List (Option Turn) → List PortsEvent → Type 0
EndsBy limits (TurnsSpent n) happened events = (n ≡ limits.turns) × (events ≡ events_of happened) × IsSpent limits happened
EndsBy limits PortsFault happened events = IsEndedBy limits PortsFault happened events
EndsBy limits NoMemory happened events = IsEndedBy limits NoMemory happened events
