-- Where a client stands in a trace, and what it wants there.
use Rattle.std.specs.Prelude.{◌≡◌, ℕ, zero, suc, pred, drop, List, [], ◌∷◌, ◌++◌, Option, Some, None}
use Rattle.fd_site.specs.Trace.{LinkEvent, Sent}
use Rattle.fd_kdh.specs.declared.header.Header.{Header}
use Rattle.fd_netclient.specs.declared.client.Want.{Want}
use Rattle.fd_netclient.specs.declared.client.Want.TheVariants as want
use Rattle.fd_netclient.specs.Datagram.{datagram, batches}
use Rattle.fd_netclient.specs.Trace.{Patience, Outcome, Done, TimedOut, acknowledged, without, IsPolled, IsClientRun, IsComplete, first_port, port_to}

-- a place in a batch: the session's port where it is known, the round's numbers that are still to be sent, the batch's
-- numbers that weren't acknowledged, the polls that the round still has, the rounds that the batch still has after it,
-- and the batches after it
pub record Place : Type 0 where
  pub session : Option ℕ
  pub unsent : List ℕ
  pub unacknowledged : List ℕ
  pub polls : ℕ
  pub rounds : ℕ
  pub later : List (List ℕ)

pub data State : Type 0 where
  At : Place → State
  Ended : (session : Option ℕ) (outcome : Outcome) → State

-- the start of a batch, or the end
abbrev pub next_batch : Patience → Option ℕ → List (List ℕ) → State
next_batch patience session [] = Ended session Done
next_batch patience session (u ∷ later) = At (record { session = session; unsent = u; unacknowledged = u; polls = patience.polls; rounds = patience.retries; later = later })

-- the next round, or the end
abbrev pub next_round : Patience → Option ℕ → ℕ → List ℕ → ℕ → List (List ℕ) → State
next_round patience session s u zero later = Ended session (TimedOut s)
next_round patience session s u (suc rounds) later = At (record { session = session; unsent = s ∷ u; unacknowledged = s ∷ u; polls = patience.polls; rounds = rounds; later = later })

-- a round whose datagrams were sent goes on where a number and a poll are left
abbrev pub polling : Patience → Option ℕ → List ℕ → ℕ → ℕ → List (List ℕ) → State
polling patience session [] polls rounds later = next_batch patience session later
polling patience session (s ∷ u) zero rounds later = next_round patience session s u rounds later
polling patience session (s ∷ u) (suc polls) rounds later = At (record { session = session; unsent = []; unacknowledged = s ∷ u; polls = suc polls; rounds = rounds; later = later })

-- the session after an event: the port of the herald's acknowledgement, if none was known
abbrev pub session_by : Option ℕ → LinkEvent → Option ℕ
session_by (Some port) e = Some port
session_by None e = first_port (e ∷ [])

-- after a datagram was sent, and after a poll
abbrev pub after_sent : Place → List ℕ → State
after_sent p unsent = At (record p { unsent = unsent })

abbrev pub after_poll : Patience → Place → LinkEvent → State
after_poll patience p e =
    polling patience (session_by p.session e) (without (acknowledged p.session e) p.unacknowledged) (pred p.polls) p.rounds p.later

-- what a client wants
abbrev pub want_at : List ℕ → Want
want_at [] = want.Poll
want_at (s ∷ unsent) = want.Send s

abbrev pub want_of : State → Want
want_of (At p) = want_at p.unsent
want_of (Ended session Done) = want.Done
want_of (Ended session (TimedOut s)) = want.TimedOut s

-- a datagram is wanted, of whichever number
abbrev pub IsSend : Want → Type 0
IsSend (want.Send s) = Unit {0}
IsSend want.Poll = ⊥
IsSend want.Done = ⊥
IsSend (want.TimedOut s) = ⊥

-- the port that a client's next datagram goes to
abbrev pub port_of : State → ℕ
port_of (At p) = port_to p.session
port_of (Ended session outcome) = port_to session

-- the state after a datagram was sent, and after a poll
abbrev pub on_sent : State → State
on_sent (At p) = after_sent p (drop 1 p.unsent)
on_sent (Ended session outcome) = Ended session outcome

abbrev pub on_poll : Patience → LinkEvent → State → State
on_poll patience e (At p) = after_poll patience p e
on_poll patience e (Ended session outcome) = Ended session outcome

-- the start of a client for so many chunks
abbrev pub start : Patience → ℕ → State
start patience count = next_batch patience None (batches count)

module _ (dump : List ℕ) (h : Header) (patience : Patience) where
  -- the next event is what is wanted, and the state after it
  abbrev pub IsNext : Place → List ℕ → LinkEvent → Type 0
  IsNext p [] e = IsPolled e
  IsNext p (s ∷ unsent) e = e ≡ Sent (port_to p.session) (datagram dump h s)

  abbrev pub step_at : Place → List ℕ → LinkEvent → State
  step_at p [] e = after_poll patience p e
  step_at p (s ∷ unsent) e = after_sent p unsent

  -- a trace from a state on to an outcome
  abbrev pub Goes : State → List LinkEvent → Outcome → Type 0
  Goes (Ended session outcome) trace end = (trace ≡ []) × (end ≡ outcome)
  Goes (At p) [] end = ⊥
  Goes (At p) (e ∷ trace) end = IsNext p p.unsent e × Goes (step_at p p.unsent e) trace end

  -- a trace from a state to a state
  abbrev pub Passes : State → List LinkEvent → State → Type 0
  Passes from [] to = from ≡ to
  Passes (Ended session outcome) (e ∷ trace) to = ⊥
  Passes (At p) (e ∷ trace) to = IsNext p p.unsent e × Passes (step_at p p.unsent e) trace to

-- a client: for how many chunks, its patience, and its state
pub record Standing : Type 0 where
  pub count : ℕ
  pub patience : Patience
  pub state : State

-- what comes next in a client run where this is wanted: the datagram of a number, to a port; whatever a poll brings; or
-- nothing, where the run is a complete trace with this outcome
abbrev pub ComesNext : (dump : List ℕ) (h : Header) → Patience → (trace : List LinkEvent) → (port : ℕ) → Want → Type 0
ComesNext dump h patience trace port (want.Send s) = IsClientRun dump h patience (trace ++ Sent port (datagram dump h s) ∷ [])
ComesNext dump h patience trace port want.Poll = (e : LinkEvent) → IsPolled e → IsClientRun dump h patience (trace ++ e ∷ [])
ComesNext dump h patience trace port want.Done = IsComplete dump h patience trace Done
ComesNext dump h patience trace port (want.TimedOut s) = IsComplete dump h patience trace (TimedOut s)
