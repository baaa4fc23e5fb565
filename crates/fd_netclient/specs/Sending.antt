-- What sending a dump adds to what a link tells.
use Rattle.std.specs.Prelude.{◌≡◌, ℕ, ◌+◌, List, [], ◌∷◌, Option, Result, Ok, Err}
use Rattle.fd_site.specs.Trace.{LinkEvent, grown}
use Rattle.fd_kdh.specs.declared.header.Header.{Header}
use Rattle.fd_netclient.specs.declared.fault.ClientFault.{ClientFault}
use Rattle.fd_netclient.specs.declared.fault.ClientFault.TheVariants as fault
use Rattle.fd_netclient.specs.Datagram.{chunks}
use Rattle.fd_netclient.specs.Machine.{Passes, Standing}
use Rattle.fd_netclient.specs.Trace.{Patience, Outcome, Done, TimedOut, IsClientRun, IsComplete}

-- what is told grew by a trace of which P holds
abbrev pub Grows : (List LinkEvent → Type 0) → (old new : Option (List LinkEvent)) → Type 0
Grows P old new = (trace : List LinkEvent) × P trace × (new ≡ grown old trace)

-- a client run that isn't complete
pub record IsUnfinished (dump : List ℕ) (h : Header) (patience : Patience) (trace : List LinkEvent) : Type 0 where
  pub run : IsClientRun dump h patience trace
  pub unfinished : (outcome : Outcome) → IsComplete dump h patience trace outcome → ⊥

-- the trace of a sending, by what it answers: a complete one that is done, and the last number; a complete one that timed
-- out at this number; or a client run that the link's fault broke off
abbrev pub IsSending : (dump : List ℕ) (h : Header) → Patience → Result ℕ ClientFault → List LinkEvent → Type 0
IsSending dump h patience (Ok last) trace = (last ≡ chunks dump + 3) × IsComplete dump h patience trace Done
IsSending dump h patience (Err (fault.TimedOut s)) trace = IsComplete dump h patience trace (TimedOut s)
IsSending dump h patience (Err fault.LinkFault) trace = IsUnfinished dump h patience trace

-- one event was added to what is told, and took the client on
pub record IsStep (dump : List ℕ) (h : Header) (old new : Option (List LinkEvent)) (was now : Standing) : Type 0 where
  pub event : LinkEvent
  pub told : new ≡ grown old (event ∷ [])
  pub passes : Passes dump h was.patience was.state (event ∷ []) now.state
  pub patience : now.patience ≡ was.patience
