-- What one turn makes of what happened so far, and how much longer a server serves after it.
use Rattle.std.specs.Prelude.{◌≡◌, ℕ, ◌≤◌, Bool, true, false, List, [], ◌∷◌, ◌++◌, Option}
use Rattle.fd_site.specs.Contents.{Told, file_of, with_entries}
use Rattle.fd_site.specs.Seen.{Seen}
use Rattle.fd_site.specs.Trace.{PortsEvent, grown}
use Rattle.fd_netserver.specs.History.{IsServerRun, entries_in}
use Rattle.fd_netserver.specs.Serving.{BreaksOff, IsDoneInPart, IsLingering, IsServedTo, IsUnbroken, IsWaiting, events_of, finished_in, input_event, turns_in}
use Rattle.fd_netserver.specs.Session.{Input, Turn, sessions_after}
use Rattle.fd_netserver.specs.Stands.{StandsFor}
use Rattle.fd_netserver.specs.declared.limits.Received.{Received}
use Rattle.fd_netserver.specs.declared.limits.ServeFault.{ServeFault}
use Rattle.fd_netserver.specs.declared.limits.ServeLimits.{ServeLimits}
use Rattle.fd_netserver.specs.declared.pace.Pace.{Pace}
use Rattle.fd_netserver.specs.declared.record.Record.{Record}

-- what happened since a server was made: its turns are a server run, and the site and the ports have just their entries
-- and events
pub record IsServed (old new : Seen) (seen now : Option (List PortsEvent)) (rs : List Record) (happened : List (Option Turn)) : Type 0 where
  pub run : Told old.told (λ c. IsServerRun [] (file_of c) (turns_in happened))
  pub entries : new.told ≡ with_entries old.told (entries_in (turns_in happened))
  pub count : old.faults ≤ new.faults
  pub unbroken : IsUnbroken old.faults new.faults happened
  pub events : now ≡ grown seen (events_of happened)
  pub stands : StandsFor rs (sessions_after [] (turns_in happened))

-- the ports were asked the first of these, and not all
pub record IsGrownInPart (was now : Option (List PortsEvent)) (asked : List PortsEvent) : Type 0 where
  pub given : List PortsEvent
  pub part : IsDoneInPart asked given
  pub grows : now ≡ grown was given

-- one turn more, and what it adds to the list
pub record IsServedMore (old new : Seen) (seen now : Option (List PortsEvent)) (rs : List Record) (before : List (Option Turn)) (was list : List Received) : Type 0 where
  pub last : Option Turn
  pub served : IsServed old new seen now rs (before ++ last ∷ [])
  pub listed : list ≡ was ++ finished_in (last ∷ [])

-- What an input that the ports gave makes of what happened so far: one turn more, or the turn is broken off.
abbrev pub GoesOn : (was new : Seen) (told later : Option (List PortsEvent)) (rs now : List Record) (input : Input) (before list : List Received) → Type 0
GoesOn was new told later rs now input before list =
    (old : Seen) (seen had : Option (List PortsEvent)) (hs : List (Option Turn))
    → IsServed old was seen had rs hs → told ≡ grown had (input_event input ∷ []) → IsServedMore old new seen later now hs before list

abbrev pub BreaksInput : (was new : Seen) (told later : Option (List PortsEvent)) (rs : List Record) (input : Input) (before list : List Received) → ServeFault → Type 0
BreaksInput was new told later rs input before list why =
    (old : Seen) (seen had : Option (List PortsEvent)) (hs : List (Option Turn))
    → IsServed old was seen had rs hs → told ≡ grown had (input_event input ∷ []) → before ≡ finished_in hs → IsServedTo (BreaksOff why hs) old new seen later list

-- The same of a turn, which begins with a look at the ports.
abbrev pub TurnsOn : (was new : Seen) (told later : Option (List PortsEvent)) (rs now : List Record) (before list : List Received) → Type 0
TurnsOn was new told later rs now before list =
    (old : Seen) (seen : Option (List PortsEvent)) (hs : List (Option Turn))
    → IsServed old was seen told rs hs → IsServedMore old new seen later now hs before list

abbrev pub BreaksTurn : (was new : Seen) (told later : Option (List PortsEvent)) (rs : List Record) (before list : List Received) → ServeFault → Type 0
BreaksTurn was new told later rs before list why =
    (old : Seen) (seen : Option (List PortsEvent)) (hs : List (Option Turn))
    → IsServed old was seen told rs hs → before ≡ finished_in hs → IsServedTo (BreaksOff why hs) old new seen later list

-- so many turns are left, and dumps are still waited for or were all finished
abbrev pub IsPacedBy : ServeLimits → (waits : Bool) (left : ℕ) → List (Option Turn) → Type 0
IsPacedBy limits true left happened = IsWaiting limits left happened
IsPacedBy limits false left happened = IsLingering limits left happened

abbrev pub IsPaced : ServeLimits → Pace → List (Option Turn) → Type 0
IsPaced limits pace happened = IsPacedBy limits pace.waits pace.left happened
