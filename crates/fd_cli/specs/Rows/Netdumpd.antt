-- `netdumpd DUMPS`: dumps of clients are received and saved.
use Rattle.std.specs.Prelude.{◌≡◌, ◌⊎◌, ℕ, Bool, true, false, IsTrue, List, [], ◌∷◌, Option, Some, None}
use Rattle.fd_site.specs.Contents.{Told, file_of}
use Rattle.fd_site.specs.Seen.{Seen}
use Rattle.fd_site.specs.Trace.{Listening, PortsEvent}
use Rattle.fd_netserver.specs.History.{IsServerRun, NoneBroken, entries_in}
use Rattle.fd_netserver.specs.Serving.{EndsBy, EndsDone, finished_in, turns_in}
use Rattle.fd_netserver.specs.Session.{Turn}
use Rattle.fd_netserver.specs.declared.limits.Received as session
use Rattle.fd_netserver.specs.declared.limits.ServeFault.TheVariants.{NoMemory, PortsFault, TurnsSpent}
use Rattle.fd_netserver.specs.declared.limits.ServeLimits.{ServeLimits}
use Rattle.fd_cli.specs.Row.{Added, Blamed, Row, Work, nothing}
use Rattle.fd_cli.specs.Rows.Common.{SaysNothing}
use Rattle.fd_cli.specs.declared.answer.Answer.TheVariants.{Received}

-- 100,000,000 turns at most, and 2000 after the last of the dumps
abbrev pub limits_of : (dumps : ℕ) → ServeLimits
limits_of dumps = record { dumps = dumps; turns = 100000000; linger = 2000 }

-- turns, silent ones too, that the ports had, and how their events ended
abbrev pub Ending : Type 1
Ending = List (Option Turn) → List PortsEvent → Type 0

-- The ports listened and then had these turns: a server run, which finished these sessions, in this order. Where a fault of
-- the site broke one off, that is said.
pub record Serves (ends : Ending) (found : Seen) (sessions : List session.Received) (added : Added) : Type 0 where
  pub happened : List (Option Turn)
  pub events : List PortsEvent
  pub spared : Bool
  pub run : Told found.told (λ c. IsServerRun [] (file_of c) (turns_in happened))
  pub unbroken : NoneBroken (turns_in happened) ⊎ IsTrue spared
  pub finished : sessions ≡ finished_in happened
  pub ended : ends happened events
  pub is : added ≡ record { entries = entries_in (turns_in happened); trace = []; served = Listening ∷ events; spared = spared }

-- all dumps were received
pub record ReceivesAll (dumps : ℕ) (found : Seen) (w : Work) : Type 0 where
  pub sessions : List session.Received
  pub serves : Serves (EndsDone (limits_of dumps)) found sessions w.added
  pub answer : w.answer ≡ Received sessions None

-- the turns were spent before
pub record SpendsTurns (dumps : ℕ) (found : Seen) (w : Work) : Type 0 where
  pub sessions : List session.Received
  pub turns : ℕ
  pub serves : Serves (EndsBy (limits_of dumps) (TurnsSpent turns)) found sessions w.added
  pub answer : w.answer ≡ Received sessions (Some turns)

-- nothing was added, or serving ended so
abbrev pub MayHaveServed : Ending → Seen → Added → Type 0
MayHaveServed ends found added = (added ≡ nothing) ⊎ ((sessions : List session.Received) × Serves ends found sessions added)

-- a fault of the ports may end it; it goes on after faults of the site
abbrev pub the_ports : Blamed
the_ports = record { site = false; link = false; ports = true; spares = true }

-- The row. It doesn't look at the partition.
abbrev pub netdumpd_row : (dumps : ℕ) → Row
netdumpd_row dumps = record {
  Does = λ found w. ReceivesAll dumps found w ⊎ SpendsTurns dumps found w;
  Leaves = MayHaveServed (EndsBy (limits_of dumps) PortsFault);
  Starves = MayHaveServed (EndsBy (limits_of dumps) NoMemory);
  Says = SaysNothing;
  blames = the_ports;
}
