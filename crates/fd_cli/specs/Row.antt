-- What a call of the program is handed, what it adds to that, and what a command's row says of it.
use Rattle.std.specs.Prelude.{◌≡◌, ◌⊎◌, ℕ, ◌≤◌, Bool, false, ◌||◌, IsTrue, List, []}
use Rattle.std.specs.Bool.{OnFalse}
use Rattle.fd_site.specs.Contents.{with_entries}
use Rattle.fd_site.specs.Fault.{Rose}
use Rattle.fd_site.specs.Journal.{Entry}
use Rattle.fd_site.specs.Seen.{Frame, Seen, Watched}
use Rattle.fd_site.specs.Trace.{LinkEvent, PortsEvent, grown}
use Rattle.fd_cli.specs.declared.answer.Answer.{Answer}

-- what a command works on, as it is seen: the site, the link and the ports
pub record Reach : Type 0 where
  pub site : Seen
  pub link : Watched LinkEvent
  pub ports : Watched PortsEvent

abbrev pub reach : Seen → Watched LinkEvent → Watched PortsEvent → Reach
reach site link ports = record { site = site; link = link; ports = ports }

-- all that a call is handed, as it is seen: that, and the sink for its text
pub record Outside : Type 0 where
  pub reach : Reach
  pub sink : Watched ℕ

abbrev pub outside : Seen → Watched LinkEvent → Watched PortsEvent → Watched ℕ → Outside
outside site link ports sink = record { reach = reach site link ports; sink = sink }

-- What a call adds: entries to the site's journal, events to the link's trace and to the ports'. And whether the site failed
-- meanwhile, and the work went on.
pub record Added : Type 0 where
  pub entries : List Entry
  pub trace : List LinkEvent
  pub served : List PortsEvent
  pub spared : Bool

abbrev pub nothing : Added
nothing = record { entries = []; trace = []; served = []; spared = false }

-- entries of the journal alone
abbrev pub only : List Entry → Added
only entries = record { entries = entries; trace = []; served = []; spared = false }

-- the events of a link alone
abbrev pub on_link : List LinkEvent → Added
on_link trace = record { entries = []; trace = trace; served = []; spared = false }

-- what is told grew by this, and by nothing else; and the site failed where that is said
pub record Grew (old new : Reach) (added : Added) : Type 0 where
  pub site : new.site.told ≡ with_entries old.site.told added.entries
  pub link : new.link.told ≡ grown old.link.told added.trace
  pub ports : new.ports.told ≡ grown old.ports.told added.served
  pub spared : IsTrue added.spared → Rose old.site.faults new.site.faults

-- a command's whole work
pub record Work : Type 0 where
  pub answer : Answer
  pub added : Added

-- whose faults may end a command's work, beside the sink's; and whether it goes on after faults of the site
pub record Blamed : Type 0 where
  pub site : Bool
  pub link : Bool
  pub ports : Bool
  pub spares : Bool

-- one of these has failed
abbrev pub FaultRose : Blamed → (old new : Reach) → Type 0
FaultRose blamed old new =
    (IsTrue blamed.site × Rose old.site.faults new.site.faults)
    ⊎ ((IsTrue blamed.link × Rose old.link.faults new.link.faults) ⊎ (IsTrue blamed.ports × Rose old.ports.faults new.ports.faults))

-- what each call keeps: the site's sizes stay, no count of faults falls, and what is neither blamed nor spared has not failed
pub record Kept (blamed : Blamed) (old new : Reach) : Type 0 where
  pub site : Frame old.site new.site
  pub link : old.link.faults ≤ new.link.faults
  pub ports : old.ports.faults ≤ new.ports.faults
  pub quiet_site : OnFalse (blamed.site || blamed.spares) (new.site.faults ≡ old.site.faults)
  pub quiet_link : OnFalse blamed.link (new.link.faults ≡ old.link.faults)
  pub quiet_ports : OnFalse blamed.ports (new.ports.faults ≡ old.ports.faults)

-- What a command may do over the site that it finds. `Does` is its whole outcome, refusals too: the answer and what was
-- added, by one witness. Where it ends without an answer, `Leaves` is what it had added: after a fault of
-- what the row `blames`, or, for want of memory, `Starves`; and `Says` is the text that it had printed by then.
pub record Row : Type 1 where
  pub Does : Seen → Work → Type 0
  pub Leaves : Seen → Added → Type 0
  pub Starves : Seen → Added → Type 0
  pub Says : Seen → Added → List ℕ → Type 0
  pub blames : Blamed
