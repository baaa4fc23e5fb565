-- The ports of a server in memory: what their script brings, and what was asked of them.
use Rattle.std.specs.Prelude.{◌≤◌, List, map, take}
use Rattle.fd_site.specs.Trace as trace
use Rattle.fd_fake.specs.declared.ports_event.PortsEvent.{PortsEvent}
use Rattle.fd_fake.specs.declared.ports_event.PortsEvent.TheVariants.{Listening, SlotOpened, Taken, NoneTaken, Answered}
use Rattle.fd_fake.specs.declared.mem_ports.Input.{Input}
use Rattle.fd_fake.specs.declared.mem_ports.Input.TheVariants as input

-- a look gives at most the first 8192 bytes of a datagram
abbrev pub brought : Input → trace.PortsEvent
brought input.Silent = trace.NoneTaken
brought (input.Datagram slot peer bytes) = trace.Taken slot peer (take 8192 bytes.items)

-- no datagram comes to a slot behind the last
abbrev pub HasSlot : Input → Type 0
HasSlot input.Silent = Unit {0}
HasSlot (input.Datagram slot peer bytes) = slot ≤ 16

abbrev pub event : PortsEvent → trace.PortsEvent
event Listening = trace.Listening
event (SlotOpened slot) = trace.SlotOpened slot
event (Taken slot peer bytes) = trace.Taken slot peer bytes.items
event NoneTaken = trace.NoneTaken
event (Answered slot peer bytes) = trace.Answered slot peer bytes

abbrev pub script_of : List Input → List trace.PortsEvent
script_of inputs = map brought inputs

abbrev pub events : List PortsEvent → List trace.PortsEvent
events es = map event es
