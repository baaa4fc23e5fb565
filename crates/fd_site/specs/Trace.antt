-- What was asked of a link and of a set of ports, in order. A call that failed added nothing.
use Rattle.std.specs.Prelude.{ℕ, ◌≤◌, List, ◌++◌, take, Option, Some, None}
use Rattle.fd_site.specs.declared.link.Polled.{Polled}
use Rattle.fd_site.specs.declared.link.Polled.TheVariants as polled
use Rattle.fd_site.specs.declared.ports.Peer.{Peer}
use Rattle.fd_site.specs.declared.ports.Taken as given
use Rattle.fd_site.specs.declared.ports.Taken.TheVariants as taken

-- of a link: it was opened to a server's IPv4 address, a datagram was sent to a port of the server, a poll got
-- one from a port of the server, or got none
pub data LinkEvent : Type 0 where
  Opening : (server : ℕ) → LinkEvent
  Sent : (port : ℕ) (bytes : List ℕ) → LinkEvent
  Got : (port : ℕ) (bytes : List ℕ) → LinkEvent
  Silent : LinkEvent

-- of a set of ports: it began to listen, a slot was opened, a datagram of a peer was taken from a slot, nothing
-- was taken, or a peer was answered from a slot
pub data PortsEvent : Type 0 where
  Listening : PortsEvent
  SlotOpened : (slot : ℕ) → PortsEvent
  Taken : (slot : ℕ) (peer : Peer) (bytes : List ℕ) → PortsEvent
  NoneTaken : PortsEvent
  Answered : (slot : ℕ) (peer : Peer) (bytes : List ℕ) → PortsEvent

-- what a poll that left these bytes adds
abbrev pub polled_event : Polled → List ℕ → LinkEvent
polled_event polled.Silent out = Silent
polled_event (polled.Got port len) out = Got port (take len out)

-- a poll gives at most 64 bytes
abbrev pub IsPolled : Polled → Type 0
IsPolled polled.Silent = Unit {0}
IsPolled (polled.Got port len) = len ≤ 64

-- what a look at the ports that left these bytes adds
abbrev pub taken_event : given.Taken → List ℕ → PortsEvent
taken_event taken.Silent out = NoneTaken
taken_event (taken.Got slot peer len) out = Taken slot peer (take len out)

-- a look at the ports gives at most 8192 bytes, of a slot up to 16
pub record IsGiven (slot len : ℕ) : Type 0 where
  pub low : slot ≤ 16
  pub short : len ≤ 8192

abbrev pub IsTaken : given.Taken → Type 0
IsTaken taken.Silent = Unit {0}
IsTaken (taken.Got slot peer len) = IsGiven slot len

-- what is told with these at its end: a trace of events, or a sink's bytes
abbrev pub grown : {A : Type 0} → Option (List A) → List A → Option (List A)
grown None more = None
grown (Some xs) more = Some (xs ++ more)
