-- A world of events: one client, servers over one site, one after another, and a network that delivers what it is told to.
use Rattle.std.specs.Prelude.{◌≡◌, ◌⊎◌, ℕ, nat_le, Bool, true, false, true, List, [], ◌∷◌, ◌++◌, map, slice_get, if◌then◌else◌, Option, Some, None}
use Rattle.fd_fake.specs.Calls.{no_calls}
use Rattle.fd_fake.specs.Disk.{contents_of}
use Rattle.fd_fake.specs.MemSite.{SiteInMemory}
use Rattle.fd_kdh.specs.declared.header.Header.{Header}
use Rattle.fd_netclient.specs.Datagram.{datagram}
use Rattle.fd_netclient.specs.Machine.{Standing, State, on_poll, on_sent, port_of, start, want_of}
use Rattle.fd_netclient.specs.Trace.{Patience}
use Rattle.fd_netclient.specs.declared.client.Want.{Want}
use Rattle.fd_netclient.specs.declared.client.Want.TheVariants as want
use Rattle.fd_netmsg.specs.Each.{Each}
use Rattle.fd_netmsg.specs.Message.{ack}
use Rattle.fd_netserver.specs.History.{IsTurn}
use Rattle.fd_netserver.specs.Session.{Input, Session, Turn, same_peer, session_at, sessions_after}
use Rattle.fd_netserver.specs.Stands.{StandsFor}
use Rattle.fd_netserver.specs.declared.phase.Phase.TheVariants.{Broken}
use Rattle.fd_netserver.specs.declared.reply.Reply.TheVariants.{Ignored}
use Rattle.fd_netserver.specs.declared.reply.Skip.TheVariants as skip
use Rattle.fd_site.specs.Contents.{file_of, with_entries}
use Rattle.fd_site.specs.Trace.{LinkEvent, Opening, Sent, Got, Silent}
use Rattle.fd_site.specs.declared.ports.Peer.{Peer}
use Rattle.fd_networld.specs.Sent.{Exchange, AllRuns, all_answers, client_peer, port_of_slot, sent_in}
use Rattle.fd_networld.specs.Watched.{HasFailed, IsCalm}
use Rattle.fd_networld.specs.declared.answer.Answer.{Answer}
use Rattle.fd_networld.specs.declared.event.Event.{Event}
use Rattle.fd_networld.specs.declared.event.Event.TheVariants.{Send, ToServer, ToClient, Stranger, ClientSilent, ServerSilent, SiteFails, Restart}
use Rattle.fd_networld.specs.declared.world.World.{World}

-- A world so far: its client and what that sent, got and found silent; its site, and whether that waits for a call to
-- fail; and the turns of its servers, one list for each, with the entries that each turn added to the site's journal. The
-- last server is running.
pub record Story : Type 0 where
  pub client : Standing
  pub site : SiteInMemory
  pub waiting : Bool
  pub trace : List LinkEvent
  pub earlier : List (List Turn)
  pub run : List Turn

-- the turns of all servers
abbrev pub runs_of : Story → List (List Turn)
runs_of story = story.earlier ++ story.run ∷ []

-- what was taken and answered in a story
abbrev pub exchange_of : Turn → Exchange
exchange_of t = record { input = t.input; reply = t.reply }

abbrev pub exchanges_of : List Turn → List Exchange
exchanges_of ts = map exchange_of ts

abbrev pub served_in : Story → AllRuns
served_in story = record { earlier = map exchanges_of story.earlier; run = exchanges_of story.run }

-- What an event comes to: nothing; the client sends, or its poll is over; the server takes a datagram; the site's next
-- call will fail; a server begins with no session, over the same files.
pub data Step : Type 0 where
  Stays : Step
  Goes : LinkEvent → Step
  Takes : Input → Step
  WillFail : Step
  Begins : Step

-- a client that wants to send sends; one that wants a poll may hear this
abbrev pub sending : List ℕ → Header → ℕ → Want → Step
sending dump h port (want.Send s) = Goes (Sent port (datagram dump h s))
sending dump h port want.Poll = Stays
sending dump h port want.Done = Stays
sending dump h port (want.TimedOut s) = Stays

abbrev pub hearing : LinkEvent → Want → Step
hearing e want.Poll = Goes e
hearing e (want.Send s) = Stays
hearing e want.Done = Stays
hearing e (want.TimedOut s) = Stays

-- an answer that was sent comes to the client, if it went to the client's peer
abbrev pub answering : Option Answer → Want → Step
answering None w = Stays
answering (Some a) w = if same_peer a.peer client_peer then hearing (Got (port_of_slot a.slot) (ack a.seqno)) w else Stays

-- a datagram comes to a slot
abbrev pub arriving : ℕ → Peer → Option (List ℕ) → Step
arriving slot peer None = Stays
arriving slot peer (Some bytes) = if nat_le slot 16 then Takes (record { slot = slot; peer = peer; bytes = bytes }) else Stays

-- what can happen now: an event that can't comes to nothing
abbrev pub step_of : List ℕ → Header → Story → Event → Step
step_of dump h story Send = sending dump h (port_of story.client.state) (want_of story.client.state)
step_of dump h story (ToServer slot nth) = arriving slot client_peer (slice_get (sent_in story.trace) nth)
step_of dump h story (ToClient nth) = answering (slice_get (all_answers (served_in story)) nth) (want_of story.client.state)
step_of dump h story (Stranger slot peer bytes) = arriving slot peer (Some bytes)
step_of dump h story ClientSilent = hearing Silent (want_of story.client.state)
step_of dump h story ServerSilent = Stays
step_of dump h story SiteFails = WillFail
step_of dump h story Restart = Begins

-- a client after it sent, and after a poll
abbrev pub state_after : Patience → LinkEvent → State → State
state_after patience (Sent port bytes) state = on_sent state
state_after patience (Got port bytes) state = on_poll patience (Got port bytes) state
state_after patience Silent state = on_poll patience Silent state
state_after patience (Opening server) state = state

abbrev pub client_after : LinkEvent → Standing → Standing
client_after e client = record client { state = state_after client.patience e client.state }

-- the next call on a site fails
abbrev pub failing : SiteInMemory → SiteInMemory
failing site = record site { calls = record site.calls { next = true } }

-- the session of a slot was broken
pub record WasBroken (sessions : List Session) (slot : ℕ) : Type 0 where
  pub session : Session
  pub there : session_at sessions slot ≡ Some session
  pub broken : session.phase ≡ Broken

-- The server takes an input: a turn of its run, over the files as they are, which adds its entries to the journal. It is
-- answered that the session is broken only where a call failed that was waited for, and is no longer; or where the session
-- was broken before.
pub record IsTaken (input : Input) (was now : Story) : Type 0 where
  pub turn : Turn
  pub site : SiteInMemory
  pub waiting : Bool
  pub is : now ≡ record was { site = site; waiting = waiting; run = was.run ++ turn ∷ [] }
  pub input_is : turn.input ≡ input
  pub is_turn : IsTurn (sessions_after [] was.run) (file_of (contents_of was.site.disk)) turn
  pub journal : Some (contents_of site.disk) ≡ with_entries (Some (contents_of was.site.disk)) turn.entries
  pub block : site.block ≡ was.site.block
  pub calm : IsCalm site.calls waiting
  pub still : waiting ≡ true → was.waiting ≡ true
  pub cause : turn.reply ≡ Ignored skip.Broken → HasFailed was.waiting waiting ⊎ WasBroken (sessions_after [] was.run) input.slot

-- what a step makes of a story
abbrev pub Does : Step → Story → Story → Type 0
Does Stays was now = now ≡ was
Does (Goes e) was now = now ≡ record was { client = client_after e was.client; trace = was.trace ++ e ∷ [] }
Does (Takes input) was now = IsTaken input was now
Does WillFail was now = now ≡ record was { site = failing was.site; waiting = true }
Does Begins was now = now ≡ record was { earlier = was.earlier ++ was.run ∷ []; run = [] }

-- what events make of a story, one after another
abbrev pub Follows : List ℕ → Header → Story → List Event → Story → Type 0
Follows dump h was [] now = now ≡ was
Follows dump h was (event ∷ events) now = (next : Story) × Does (step_of dump h was event) was next × Follows dump h next events now

-- before any event: a client that has done nothing, a server without sessions, a site without files or entries
abbrev pub beginning : ℕ → Patience → Story
beginning count patience = record {
  client = record { count = count; patience = patience; state = start patience count };
  site = record { disk = record { base_part = []; base_files = []; journal = [] }; block = 512; calls = no_calls [] };
  waiting = false;
  trace = [];
  earlier = [];
  run = [];
}

-- a world as the code has it is the end of a story: the records of its server stand for the sessions of the last run
pub record Shows (story : Story) (w : World) : Type 0 where
  pub client : w.client ≡ story.client
  pub site : w.site ≡ story.site
  pub waiting : w.waiting ≡ story.waiting
  pub trace : w.trace ≡ story.trace
  pub runs : w.runs ≡ served_in story
  pub server : StandsFor w.server (sessions_after [] story.run)

-- no datagram of a stranger comes from the client's peer
abbrev pub IsForeign : Event → Type 0
IsForeign (Stranger slot peer bytes) = peer ≡ client_peer → ⊥
IsForeign Send = Unit {0}
IsForeign (ToServer slot nth) = Unit {0}
IsForeign (ToClient nth) = Unit {0}
IsForeign ClientSilent = Unit {0}
IsForeign ServerSilent = Unit {0}
IsForeign SiteFails = Unit {0}
IsForeign Restart = Unit {0}

abbrev pub AreForeign : List Event → Type 0
AreForeign events = Each IsForeign events
