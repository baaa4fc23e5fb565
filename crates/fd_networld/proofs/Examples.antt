-- Small stories, computed: what can happen in them.
use Rattle.std.proofs.Common.{◌≡◌, ℕ, List, [], ◌∷◌, Some, refl}
use Rattle.fd_kdh.specs.declared.header.Header.{Header}
use Rattle.fd_netclient.specs.Datagram.{datagram}
use Rattle.fd_netclient.specs.Trace.{Patience}
use Rattle.fd_netclient.specs.declared.client.Want.TheVariants as want
use Rattle.fd_netmsg.specs.Message.{ack}
use Rattle.fd_netserver.specs.declared.reply.Reply.TheVariants.{Opened}
use Rattle.fd_netserver.specs.Stands.{TurnOf}
use Rattle.fd_site.specs.Trace.{LinkEvent, Sent, Got}
use Rattle.fd_networld.specs.Sent.{client_peer}
use Rattle.fd_networld.specs.World.{Story, Stays, Goes, Takes, answering, beginning, client_after, step_of}
use Rattle.fd_networld.specs.declared.event.Event.TheVariants.{Send, ToServer, ToClient, ClientSilent}

abbrev calm : Patience
calm = record { retries = 1; polls = 2 }

module _ (dump : List ℕ) (h : Header) where
  abbrev herald : LinkEvent
  herald = Sent 20023 (datagram dump h 1)

  -- a client for one chunk begins with its herald, and hears nothing before
  herald_first : step_of dump h (beginning 1 calm) Send ≡ Goes herald
  herald_first = refl

  no_poll_yet : step_of dump h (beginning 1 calm) ClientSilent ≡ Stays
  no_poll_yet = refl

  nothing_sent : step_of dump h (beginning 1 calm) (ToServer 0 0) ≡ Stays
  nothing_sent = refl

  -- after it
  abbrev after : Story
  after = record (beginning 1 calm) { client = client_after herald (beginning 1 calm).client; trace = herald ∷ [] }

  comes : step_of dump h after (ToServer 0 0) ≡ Takes (record { slot = 0; peer = client_peer; bytes = datagram dump h 1 })
  comes = refl

  no_such_slot : step_of dump h after (ToServer 17 0) ≡ Stays
  no_such_slot = refl

  no_second : step_of dump h after (ToServer 0 1) ≡ Stays
  no_second = refl

  no_answer : step_of dump h after (ToClient 0) ≡ Stays
  no_answer = refl

  -- and when a session was opened for it
  abbrev opened : Story
  opened = record after { run = TurnOf (record { slot = 0; peer = client_peer; bytes = datagram dump h 1 }) (Opened 1 1 0) [] ∷ [] }

  answered : step_of dump h opened (ToClient 0) ≡ Goes (Got 40001 (ack 1))
  answered = refl

-- an answer to another peer doesn't come to the client
to_another : (slot seqno port : ℕ) → answering (Some (record { peer = record { address = 1; port = port }; slot = slot; seqno = seqno })) want.Poll ≡ Stays
to_another slot seqno port = refl
