-- What was sent in a world: datagrams by its client, and answers by its servers.
use Rattle.std.specs.Prelude.{ℕ, ◌+◌, ◌-◌, ◌^◌, min, List, ◌++◌, Option, Some, None}
use Rattle.std.specs.List.{filter_map, flat_map}
use Rattle.fd_site.specs.Trace.{LinkEvent, Opening, Sent, Got, Silent}
use Rattle.fd_site.specs.declared.ports.Peer.{Peer}
use Rattle.fd_netserver.specs.Session.{Input}
use Rattle.fd_netserver.specs.declared.reply.Reply.{Reply}
use Rattle.fd_netserver.specs.declared.reply.Reply.TheVariants.{Opened, Ack, Finished, Ignored}
use Rattle.fd_networld.specs.declared.answer.Answer.{Answer}

-- the client's address is 127.0.0.1, and its port 20024
abbrev pub client_peer : Peer
client_peer = record { address = 0x7f000001; port = 20024 }

-- the port that a slot answers from, where that is one
abbrev pub port_of_slot : ℕ → ℕ
port_of_slot slot = min (40000 + slot) (2 ^ 16 - 1)

-- what a client sent, of all that it did
abbrev pub datagram_of : LinkEvent → Option (List ℕ)
datagram_of (Sent port bytes) = Some bytes
datagram_of (Opening server) = None
datagram_of (Got port bytes) = None
datagram_of Silent = None

abbrev pub sent_in : List LinkEvent → List (List ℕ)
sent_in trace = filter_map datagram_of trace

-- what a server took, and its reply
pub record Exchange : Type 0 where
  pub input : Input
  pub reply : Reply

-- how it was answered
abbrev pub answer_to : Peer → Reply → Option Answer
answer_to peer (Opened slot seqno number) = Some (record { peer = peer; slot = slot; seqno = seqno })
answer_to peer (Ack slot seqno) = Some (record { peer = peer; slot = slot; seqno = seqno })
answer_to peer (Finished seqno slot number size) = Some (record { peer = peer; slot = slot; seqno = seqno })
answer_to peer (Ignored why) = None

abbrev pub answers_in : List Exchange → List Answer
answers_in exchanges = filter_map (λ x. answer_to x.input.peer x.reply) exchanges

-- what the servers of a world took and answered, server by server; the last of them is running
pub record AllRuns : Type 0 where
  pub earlier : List (List Exchange)
  pub run : List Exchange

-- the answers of all servers, in order
abbrev pub all_answers : AllRuns → List Answer
all_answers served = answers_in (flat_map (λ run. run) served.earlier ++ served.run)
