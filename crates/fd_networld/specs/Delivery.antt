-- One client, and servers over one site: what was carried between them, and what a client that is done may rely on.
use Rattle.std.specs.Prelude.{◌≡◌, ℕ, ◌≤◌, ◌^◌, IsTrue, List, [], ◌∷◌, ◌++◌, length, Some}
use Rattle.fd_site.specs.Contents.{Contents}
use Rattle.fd_site.specs.Cut.{stable_at, IsCutDirectory}
use Rattle.fd_site.specs.Journal.{Entry}
use Rattle.fd_site.specs.Trace.{LinkEvent, Opening, Sent, Got, Silent}
use Rattle.fd_site.specs.declared.ports.Peer.{Peer}
use Rattle.fd_kdh.specs.Header.{IsWithinFields, dump_header}
use Rattle.fd_kdh.specs.declared.header.Header.{Header}
use Rattle.fd_netmsg.specs.Each.{Each, OneOf}
use Rattle.fd_info.specs.Name.{info_name, vmcore_name}
use Rattle.fd_info.specs.Info.{info_text}
use Rattle.fd_netserver.specs.Files.{Files, device_name, parity_of}
use Rattle.fd_netserver.specs.Session.{Turn}
use Rattle.fd_netserver.specs.History.{answer, entries_in, IsFirstFinish}

-- a turn answered this peer with these bytes
pub record IsAnswer (peer : Peer) (bytes : List ℕ) (t : Turn) : Type 0 where
  pub peer_is : t.input.peer ≡ peer
  pub is : answer t.reply ≡ Some bytes

-- what was got and could be an acknowledgement was an answer to the peer
abbrev pub WasAnswered : Peer → List Turn → LinkEvent → Type 0
WasAnswered peer turns (Got port bytes) = length bytes ≡ 4 → OneOf (IsAnswer peer bytes) turns
WasAnswered peer turns (Opening server) = Unit {0}
WasAnswered peer turns (Sent port bytes) = Unit {0}
WasAnswered peer turns Silent = Unit {0}

-- these bytes were sent
abbrev pub IsSending : List ℕ → LinkEvent → Type 0
IsSending bytes (Sent port sent) = bytes ≡ sent
IsSending bytes (Opening server) = ⊥
IsSending bytes (Got port got) = ⊥
IsSending bytes Silent = ⊥

-- Nothing is forged: what the client got as acknowledgements was answered to this peer, and what came from this peer was
-- sent by the client. No order is said, no time, no port and no slot.
pub record IsCarried (peer : Peer) (trace : List LinkEvent) (turns : List Turn) : Type 0 where
  pub answers : Each (WasAnswered peer turns) trace
  pub inputs : Each (λ t. t.input.peer ≡ peer → OneOf (IsSending t.input.bytes) trace) turns

-- a dump that can be sent, with its header
pub record IsSendable (dump : List ℕ) (h : Header) : Type 0 where
  pub within : IsWithinFields h
  pub dumplength : h.dumplength ≡ length dump
  pub most : length dump ≤ 2 ^ 42

-- in a cut after k entries, both files of a number are stable and are these
pub record IsSavedAt (c : Contents) (k n : ℕ) (core info : List ℕ) : Type 0 where
  pub core_stable : IsTrue (stable_at (vmcore_name n) c.journal k)
  pub info_stable : IsTrue (stable_at (info_name n) c.journal k)
  pub core_is : (files : Files) → IsCutDirectory c k files → files (vmcore_name n) ≡ Some core
  pub info_is : (files : Files) → IsCutDirectory c k files → files (info_name n) ≡ Some info

-- A session of this peer was finished, and from the end of the first such call on its files are the dump and the
-- header's text. Before these turns the journal was as it says.
pub record IsDelivered (dump : List ℕ) (h : Header) (peer : Peer) (c : Contents) (before : List Entry) (turns : List Turn) : Type 0 where
  pub first : IsFirstFinish peer turns
  pub saved : (k : ℕ) → length (before ++ entries_in (first.earlier ++ first.turn ∷ [])) ≤ k
      → IsSavedAt c k first.finish.number dump (info_text h device_name (parity_of (dump_header h)) first.finish.number)
