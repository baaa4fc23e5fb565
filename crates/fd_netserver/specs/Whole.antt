-- A message to a session, and a session that has all of its dump.
use Rattle.std.specs.Prelude.{◌≡◌, ℕ, true, List, Some}
use Rattle.fd_kdh.specs.declared.header.Header.{Header}
use Rattle.fd_netmsg.specs.Message.{Message, message_of}
use Rattle.fd_netserver.specs.Session.{Input, Session, accepted, is_whole, session_at}

-- a datagram is a message from the peer of its slot's session
pub record IsTo (sessions : List Session) (input : Input) (s : Session) (m : Message) : Type 0 where
  pub read : message_of input.bytes ≡ Some m
  pub slot : input.slot ≡ 0 → ⊥
  pub there : session_at sessions input.slot ≡ Some s
  pub peer : input.peer ≡ s.peer

-- its header was taken, and its pieces are whole for the header's length
pub record HasAll (s : Session) (bytes : List ℕ) (h : Header) : Type 0 where
  pub header : s.header ≡ Some bytes
  pub accepts : accepted bytes ≡ Some h
  pub whole : is_whole s.taken h.dumplength ≡ true
