-- What a history of inputs and replies says of its sessions.
use Rattle.std.specs.Prelude.{ℕ, zero, suc, ◌+◌, ◌-◌, ◌^◌, ◌==◌, nat_lt, nat_le, Bool, true, false, ◌&&◌, ◌||◌, is_some}
use Rattle.std.specs.Prelude.{List, [], ◌∷◌, ◌++◌, length, if◌then◌else◌, Option, Some, None, Result, Ok, Err}
use Rattle.fd_bytes.specs.Arch.{arch_of_header}
use Rattle.fd_cover.specs.Intervals.{is_between}
use Rattle.fd_site.specs.Journal.{Entry, file_written}
use Rattle.fd_site.specs.declared.ports.Peer.{Peer}
use Rattle.fd_kdh.specs.Header.{decoded}
use Rattle.fd_kdh.specs.declared.header.Header.{Header}
use Rattle.fd_kdh.specs.declared.header.HeaderFault.{HeaderFault}
use Rattle.fd_netmsg.specs.Message.{Message, vmcore, kdh, message_of}
pub use Rattle.fd_netserver.specs.declared.phase.Phase.{Phase}
pub use Rattle.fd_netserver.specs.declared.phase.Phase.TheVariants.{Open, Done, Broken}
use Rattle.fd_netserver.specs.declared.reply.Reply.{Reply}
use Rattle.fd_netserver.specs.declared.reply.Reply.TheVariants.{Opened, Ack, Finished, Ignored}
use Rattle.fd_netserver.specs.declared.reply.Skip.TheVariants as skip

-- one datagram
pub record Input : Type 0 where
  pub slot : ℕ
  pub peer : Peer
  pub bytes : List ℕ

-- one datagram, its reply, and the journal entries that its call added
pub record Turn : Type 0 where
  pub input : Input
  pub reply : Reply
  pub entries : List Entry

-- bytes of a dump, and where they belong
pub record Piece : Type 0 where
  pub at : ℕ
  pub bytes : List ℕ

-- a session: its peer, the number of its files, the pieces that were acknowledged, in order, and the bytes of the
-- header that was acknowledged last
pub record Session : Type 0 where
  pub peer : Peer
  pub number : ℕ
  pub taken : List Piece
  pub header : Option (List ℕ)
  pub phase : Phase

abbrev pub same_peer : Peer → Peer → Bool
same_peer a b = (a.address == b.address) && (a.port == b.port)

abbrev pub opened : Peer → ℕ → Phase → Session
opened peer number phase = record { peer = peer; number = number; taken = []; header = None; phase = phase }

-- the session of a slot; slots count from 1
abbrev pub nth : List Session → ℕ → Option Session
nth [] k = None
nth (s ∷ ss) zero = Some s
nth (s ∷ ss) (suc k) = nth ss k

abbrev pub session_at : List Session → ℕ → Option Session
session_at sessions slot = nth sessions (slot - 1)

abbrev pub change_nth : (Session → Session) → List Session → ℕ → List Session
change_nth f [] k = []
change_nth f (s ∷ ss) zero = f s ∷ ss
change_nth f (s ∷ ss) (suc k) = s ∷ change_nth f ss k

abbrev pub change_at : (Session → Session) → List Session → ℕ → List Session
change_at f sessions slot = change_nth f sessions (slot - 1)

abbrev pub with_phase : Phase → Session → Session
with_phase phase s = record s { phase = phase }

-- what an acknowledged message tells a session: a piece, if it has bytes, or a header
abbrev pub with_piece : ℕ → List ℕ → Session → Session
with_piece at [] s = s
with_piece at (b ∷ bs) s = record s { taken = s.taken ++ record { at = at; bytes = b ∷ bs } ∷ [] }

abbrev pub told : Option Message → Session → Session
told None s = s
told (Some m) s =
    if m.kind == vmcore then with_piece m.offset m.body s
    else (if m.kind == kdh then record s { header = Some m.body } else s)

-- the sessions after a reply
abbrev pub after_reply : List Session → Input → Reply → List Session
after_reply sessions input (Opened slot seqno number) = sessions ++ opened input.peer number Open ∷ []
after_reply sessions input (Ack slot seqno) = if input.slot == 0 then sessions else change_at (told (message_of input.bytes)) sessions input.slot
after_reply sessions input (Finished seqno slot number size) = change_at (with_phase Done) sessions input.slot
after_reply sessions input (Ignored skip.Broken) = if input.slot == 0 then sessions ++ opened input.peer 0 Broken ∷ [] else change_at (with_phase Broken) sessions input.slot
after_reply sessions input (Ignored why) = sessions

abbrev pub sessions_after : List Session → List Turn → List Session
sessions_after sessions [] = sessions
sessions_after sessions (t ∷ ts) = sessions_after (after_reply sessions t.input t.reply) ts

-- the file of pieces: they are written in order
abbrev pub written_all : List ℕ → List Piece → List ℕ
written_all file [] = file
written_all file (p ∷ ps) = written_all (file_written file p.at p.bytes) ps

abbrev pub file_taken : Session → List ℕ
file_taken s = written_all [] s.taken

-- the cover: the offsets of the bytes that were taken
abbrev pub is_in : Piece → ℕ → Bool
is_in p i = is_between p.at (p.at + length p.bytes) i

abbrev pub covers : List Piece → ℕ → Bool
covers [] i = false
covers (p ∷ ps) i = is_in p i || covers ps i

abbrev pub each_below : (ℕ → Bool) → ℕ → Bool
each_below f zero = true
each_below f (suc n) = f n && each_below f n

abbrev pub all_within : List Piece → ℕ → Bool
all_within [] len = true
all_within (p ∷ ps) len = nat_le (p.at + length p.bytes) len && all_within ps len

-- just the numbers below len are in the cover
unfoldable pub is_whole : List Piece → ℕ → Bool
is_whole pieces len = all_within pieces len && each_below (covers pieces) len

-- the header that a server takes from a body
abbrev pub is_plain : Header → Bool
is_plain h =
    (h.compression == 0)
    && ((h.dumpkeysize == 0)
    && (is_some (arch_of_header h.architecture h.architectureversion)
    && ((h.dumplength == h.dumpextent)
    && (nat_lt 0 h.dumplength
    && nat_le h.dumplength (2 ^ 40)))))

abbrev pub if_plain : Result Header HeaderFault → Option Header
if_plain (Err why) = None
if_plain (Ok h) = if is_plain h then Some h else None

unfoldable pub accepted : List ℕ → Option Header
accepted body = if length body == 512 then if_plain (decoded body) else None
