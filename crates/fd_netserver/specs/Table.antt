-- What a server does with a datagram: the first row that holds.
use Rattle.std.specs.Prelude.{ℕ, ◌+◌, ◌^◌, ◌==◌, nat_lt, nat_le, Bool, true, false, List, [], ◌∷◌, length, if◌then◌else◌, Option, Some, None}
use Rattle.fd_site.specs.Journal.{Entry, Create, Write}
use Rattle.fd_site.specs.declared.ports.Peer.{Peer}
use Rattle.fd_kdh.specs.declared.header.Header.{Header}
use Rattle.fd_netmsg.specs.Message.{Message, herald, finished, vmcore, kdh, key, message_of}
use Rattle.fd_info.specs.Name.{vmcore_name}
use Rattle.fd_netserver.specs.declared.reply.Reply.{Reply}
use Rattle.fd_netserver.specs.declared.reply.Reply.TheVariants.{Opened, Ack, Finished, Ignored}
use Rattle.fd_netserver.specs.declared.reply.Skip.{Skip}
use Rattle.fd_netserver.specs.declared.reply.Skip.TheVariants.{NotMessage, NotHerald, Full, NoNumber, NoSession, Stranger, Closed, NotHere, Key, TooFar, BadHeader, NotWhole}
use Rattle.fd_netserver.specs.declared.reply.Skip.TheVariants as skip
use Rattle.fd_netserver.specs.Files.{Files, end_of, free_number, parity_of}
use Rattle.fd_netserver.specs.Session.{Input, Piece, Phase, Open, Done, Broken, Session, same_peer, session_at, is_whole, accepted}

-- A row with what it needs. A datagram is ignored for a reason, or acknowledged again with no effect; it opens a session;
-- a session takes a piece or a header, or ends, by its header and the parity word that came with it.
pub data Row : Type 0 where
  Skips : (why : Skip) → Row
  Repeats : (slot seqno : ℕ) → Row
  Opens : (slot seqno number : ℕ) → Row
  Writes : (slot seqno number : ℕ) (piece : Piece) → Row
  Keeps : (slot seqno : ℕ) → Row
  Ends : (slot seqno number : ℕ) (header : Header) (parity : ℕ) → Row

abbrev pub reply_of : Row → Reply
reply_of (Skips why) = Ignored why
reply_of (Repeats slot seqno) = Ack slot seqno
reply_of (Opens slot seqno number) = Opened slot seqno number
reply_of (Writes slot seqno number piece) = Ack slot seqno
reply_of (Keeps slot seqno) = Ack slot seqno
reply_of (Ends slot seqno number header parity) = Finished seqno slot number header.dumplength

-- what a row adds to the journal
abbrev pub entries_of : Row → List Entry
entries_of (Skips why) = []
entries_of (Repeats slot seqno) = []
entries_of (Opens slot seqno number) = Create (vmcore_name number) ∷ []
entries_of (Writes slot seqno number piece) = Write (vmcore_name number) piece.at piece.bytes ∷ []
entries_of (Keeps slot seqno) = []
entries_of (Ends slot seqno number header parity) = end_of number header parity

-- whether a fault of the site can break a row off
abbrev pub may_break : Row → Bool
may_break (Skips NoNumber) = true
may_break (Opens slot seqno number) = true
may_break (Writes slot seqno number piece) = true
may_break (Ends slot seqno number header parity) = true
may_break row = false

-- open, and nothing taken
abbrev pub is_empty : Phase → List Piece → Option (List ℕ) → Bool
is_empty Open [] None = true
is_empty phase taken header = false

-- the slot of the peer's latest session, where that is open and empty
abbrev pub waiting : Peer → ℕ → Option ℕ → List Session → Option ℕ
waiting peer slot found [] = found
waiting peer slot found (s ∷ ss) =
    waiting peer (slot + 1) (if same_peer peer s.peer then (if is_empty s.phase s.taken s.header then Some slot else None) else found) ss

-- at the herald's port
abbrev pub numbered : Option ℕ → ℕ → ℕ → Row
numbered None slot seqno = Skips NoNumber
numbered (Some number) slot seqno = Opens slot seqno number

abbrev pub herald_again : Option ℕ → List Session → Files → ℕ → Row
herald_again (Some slot) sessions files seqno = Repeats slot seqno
herald_again None sessions files seqno = if nat_le 16 (length sessions) then Skips Full else numbered (free_number files) (length sessions + 1) seqno

abbrev pub herald_row : List Session → Files → Peer → Message → Row
herald_row sessions files peer m = if m.kind == herald then herald_again (waiting peer 1 None sessions) sessions files m.seqno else Skips NotHerald

-- at a session's port
abbrev pub piece_row : ℕ → ℕ → ℕ → ℕ → List ℕ → Row
piece_row slot seqno number at [] = Repeats slot seqno
piece_row slot seqno number at (b ∷ bs) = Writes slot seqno number (record { at = at; bytes = b ∷ bs })

abbrev pub header_row : ℕ → ℕ → Option Header → Row
header_row slot seqno None = Skips BadHeader
header_row slot seqno (Some h) = Keeps slot seqno

abbrev pub ending : ℕ → ℕ → Session → List ℕ → Option Header → Row
ending slot seqno s header None = Skips NotWhole
ending slot seqno s header (Some h) = if is_whole s.taken h.dumplength then Ends slot seqno s.number h (parity_of header) else Skips NotWhole

abbrev pub end_row : ℕ → ℕ → Session → Option (List ℕ) → Row
end_row slot seqno s None = Skips NotWhole
end_row slot seqno s (Some header) = ending slot seqno s header (accepted header)

abbrev pub open_row : ℕ → Message → Session → Row
open_row slot m s =
    if m.kind == vmcore then (if nat_lt (2 ^ 40) (m.offset + length m.body) then Skips TooFar else piece_row slot m.seqno s.number m.offset m.body)
    else (if m.kind == kdh then header_row slot m.seqno (accepted m.body)
    else end_row slot m.seqno s s.header)

abbrev pub done_row : ℕ → Message → Row
done_row slot m = if m.kind == finished then Repeats slot m.seqno else Skips Closed

abbrev pub live_row : ℕ → Message → Row → Row
live_row slot m row = if m.kind == herald then Skips NotHere else (if m.kind == key then Skips Key else row)

abbrev pub phase_row : Phase → ℕ → Message → Session → Row
phase_row Broken slot m s = Skips skip.Broken
phase_row Done slot m s = live_row slot m (done_row slot m)
phase_row Open slot m s = live_row slot m (open_row slot m s)

abbrev pub session_row : ℕ → Peer → Message → Option Session → Row
session_row slot peer m None = Skips NoSession
session_row slot peer m (Some s) = if same_peer peer s.peer then phase_row s.phase slot m s else Skips Stranger

abbrev pub message_row : List Session → Files → Input → Option Message → Row
message_row sessions files input None = Skips NotMessage
message_row sessions files input (Some m) =
    if input.slot == 0 then herald_row sessions files input.peer m
    else session_row input.slot input.peer m (session_at sessions input.slot)

-- the first row that holds
unfoldable pub row_of : List Session → Files → Input → Row
row_of sessions files input = message_row sessions files input (message_of input.bytes)
