-- What a server may have done, and what runs of servers over one site may have.
use Rattle.std.specs.Prelude.{◌≡◌, ◌⊎◌, ℕ, ◌==◌, map, filter, IsTrue, List, [], ◌∷◌, ◌++◌, Option, Some, None}
use Rattle.fd_site.specs.Begun.{IsBegun}
use Rattle.fd_site.specs.Journal.{Entry}
use Rattle.fd_netserver.specs.declared.reply.Reply.TheVariants.{Opened, Ack, Finished, Ignored}
use Rattle.fd_netserver.specs.declared.reply.Skip.TheVariants as skip
use Rattle.fd_site.specs.declared.ports.Peer.{Peer}
use Rattle.fd_netmsg.specs.Each.{Each}
use Rattle.fd_netmsg.specs.Message.{ack}
use Rattle.fd_netserver.specs.declared.reply.Reply.{Reply}
use Rattle.fd_netserver.specs.Files.{Files, AreApart, files_after}
use Rattle.fd_netserver.specs.Session.{Input, Turn, Session, after_reply}
use Rattle.fd_netserver.specs.Table.{Row, reply_of, entries_of, may_break, row_of}

-- the entries of turns
abbrev pub entries_in : List Turn → List Entry
entries_in [] = []
entries_in (t ∷ ts) = t.entries ++ entries_in ts

-- the turns of runs
abbrev pub all_turns : List (List Turn) → List Turn
all_turns [] = []
all_turns (run ∷ runs) = run ++ all_turns runs

-- the bytes that answer a datagram
abbrev pub answer : Reply → Option (List ℕ)
answer (Opened slot seqno number) = Some (ack seqno)
answer (Ack slot seqno) = Some (ack seqno)
answer (Finished seqno slot number size) = Some (ack seqno)
answer (Ignored why) = None

-- a session of this peer is finished
pub record IsFinishTo (peer : Peer) (t : Turn) : Type 0 where
  pub seqno : ℕ
  pub slot : ℕ
  pub number : ℕ
  pub size : ℕ
  pub reply : t.reply ≡ Finished seqno slot number size
  pub peer_is : t.input.peer ≡ peer

-- the first of these turns that finishes a session of this peer
pub record IsFirstFinish (peer : Peer) (turns : List Turn) : Type 0 where
  pub earlier : List Turn
  pub turn : Turn
  pub later : List Turn
  pub is : turns ≡ earlier ++ turn ∷ later
  pub none_before : Each (λ t. IsFinishTo peer t → ⊥) earlier
  pub finish : IsFinishTo peer turn

-- a row was done
pub record IsDone (row : Row) (t : Turn) : Type 0 where
  pub reply : t.reply ≡ reply_of row
  pub entries : t.entries ≡ entries_of row

-- a fault of the site broke it off
pub record IsBrokenOff (row : Row) (t : Turn) : Type 0 where
  pub may : IsTrue (may_break row)
  pub reply : t.reply ≡ Ignored skip.Broken
  pub entries : IsBegun (entries_of row) t.entries

abbrev pub IsTurn : List Session → Files → Turn → Type 0
IsTurn sessions files t = IsDone (row_of sessions files t.input) t ⊎ IsBrokenOff (row_of sessions files t.input) t

-- turns of one server, over a directory
abbrev pub IsServerRun : List Session → Files → List Turn → Type 0
IsServerRun sessions files [] = Unit {0}
IsServerRun sessions files (t ∷ ts) = IsTurn sessions files t × IsServerRun (after_reply sessions t.input t.reply) (files_after files t.entries) ts

-- servers over one directory, one after another, each from no session
abbrev pub AreServerRuns : Files → List (List Turn) → Type 0
AreServerRuns files [] = Unit {0}
AreServerRuns files (run ∷ runs) = IsServerRun [] files run × AreServerRuns (files_after files (entries_in run)) runs

-- the turns on a slot, their inputs and their replies
abbrev pub on_slot : ℕ → List Turn → List Turn
on_slot slot ts = filter (λ t. t.input.slot == slot) ts

abbrev pub inputs_of : List Turn → List Input
inputs_of ts = map (λ t. t.input) ts

abbrev pub replies_of : List Turn → List Reply
replies_of ts = map (λ t. t.reply) ts

-- what was answered wasn't that a fault broke the session
abbrev pub NoneBroken : List Turn → Type 0
NoneBroken ts = Each (λ t. t.reply ≡ Ignored skip.Broken → ⊥) ts

-- of a slot: a fault broke none of its turns, and a turn of another slot adds no entry on the files of a number
abbrev pub IsWhole : ℕ → Turn → Type 0
IsWhole slot t = t.input.slot ≡ slot → t.reply ≡ Ignored skip.Broken → ⊥

abbrev pub LeavesFiles : ℕ → ℕ → Turn → Type 0
LeavesFiles slot n t = (t.input.slot ≡ slot → ⊥) → AreApart n t.entries
