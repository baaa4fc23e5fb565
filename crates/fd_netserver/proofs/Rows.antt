-- What is known where a row holds.
use Rattle.std.proofs.Common.{◌≡◌, inl, inr, ◌⊎◌, ℕ, ◌+◌, true, ◌==◌, nat_lt, nat_le, List, [], ◌∷◌, length, Option, Some, None, refl, eqb-true, ◌^◌}
use Rattle.std.proofs.lemmas.Bool.{cond_both, and_parts, eqb-false}
use Rattle.fd_site.specs.declared.ports.Peer.{Peer}
use Rattle.fd_kdh.specs.declared.header.Header.{Header}
use Rattle.fd_netmsg.specs.Message.{Message, herald, finished, vmcore, kdh, key, message_of}
use Rattle.fd_netserver.specs.Files.{Files, free_number, parity_of}
use Rattle.fd_netserver.specs.Session.{Input, Piece, Phase, Open, Done, Broken, Session, same_peer, session_at, is_whole, accepted}
use Rattle.fd_netserver.specs.Table.{Row, Skips, Repeats, Opens, Writes, Keeps, Ends, waiting, numbered, herald_again, herald_row, piece_row}
use Rattle.fd_netserver.specs.Table.{header_row, ending, end_row, open_row, done_row, live_row, phase_row, session_row, message_row, row_of}

pub same_peer-true : (a b : Peer) → same_peer a b ≡ true → a ≡ b
same_peer-true a b is =
    let parts = and_parts (a.address == b.address) (a.port == b.port) is in
    let address = eqb-true a.address b.address parts.0 in
    let port = eqb-true a.port b.port parts.1 in
    λ i. record { address = address i; port = port i }

-- a message came to the session of its slot and peer
pub record IsAt (sessions : List Session) (input : Input) (s : Session) : Type 0 where
  pub slot : input.slot ≡ 0 → ⊥
  pub there : session_at sessions input.slot ≡ Some s
  pub peer : input.peer ≡ s.peer

-- why an acknowledgement changes nothing
pub record IsEndAgain (sessions : List Session) (input : Input) (m : Message) : Type 0 where
  pub s : Session
  pub at : IsAt sessions input s
  pub done : s.phase ≡ Done
  pub kind : m.kind ≡ finished

pub record IsEmptyPiece (m : Message) : Type 0 where
  pub kind : m.kind ≡ vmcore
  pub body : m.body ≡ []

pub record IsRepeat (sessions : List Session) (input : Input) (seqno : ℕ) : Type 0 where
  pub m : Message
  pub is_read : message_of input.bytes ≡ Some m
  pub number : seqno ≡ m.seqno
  pub why : ((input.slot ≡ 0) × (m.kind ≡ herald)) ⊎ (IsEndAgain sessions input m ⊎ IsEmptyPiece m)

pub record IsOpening (files : Files) (input : Input) (seqno number : ℕ) : Type 0 where
  pub m : Message
  pub is_read : message_of input.bytes ≡ Some m
  pub seq : seqno ≡ m.seqno
  pub slot : input.slot ≡ 0
  pub kind : m.kind ≡ herald
  pub free : free_number files ≡ Some number

pub record IsWriting (sessions : List Session) (input : Input) (seqno number : ℕ) (piece : Piece) : Type 0 where
  pub m : Message
  pub is_read : message_of input.bytes ≡ Some m
  pub seq : seqno ≡ m.seqno
  pub s : Session
  pub at : IsAt sessions input s
  pub open_ : s.phase ≡ Open
  pub number_is : number ≡ s.number
  pub kind : m.kind ≡ vmcore
  pub body : m.body ≡ piece.bytes
  pub offset : m.offset ≡ piece.at
  pub some : piece.bytes ≡ [] → ⊥

pub record IsKeeping (sessions : List Session) (input : Input) (seqno : ℕ) : Type 0 where
  pub m : Message
  pub is_read : message_of input.bytes ≡ Some m
  pub seq : seqno ≡ m.seqno
  pub s : Session
  pub at : IsAt sessions input s
  pub open_ : s.phase ≡ Open
  pub kind : m.kind ≡ kdh

pub record IsEnding (sessions : List Session) (input : Input) (seqno number : ℕ) (header : Header) (parity : ℕ) : Type 0 where
  pub m : Message
  pub is_read : message_of input.bytes ≡ Some m
  pub seq : seqno ≡ m.seqno
  pub s : Session
  pub at : IsAt sessions input s
  pub open_ : s.phase ≡ Open
  pub number_is : number ≡ s.number
  pub bytes : List ℕ
  pub bytes_are : s.header ≡ Some bytes
  pub accepts : accepted bytes ≡ Some header
  pub parity_is : parity ≡ parity_of bytes
  pub whole : is_whole s.taken header.dumplength ≡ true

abbrev pub FactsOf : List Session → Files → Input → Row → Type 0
FactsOf sessions files input (Skips why) = Unit {0}
FactsOf sessions files input (Repeats slot seqno) = IsRepeat sessions input seqno
FactsOf sessions files input (Opens slot seqno number) = IsOpening files input seqno number
FactsOf sessions files input (Writes slot seqno number piece) = IsWriting sessions input seqno number piece
FactsOf sessions files input (Keeps slot seqno) = IsKeeping sessions input seqno
FactsOf sessions files input (Ends slot seqno number header parity) = IsEnding sessions input seqno number header parity

module _ (sessions : List Session) (files : Files) (input : Input) (m : Message) (is_read : message_of input.bytes ≡ Some m) where
  abbrev Facts : Row → Type 0
  Facts = FactsOf sessions files input

  opening : (free : Option ℕ) → free_number files ≡ free → (slot : ℕ) → input.slot ≡ 0 → m.kind ≡ herald → Facts (numbered free slot m.seqno)
  opening None is slot at kind = tt
  opening (Some number) is slot at kind = record { m = m; is_read = is_read; seq = refl; slot = at; kind = kind; free = is }

  again : (found : Option ℕ) → input.slot ≡ 0 → m.kind ≡ herald → Facts (herald_again found sessions files m.seqno)
  again (Some slot) at kind = record { m = m; is_read = is_read; number = refl; why = inl (at, kind) }
  again None at kind = cond_both (nat_le 16 (length sessions)) _ _ Facts (λ full. tt) (λ room. opening (free_number files) refl (length sessions + 1) at kind)

  at_herald : input.slot ≡ 0 → Facts (herald_row sessions files input.peer m)
  at_herald at = cond_both (m.kind == herald) _ _ Facts (λ is. again (waiting input.peer 1 None sessions) at (eqb-true m.kind herald is)) (λ isnt. tt)

  module _ (s : Session) (at : IsAt sessions input s) where
    piece : (body : List ℕ) → m.body ≡ body → s.phase ≡ Open → m.kind ≡ vmcore → Facts (piece_row input.slot m.seqno s.number m.offset body)
    piece [] is open_ kind = record { m = m; is_read = is_read; number = refl; why = inr (inr (record { kind = kind; body = is })) }
    piece (b ∷ bs) is open_ kind = record { m = m; is_read = is_read; seq = refl; s = s; at = at; open_ = open_; number_is = refl; kind = kind; body = is; offset = refl; some = λ e. cc }

    header : (found : Option Header) → s.phase ≡ Open → m.kind ≡ kdh → Facts (header_row input.slot m.seqno found)
    header None open_ kind = tt
    header (Some h) open_ kind = record { m = m; is_read = is_read; seq = refl; s = s; at = at; open_ = open_; kind = kind }

    end_by : (bytes : List ℕ) → s.header ≡ Some bytes → (found : Option Header) → accepted bytes ≡ found → s.phase ≡ Open → Facts (ending input.slot m.seqno s bytes found)
    end_by bytes is None finds open_ = tt
    end_by bytes is (Some h) finds open_ =
        cond_both (is_whole s.taken h.dumplength) _ _ Facts
        (λ whole. record { m = m; is_read = is_read; seq = refl; s = s; at = at; open_ = open_; number_is = refl; bytes = bytes; bytes_are = is; accepts = finds; parity_is = refl; whole = whole })
        (λ isnt. tt)

    end : (found : Option (List ℕ)) → s.header ≡ found → s.phase ≡ Open → Facts (end_row input.slot m.seqno s found)
    end None is open_ = tt
    end (Some bytes) is open_ = end_by bytes is (accepted bytes) refl open_

    is_open : s.phase ≡ Open → Facts (open_row input.slot m s)
    is_open open_ =
        cond_both (m.kind == vmcore) _ _ Facts
        (λ data_. cond_both (nat_lt (2 ^ 40) (m.offset + length m.body)) _ _ Facts (λ far. tt) (λ near. piece m.body refl open_ (eqb-true m.kind vmcore data_)))
        (λ other. cond_both (m.kind == kdh) _ _ Facts (λ is. header (accepted m.body) open_ (eqb-true m.kind kdh is)) (λ isnt. end s.header refl open_))

    is_done : s.phase ≡ Done → Facts (done_row input.slot m)
    is_done done =
        cond_both (m.kind == finished) _ _ Facts
        (λ is. record { m = m; is_read = is_read; number = refl; why = inr (inl (record { s = s; at = at; done = done; kind = eqb-true m.kind finished is })) })
        (λ isnt. tt)

    live : (row : Row) → Facts row → Facts (live_row input.slot m row)
    live row facts = cond_both (m.kind == herald) _ _ Facts (λ is. tt) (λ isnt. cond_both (m.kind == key) _ _ Facts (λ is. tt) (λ isnt_key. facts))

    by_phase : (phase : Phase) → s.phase ≡ phase → Facts (phase_row phase input.slot m s)
    by_phase Broken is = tt
    by_phase Done is = live (done_row input.slot m) (is_done is)
    by_phase Open is = live (open_row input.slot m s) (is_open is)

  at_session : (input.slot ≡ 0 → ⊥) → (found : Option Session) → session_at sessions input.slot ≡ found → Facts (session_row input.slot input.peer m found)
  at_session slot None is = tt
  at_session slot (Some s) is =
      cond_both (same_peer input.peer s.peer) _ _ Facts
      (λ same. by_phase s (record { slot = slot; there = is; peer = same_peer-true input.peer s.peer same }) s.phase refl)
      (λ isnt. tt)

  of_message : Facts (message_row sessions files input (Some m))
  of_message =
      cond_both (input.slot == 0) _ _ Facts
      (λ is. at_herald (eqb-true input.slot 0 is))
      (λ isnt. at_session (eqb-false input.slot 0 isnt) (session_at sessions input.slot) refl)

by_read : (sessions : List Session) (files : Files) (input : Input) (found : Option Message) → message_of input.bytes ≡ found → FactsOf sessions files input (message_row sessions files input found)
by_read sessions files input None is = tt
by_read sessions files input (Some m) is = of_message sessions files input m is

-- the row that a server finds
pub facts_of : (sessions : List Session) (files : Files) (input : Input) → FactsOf sessions files input (row_of sessions files input)
unfolding row_of
facts_of sessions files input = by_read sessions files input (message_of input.bytes) refl
