-- What a finished message gets from a session that has all of its dump.
use Rattle.std.proofs.Common.{◌≡◌, inl, inr, ◌==◌, ◌+◌, ◌^◌, nat_lt, ℕ, Bool, true, false, ◌&&◌, cond, List, length, eqb-true, ◌∙◌, ap}
use Rattle.std.proofs.lemmas.Bool.{cases_Bool, eq-eqb}
use Rattle.fd_kdh.specs.declared.header.Header.{Header}
use Rattle.fd_netmsg.specs.Message.{Message, finished, herald, kdh, key, vmcore}
use Rattle.fd_site.specs.declared.ports.Peer.{Peer}
use Rattle.fd_netserver.specs.Files.{Files, parity_of}
use Rattle.fd_netserver.specs.Session.{Done, Input, Open, Phase, Session, accepted, same_peer, session_at}
use Rattle.fd_netserver.specs.Table.{Ends, Repeats, Row, Skips, done_row, end_row, ending, header_row, herald_row, live_row, message_row, open_row, phase_row, piece_row, row_of, session_row}
use Rattle.fd_netserver.specs.Whole.{HasAll, IsTo}
use Rattle.fd_netserver.specs.declared.reply.Skip.TheVariants as skip

both : (a b : Bool) → a ≡ true → b ≡ true → (a && b) ≡ true
both a b x y = cc

same_peer-is : (a b : Peer) → a ≡ b → same_peer a b ≡ true
same_peer-is a b same =
    both (a.address == b.address) (a.port == b.port) (eq-eqb a.address b.address (ap (λ (p : Peer). p.address) same)) (eq-eqb a.port b.port (ap (λ (p : Peer). p.port) same))

not_zero : (n : ℕ) → (n ≡ 0 → ⊥) → (n == 0) ≡ false
not_zero n some = elim (cases_Bool (n == 0)) [ inl is ↦ absurd (some (eqb-true n 0 is)) | inr isnt ↦ isnt ]

module _ (ss : List Session) (files : Files) (input : Input) (s : Session) (m : Message) (to : IsTo ss input s m) where
  at_phase : row_of ss files input ≡ phase_row s.phase input.slot m s
  unfolding row_of
  at_phase =
      ap (message_row ss files input) to.read
      ∙ ap (λ (b : Bool). cond b (herald_row ss files input.peer m) (session_row input.slot input.peer m (session_at ss input.slot))) (not_zero input.slot to.slot)
      ∙ ap (session_row input.slot input.peer m) to.there
      ∙ ap (λ (b : Bool). cond b (phase_row s.phase input.slot m s) (Skips skip.Stranger)) (same_peer-is input.peer s.peer to.peer)

  module _ (kind : m.kind ≡ finished) where
    live : (row : Row) → live_row input.slot m row ≡ row
    live row =
        ap (λ (b : Bool). cond b (Skips skip.NotHere) (cond (m.kind == key) (Skips skip.Key) row)) (ap (λ (k : ℕ). k == herald) kind)
        ∙ ap (λ (b : Bool). cond b (Skips skip.Key) row) (ap (λ (k : ℕ). k == key) kind)

    pub again : s.phase ≡ Done → row_of ss files input ≡ Repeats input.slot m.seqno
    again done =
        at_phase ∙ ap (λ (p : Phase). phase_row p input.slot m s) done ∙ live (done_row input.slot m)
        ∙ ap (λ (b : Bool). cond b (Repeats input.slot m.seqno) (Skips skip.Closed)) (ap (λ (k : ℕ). k == finished) kind)

    pub ends : (bytes : List ℕ) (h : Header) → s.phase ≡ Open → HasAll s bytes h → row_of ss files input ≡ Ends input.slot m.seqno s.number h (parity_of bytes)
    ends bytes h open_ has =
        let data_ = cond (nat_lt (2 ^ 40) (m.offset + length m.body)) (Skips skip.TooFar) (piece_row input.slot m.seqno s.number m.offset m.body) in
        let header = header_row input.slot m.seqno (accepted m.body) in
        let end = end_row input.slot m.seqno s s.header in
        at_phase ∙ ap (λ (p : Phase). phase_row p input.slot m s) open_ ∙ live (open_row input.slot m s)
        ∙ ap (λ (b : Bool). cond b data_ (cond (m.kind == kdh) header end)) (ap (λ (k : ℕ). k == vmcore) kind)
        ∙ ap (λ (b : Bool). cond b header end) (ap (λ (k : ℕ). k == kdh) kind)
        ∙ ap (end_row input.slot m.seqno s) has.header
        ∙ ap (ending input.slot m.seqno s bytes) has.accepts
        ∙ ap (λ (b : Bool). cond b (Ends input.slot m.seqno s.number h (parity_of bytes)) (Skips skip.NotWhole)) has.whole
