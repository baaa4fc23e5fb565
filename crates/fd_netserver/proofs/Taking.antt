-- What a record stands for after a message.
use Rattle.std.proofs.Common.{◌≡◌, inl, inr, ◌⊎◌, ◌==◌, ℕ, ◌+◌, Bool, true, false, ◌||◌, cond, List, [], ◌∷◌, ◌++◌, length, Option, Some, Result, Ok, Err, IfOk, refl, sym, ◌∙◌, ap, subst}
use Rattle.fd_cover.specs.Intervals.{has, is_between}
use Rattle.fd_cover.specs.declared.interval.Interval.{Interval}
use Rattle.fd_site.specs.declared.fault.Failed.{Failed}
use Rattle.fd_netmsg.specs.Message.{Message, vmcore, kdh, finished}
use Rattle.fd_netserver.specs.declared.record.Record.{Record}
use Rattle.fd_netserver.specs.declared.reply.Reply.{Reply}
use Rattle.fd_netserver.specs.declared.reply.Reply.TheVariants.{Ack}
use Rattle.fd_netserver.specs.declared.reply.Skip.TheVariants as skip
use Rattle.fd_netserver.specs.Session.{Input, same_peer, Piece, Session, Open, Broken, is_in, covers, told, with_piece, with_phase}
use Rattle.fd_site.specs.declared.ports.Peer.{Peer}
use Rattle.fd_site.specs.Contents.{Contents, Adds}
use Rattle.fd_netserver.specs.declared.step.Step.{Step}
use Rattle.fd_netserver.specs.Table.{Row, Skips, phase_row, session_row}
use Rattle.fd_netserver.specs.Stands.{IsRowTurn, TurnOf, StepsTo, StandsIn, IsPiece, IsHeader, settled, phase_by, session_after}
use Rattle.fd_netserver.proofs.Lists.{Each-behind}
use Rattle.fd_netserver.proofs.Standing.{live_of}

-- what is told by kind
told_kind : (m : Message) (s : Session) (kind : ℕ) → m.kind ≡ kind
    → told (Some m) s ≡ cond (kind == vmcore) (with_piece m.offset m.body s) (cond (kind == kdh) (record s { header = Some m.body }) s)
told_kind m s kind is = ap (λ (n : ℕ). cond (n == vmcore) (with_piece m.offset m.body s) (cond (n == kdh) (record s { header = Some m.body }) s)) is

with_some : (at : ℕ) (bytes : List ℕ) (s : Session) → (bytes ≡ [] → ⊥) → with_piece at bytes s ≡ record s { taken = s.taken ++ record { at = at; bytes = bytes } ∷ [] }
with_some at [] s some = absurd (some refl)
with_some at (b ∷ bs) s some = refl

told_piece : (m : Message) (s : Session) → m.kind ≡ vmcore → (m.body ≡ [] → ⊥) → told (Some m) s ≡ record s { taken = s.taken ++ record { at = m.offset; bytes = m.body } ∷ [] }
told_piece m s kind some = told_kind m s vmcore kind ∙ with_some m.offset m.body s some

told_header : (m : Message) (s : Session) → m.kind ≡ kdh → told (Some m) s ≡ record s { header = Some m.body }
told_header m s kind = told_kind m s kdh kind

told_same : (m : Message) (s : Session) → (m.kind ≡ finished) ⊎ ((m.kind ≡ vmcore) × (m.body ≡ [])) → told (Some m) s ≡ s
told_same m s (inl kind) = told_kind m s finished kind
told_same m s (inr empty) = told_kind m s vmcore empty.0 ∙ ap (λ bytes. with_piece m.offset bytes s) empty.1

covers-behind : (ps : List Piece) (p : Piece) (i : ℕ) → covers (ps ++ p ∷ []) i ≡ (is_in p i || covers ps i)
covers-behind [] p i = refl
covers-behind (q ∷ ps) p i = ap (λ (b : Bool). is_in q i || b) (covers-behind ps p i) ∙ swap (is_in q i) (is_in p i) (covers ps i)
  where
    swap : (x y z : Bool) → (x || (y || z)) ≡ (y || (x || z))
    swap true true z = refl
    swap true false z = refl
    swap false true z = refl
    swap false false z = refl

pub broke : (old new : Record) (s : Session) → StandsIn old s → new.peer ≡ old.peer → new.phase ≡ Broken → StandsIn new (with_phase Broken s)
broke old new s stands peer phase = record { peer = peer ∙ stands.peer; phase = phase; holds = λ live. absurd (live refl) }

-- a record whose cover has grown by a piece
module _ (old : Record) (cover : List Interval) (m : Message) (piece : IsPiece old m) (grew : (i : ℕ) → has cover i ≡ (is_between m.offset (m.offset + length m.body) i || has old.cover i)) where
  took : (s : Session) → StandsIn old s → StandsIn (record old { cover = cover; phase = Open }) (told (Some m) s)
  took s stands =
      let holds = live_of old s stands piece.open_ in
      subst (StandsIn (record old { cover = cover; phase = Open })) (sym (told_piece m s piece.kind piece.some))
      (record {
        peer = stands.peer;
        phase = sym piece.open_ ∙ stands.phase;
        holds = λ live. record {
          number = holds.number;
          header = holds.header;
          cover = λ i. grew i ∙ ap (λ (b : Bool). is_between m.offset (m.offset + length m.body) i || b) (holds.cover i) ∙ sym (covers-behind s.taken (record { at = m.offset; bytes = m.body }) i);
          pieces = Each-behind (λ (p : Piece). p.bytes ≡ [] → ⊥) s.taken (record { at = m.offset; bytes = m.body } ∷ []) holds.pieces (piece.some, tt);
        };
      })

  settled_stands : {T : Type 0} (slot : ℕ) (done : Result T Failed) (s : Session) → StandsIn old s
      → StandsIn (record old { cover = cover; phase = phase_by done Open }) (session_after m (settled done (Ack slot m.seqno)) s)
  settled_stands slot (Ok x) s stands = took s stands
  settled_stands slot (Err e) s stands = broke old (record old { cover = cover; phase = Broken }) s stands refl refl

  pub piece_stands : {T : Type 0} (slot : ℕ) (done : Result T Failed) (new : Record) (reply : Reply)
      → reply ≡ settled done (Ack slot m.seqno) → new ≡ record old { cover = cover; phase = phase_by done Open }
      → (s : Session) → StandsIn old s → StandsIn new (session_after m reply s)
  piece_stands slot done new reply is state s stands =
      subst (λ (n : Record). StandsIn n (session_after m reply s)) (sym state)
      (subst (λ (r : Reply). StandsIn (record old { cover = cover; phase = phase_by done Open }) (session_after m r s)) (sym is) (settled_stands slot done s stands))

pub stays : (r : Record) (s : Session) (m : Message) → StandsIn r s → (m.kind ≡ finished) ⊎ ((m.kind ≡ vmcore) × (m.body ≡ [])) → StandsIn r (told (Some m) s)
stays r s m stands why = subst (StandsIn r) (sym (told_same m s why)) stands

pub kept : (r : Record) (s : Session) (m : Message) (header : List ℕ) → StandsIn r s → IsHeader header r m → StandsIn (record r { header = Some header }) (told (Some m) s)
kept r s m header stands is =
    let holds = live_of r s stands is.open_ in
    subst (StandsIn (record r { header = Some header })) (sym (told_header m s is.kind))
    (record {
      peer = stands.peer;
      phase = stands.phase;
      holds = λ live. record { number = holds.number; header = ap (λ (l : List ℕ). Some l) is.is; cover = holds.cover; pieces = holds.pieces };
    })

-- a row at a session's port
pub at_row : (peer : Peer) (r : Record) (s : Session) (slot : ℕ) (m : Message) (step : Step) → same_peer peer r.peer ≡ true → StandsIn r s → r.phase ≡ Open
    → phase_row s.phase slot m s ≡ StepsTo step slot s.number m → session_row slot peer m (Some s) ≡ StepsTo step slot r.number m
at_row peer r s slot m step same stands open_ row =
    let holds = live_of r s stands open_ in
    ap (λ (b : Bool). cond b (phase_row s.phase slot m s) (Skips skip.Stranger)) (sym (ap (same_peer peer) stands.peer) ∙ same)
    ∙ row ∙ ap (λ n. StepsTo step slot n m) (sym holds.number)

pub turn_at : (reply : Reply) (old new : Option Contents) (row : Row) (r : Record) (rows : Session → Row)
    → ((input : Input) → Adds (λ es. IsRowTurn row (TurnOf input reply es)) old new)
    → ((s : Session) → StandsIn r s → rows s ≡ row)
    → (s : Session) (input : Input) → StandsIn r s → Adds (λ es. IsRowTurn (rows s) (TurnOf input reply es)) old new
turn_at reply old new row r rows turn same s input stands = subst (λ (w : Row). Adds (λ es. IsRowTurn w (TurnOf input reply es)) old new) (sym (same s stands)) (turn input)

pub turn_by : {E : Type 0} (result : Result Reply E) (old new : Option Contents) (row : Row) (r : Record) (rows : Session → Row)
    → IfOk result (λ reply. (input : Input) → Adds (λ es. IsRowTurn row (TurnOf input reply es)) old new)
    → ((s : Session) → StandsIn r s → rows s ≡ row)
    → IfOk result (λ reply. (s : Session) (input : Input) → StandsIn r s → Adds (λ es. IsRowTurn (rows s) (TurnOf input reply es)) old new)
turn_by (Ok reply) old new row r rows turn same = turn_at reply old new row r rows turn same
turn_by (Err e) old new row r rows turn same = tt
