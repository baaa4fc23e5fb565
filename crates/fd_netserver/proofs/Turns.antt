-- A turn, from what is done at the herald's port and at a session's.
use Rattle.std.proofs.Common.{◌≡◌, inl, ℕ, ◌==◌, Bool, cond, List, [], ◌∷◌, ◌++◌, ◌-◌, Option, Some, None, Result, Ok, Err, IfOk, refl, sym, ◌∙◌, ap, subst}
use Rattle.std.proofs.lemmas.Bool.{ne_eqb}
use Rattle.fd_site.specs.Contents.{Contents, Told, Adds, file_of}
use Rattle.fd_site.proofs.Told.{with_entries-nil}
use Rattle.fd_netmsg.specs.Message.{Message, message_of}
use Rattle.fd_netserver.specs.declared.record.Record.{Record}
use Rattle.fd_netserver.specs.declared.reply.Reply.{Reply}
use Rattle.fd_netserver.specs.declared.reply.Reply.TheVariants.{Opened, Ack, Finished, Ignored}
use Rattle.fd_netserver.specs.declared.reply.Skip.TheVariants as skip
use Rattle.fd_netserver.specs.Files.{Files}
use Rattle.fd_netserver.specs.Session.{Input, Session, Broken, session_at, change_at, told, opened, with_phase, after_reply}
use Rattle.fd_netserver.specs.Table.{Row, Skips, herald_row, session_row, message_row, row_of}
use Rattle.fd_netserver.specs.History.{IsTurn}
use Rattle.fd_netserver.specs.Stands.{StandsFor, IsRowTurn, TurnOf, IsAtPort, session_after}
use Rattle.fd_netserver.proofs.Lists.{change-same}

row-none : (ss : List Session) (files : Files) (input : Input) → message_of input.bytes ≡ None → row_of ss files input ≡ Skips skip.NotMessage
unfolding row_of
row-none ss files input none = ap (message_row ss files input) none

row-herald : (ss : List Session) (files : Files) (input : Input) (m : Message) → message_of input.bytes ≡ Some m → input.slot ≡ 0 → row_of ss files input ≡ herald_row ss files input.peer m
unfolding row_of
row-herald ss files input m is slot =
    ap (message_row ss files input) is
    ∙ ap (λ (b : Bool). cond b (herald_row ss files input.peer m) (session_row input.slot input.peer m (session_at ss input.slot))) (ap (λ (n : ℕ). n == 0) slot)

row-port : (ss : List Session) (files : Files) (input : Input) (m : Message) → message_of input.bytes ≡ Some m →
    (input.slot ≡ 0 → ⊥) → row_of ss files input ≡ session_row input.slot input.peer m (session_at ss input.slot)
unfolding row_of
row-port ss files input m is slot =
    ap (message_row ss files input) is
    ∙ ap (λ (b : Bool). cond b (herald_row ss files input.peer m) (session_row input.slot input.peer m (session_at ss input.slot))) (ne_eqb input.slot 0 slot)

pub no_message : (old : Option Contents) (rs : List Record) (input : Input) → message_of input.bytes ≡ None
    → (ss : List Session) → StandsFor rs ss → Adds (λ es. Told old (λ c. IsTurn ss (file_of c) (TurnOf input (Ignored skip.NotMessage) es))) old old
no_message old rs input none ss stands = (
  [],
  (λ c is. subst (λ (row : Row). IsRowTurn row (TurnOf input (Ignored skip.NotMessage) []))
      (sym (row-none ss (file_of c) input none)) (inl (record { reply = refl; entries = refl }))),
  with_entries-nil old,
)

pub herald_turn : {E : Type 0} (result : Result Reply E) (old new : Option Contents) (rs : List Record) (input : Input) (m : Message) → message_of input.bytes ≡ Some m → input.slot ≡ 0
    → IfOk result (λ reply. (ss : List Session) (input' : Input) → StandsFor rs ss → Adds (λ es. Told old (λ c. IsRowTurn (herald_row ss (file_of c) input.peer m) (TurnOf input' reply es))) old new)
    → IfOk result (λ reply. (ss : List Session) → StandsFor rs ss → Adds (λ es. Told old (λ c. IsTurn ss (file_of c) (TurnOf input reply es))) old new)
herald_turn (Err e) old new rs input m is slot turn = tt
herald_turn (Ok reply) old new rs input m is slot turn = λ ss stands.
    let adds = turn ss input stands in
    (adds.0, (λ c told_c. subst (λ (row : Row). IsRowTurn row (TurnOf input reply adds.0)) (sym (row-herald ss (file_of c) input m is slot)) (adds.1 c told_c)), adds.2)

pub session_turn : {E : Type 0} (result : Result Reply E) (old new : Option Contents) (rs : List Record) (input : Input) (m : Message) → message_of input.bytes ≡ Some m → (input.slot ≡ 0 → ⊥)
    → IfOk result (λ reply. (ss : List Session) (input' : Input) → StandsFor rs ss →
    Adds (λ es. IsRowTurn (session_row input.slot input.peer m (session_at ss input.slot)) (TurnOf input' reply es)) old
    new)
    → IfOk result (λ reply. (ss : List Session) → StandsFor rs ss → Adds (λ es. Told old (λ c. IsTurn ss (file_of c) (TurnOf input reply es))) old new)
session_turn (Err e) old new rs input m is slot turn = tt
session_turn (Ok reply) old new rs input m is slot turn = λ ss stands.
    let adds = turn ss input stands in
    (adds.0, (λ c told_c. subst (λ (row : Row). IsRowTurn row (TurnOf input reply adds.0)) (sym (row-port ss (file_of c) input m is slot)) adds.1), adds.2)

-- what a reply at a session's port makes of the sessions
after_port : (ss : List Session) (input : Input) (m : Message) (reply : Reply) → IsAtPort reply → (input.slot ≡ 0 → ⊥) → message_of input.bytes ≡ Some m
    → after_reply ss input reply ≡ change_at (session_after m reply) ss input.slot
after_port ss input m (Opened slot seqno number) own not_herald is = absurd own
after_port ss input m (Ack slot seqno) own not_herald is =
    ap (λ (b : Bool). cond b ss (change_at (told (message_of input.bytes)) ss input.slot)) (ne_eqb input.slot 0 not_herald)
    ∙ ap (λ (found : Option Message). change_at (told found) ss input.slot) is
after_port ss input m (Finished seqno slot number size) own not_herald is = refl
after_port ss input m (Ignored skip.Broken) own not_herald is =
    ap (λ (b : Bool). cond b (ss ++ opened input.peer 0 Broken ∷ []) (change_at (with_phase Broken) ss input.slot)) (ne_eqb input.slot 0 not_herald)
after_port ss input m (Ignored why) own not_herald is = sym (change-same (session_after m (Ignored why)) ss (input.slot - 1) (λ s. refl))

pub session_stands : {E : Type 0} (result : Result Reply E) (rs now : List Record) (input : Input) (m : Message) → message_of input.bytes ≡ Some m → (input.slot ≡ 0 → ⊥)
    → IfOk result (λ reply. IsAtPort reply)
    → IfOk result (λ reply. (ss : List Session) → StandsFor rs ss → StandsFor now (change_at (session_after m reply) ss input.slot))
    → IfOk result (λ reply. (ss : List Session) → StandsFor rs ss → StandsFor now (after_reply ss input reply))
session_stands (Err e) rs now input m is slot own stands = tt
session_stands (Ok reply) rs now input m is slot own stands = λ ss before. subst (StandsFor now) (sym (after_port ss input m reply own slot is)) (stands ss before)
