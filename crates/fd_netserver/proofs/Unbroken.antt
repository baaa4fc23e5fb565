-- What breaks a turn off: a fault, or an earlier one.
use Rattle.std.proofs.Common.{◌≡◌, inl, inr, ◌⊎◌, ◌==◌, ℕ, zero, suc, ◌-◌, ◌≤◌, false, List, [], ◌∷◌, Option, Some, None, IfSome, IsSome, slice_get, eqb-true, sym, ◌∙◌, refl, subst, arith}
use Rattle.std.proofs.lemmas.Bool.{cond_both}
use Rattle.fd_netmsg.specs.Each.{Each}
use Rattle.fd_netmsg.specs.Message.{Message, message_of}
use Rattle.fd_site.specs.Fault.{Rose}
use Rattle.fd_netserver.specs.History.{IsDone, IsTurn, NoneBroken}
use Rattle.fd_netserver.specs.Session.{Input, Turn, Session, Open, Done, Broken, after_reply, change_at, nth, opened, same_peer, session_at, sessions_after, told, with_phase}
use Rattle.fd_netserver.specs.Files.{Files}
use Rattle.fd_netserver.specs.Table.{may_break, message_row, phase_row, row_of, session_row}
use Rattle.fd_netserver.specs.Stands.{IsBrokenAt, StandsFor}
use Rattle.fd_netserver.specs.declared.record.Record.{Record}
use Rattle.fd_netserver.specs.declared.reply.Reply.{Reply}
use Rattle.fd_netserver.specs.declared.reply.Reply.TheVariants.{Opened, Ack, Finished, Ignored}
use Rattle.fd_netserver.specs.declared.reply.Skip.TheVariants as skip
use Rattle.fd_netserver.proofs.Alone.{told_phase}
use Rattle.fd_netserver.proofs.Lists.{Each-at, Each-behind, Each-changed}

abbrev IsLive : Session → Type 0
IsLive s = s.phase ≡ Broken → ⊥

live_after : (ss : List Session) (input : Input) (reply : Reply) → Each IsLive ss → (reply ≡ Ignored skip.Broken → ⊥) → Each IsLive (after_reply ss input reply)
live_after ss input (Opened slot seqno number) live whole = Each-behind IsLive ss (opened input.peer number Open ∷ []) live ((λ e. absurd (cc)), tt)
live_after ss input (Ack slot seqno) live whole =
    cond_both (input.slot == 0) ss (change_at (told (message_of input.bytes)) ss input.slot) (Each IsLive) (λ herald. live)
    (λ session. Each-changed IsLive (told (message_of input.bytes)) ss (input.slot - 1) live (λ s is e. is (sym (told_phase (message_of input.bytes) s) ∙ e)))
live_after ss input (Finished seqno slot number size) live whole = Each-changed IsLive (with_phase Done) ss (input.slot - 1) live (λ s is e. absurd (cc))
live_after ss input (Ignored skip.Broken) live whole = absurd (whole refl)
live_after ss input (Ignored why) live whole = live

live_turns : (ss : List Session) (ts : List Turn) → Each IsLive ss → NoneBroken ts → Each IsLive (sessions_after ss ts)
live_turns ss [] live whole = live
live_turns ss (t ∷ ts) live whole = live_turns (after_reply ss t.input t.reply) ts (live_after ss t.input t.reply live whole.0) whole.1

-- the session of a broken record
record IsBrokenSession (ss : List Session) (k : ℕ) : Type 0 where
  s : Session
  there : nth ss k ≡ Some s
  broken : s.phase ≡ Broken

broken_session : (rs : List Record) (ss : List Session) (k : ℕ) → StandsFor rs ss → IsSome (slice_get rs k) → IfSome (slice_get rs k) (λ (r : Record). r.phase ≡ Broken) → IsBrokenSession ss k
broken_session [] ss k stands some broken = absurd (cc)
broken_session (r ∷ rs) [] k stands some broken = absurd stands
broken_session (r ∷ rs) (s ∷ ss) zero stands some broken = record { s = s; there = refl; broken = sym stands.0.phase ∙ broken }
broken_session (r ∷ rs) (s ∷ ss) (suc k) stands some broken =
    let b = broken_session rs ss k stands.1 some broken in
    record { s = b.s; there = b.there; broken = b.broken }

none_broken : (rs : List Record) (ss : List Session) (slot : ℕ) → StandsFor rs ss → Each IsLive ss → IsBrokenAt rs slot → ⊥
none_broken rs ss slot stands live at =
    let b = broken_session rs ss (slot - 1) stands at.there at.broken in
    Each-at IsLive ss (slot - 1) b.s live b.there b.broken

-- where no turn was broken off before, this one is only with a fault
pub whole_turn : (was now : ℕ) (rs : List Record) (ts : List Turn) (input : Input) (reply : Reply) → StandsFor rs (sessions_after [] ts) → NoneBroken ts
    → (reply ≡ Ignored skip.Broken → Rose was now ⊎ IsBrokenAt rs input.slot) → (reply ≡ Ignored skip.Broken → ⊥) ⊎ Rose was now
whole_turn was now rs ts input (Opened slot seqno number) stands whole cause = inl (λ e. cc)
whole_turn was now rs ts input (Ack slot seqno) stands whole cause = inl (λ e. cc)
whole_turn was now rs ts input (Finished seqno slot number size) stands whole cause = inl (λ e. cc)
whole_turn was now rs ts input (Ignored skip.Broken) stands whole cause =
    elim (cause refl) [ inl rose ↦ inr rose | inr at ↦ absurd (none_broken rs (sessions_after [] ts) input.slot stands (live_turns [] ts tt whole) at) ]
whole_turn was now rs ts input (Ignored why) stands whole cause = inl (λ e. cc)

-- what comes to a broken session breaks nothing off
session_keeps : (slot : ℕ) (input : Input) (m : Message) (s : Session) → s.phase ≡ Broken → may_break (session_row slot input.peer m (Some s)) ≡ false
session_keeps slot input m s broken =
    cond_both (same_peer input.peer s.peer) _ _ (λ row. may_break row ≡ false)
    (λ own. subst (λ phase. may_break (phase_row phase slot m s) ≡ false) (sym broken) refl)
    (λ stranger. refl)

message_keeps : (ss : List Session) (files : Files) (input : Input) (s : Session) → 1 ≤ input.slot → session_at ss input.slot ≡ Some s → s.phase ≡ Broken → (found : Option Message)
    → may_break (message_row ss files input found) ≡ false
message_keeps ss files input s session there broken None = refl
message_keeps ss files input s session there broken (Some m) =
    cond_both (input.slot == 0) _ _ (λ row. may_break row ≡ false)
    (λ herald. let none = eqb-true input.slot 0 herald in absurd (omega (arith, session, none)))
    (λ isnt. subst (λ (found : Option Session). may_break (session_row input.slot input.peer m found) ≡ false) (sym there) (session_keeps input.slot input m s broken))

row_keeps : (ss : List Session) (files : Files) (input : Input) (s : Session) → 1 ≤ input.slot → session_at ss input.slot ≡ Some s → s.phase ≡ Broken → may_break (row_of ss files input) ≡ false
unfolding row_of
row_keeps ss files input s session there broken = message_keeps ss files input s session there broken (message_of input.bytes)

-- a turn is done where no fault came in it
pub done_turn : (was now : ℕ) (rs : List Record) (ss : List Session) (files : Files) (t : Turn) → StandsFor rs ss → IsTurn ss files t
    → (t.reply ≡ Ignored skip.Broken → Rose was now ⊎ IsBrokenAt rs t.input.slot) → Rose was now ⊎ IsDone (row_of ss files t.input) t
done_turn was now rs ss files t stands (inl done) cause = inr done
done_turn was now rs ss files t stands (inr off) cause =
    elim (cause off.reply) [
      | inl rose ↦ inl rose
      | inr at ↦
          let b = broken_session rs ss (t.input.slot - 1) stands at.there at.broken in
          let keeps = row_keeps ss files t.input b.s at.session b.there b.broken in
          let may = off.may in
          absurd (cc)
    ]

-- a count that rose has risen later, and since earlier
pub rose_later : (old was now : ℕ) → Rose old was → was ≤ now → Rose old now
rose_later old was now rose le = omega arith

pub rose_before : (old was now : ℕ) → old ≤ was → Rose was now → Rose old now
rose_before old was now le rose = omega arith
