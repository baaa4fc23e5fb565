-- What holds of each session is kept by a turn, where it is kept by each change of a session.
use Rattle.std.proofs.Common.{◌≡◌, inl, inr, ℕ, ◌-◌, ◌==◌, List, [], ◌∷◌, ◌++◌, Some, sym, ◌∙◌, ap, subst}
use Rattle.std.proofs.lemmas.Bool.{cond_both}
use Rattle.fd_netmsg.specs.Message.{Message, vmcore, kdh, message_of}
use Rattle.fd_netmsg.specs.Each.{Each}
use Rattle.fd_netserver.specs.declared.reply.Reply.{Reply}
use Rattle.fd_netserver.specs.declared.reply.Reply.TheVariants.{Ignored}
use Rattle.fd_netserver.specs.declared.reply.Skip.TheVariants as skip
use Rattle.fd_netserver.specs.Files.{Files}
use Rattle.fd_netserver.specs.Session.{Input, Phase, Open, Done, Broken, Session, Turn, opened, nth, change_at, with_phase, after_reply}
use Rattle.fd_netserver.specs.Table.{Row, Skips, Repeats, Opens, Writes, Keeps, Ends, reply_of, row_of}
use Rattle.fd_netserver.specs.History.{IsTurn}
use Rattle.fd_netserver.proofs.Lists.{Each-behind, Each-changed, Each-changed_at}
use Rattle.fd_netserver.proofs.Rows.{FactsOf, facts_of}
use Rattle.fd_netserver.proofs.Sound.{with_taken, with_header, after_repeat, after_writing, after_keeping}

-- a session of this input and the message that it got
pub record IsHearing (sessions : List Session) (input : Input) (m : Message) (s : Session) : Type 0 where
  pub there : nth sessions (input.slot - 1) ≡ Some s
  pub peer : input.peer ≡ s.peer
  pub is_read : message_of input.bytes ≡ Some m

pub record IsKeptBy (sessions : List Session) (input : Input) (Q : Session → Type 0) : Type 0 where
  pub opens : (number : ℕ) (phase : Phase) → (phase ≡ Done → ⊥) → Q (opened input.peer number phase)
  pub breaks : (s : Session) → Q s → Q (with_phase Broken s)
  pub takes : (s : Session) (m : Message) → IsHearing sessions input m s → m.kind ≡ vmcore → Q s → Q (with_taken (record { at = m.offset; bytes = m.body }) s)
  pub keeps : (s : Session) (m : Message) → IsHearing sessions input m s → m.kind ≡ kdh → Q s → Q (with_header m.body s)

-- an end is kept, too
abbrev pub EndKept : List Session → Input → (Session → Type 0) → Row → Type 0
EndKept sessions input Q (Ends slot seqno number header parity) = (s : Session) (m : Message) → IsHearing sessions input m s → Q s → Q (with_phase Done s)
EndKept sessions input Q row = Unit {0}

module _ (sessions : List Session) (files : Files) (input : Input) (Q : Session → Type 0) (kept : IsKeptBy sessions input Q) (all : Each Q sessions) where
  broken : Each Q (after_reply sessions input (Ignored skip.Broken))
  broken =
      cond_both (input.slot == 0) (sessions ++ opened input.peer 0 Broken ∷ []) (change_at (with_phase Broken) sessions input.slot) (Each Q)
      (λ herald. Each-behind Q sessions (opened input.peer 0 Broken ∷ []) all (kept.opens 0 Broken (λ e. absurd (cc)), tt))
      (λ session. Each-changed Q (with_phase Broken) sessions (input.slot - 1) all kept.breaks)

  by_row : (row : Row) → FactsOf sessions files input row → EndKept sessions input Q row → Each Q (after_reply sessions input (reply_of row))
  by_row (Skips skip.Broken) facts end = broken
  by_row (Skips why) facts end = all
  by_row (Repeats slot seqno) facts end = subst (Each Q) (sym (after_repeat sessions input slot seqno facts)) all
  by_row (Opens slot seqno number) facts end = Each-behind Q sessions (opened input.peer number Open ∷ []) all (kept.opens number Open (λ e. absurd (cc)), tt)
  by_row (Writes slot seqno number piece) facts end =
      subst (Each Q) (sym (after_writing sessions input slot seqno number piece facts))
      (Each-changed_at Q (with_taken piece) sessions (input.slot - 1) all
      (λ s there q.
      let same : s ≡ facts.s = let e : Some s ≡ Some facts.s = sym there ∙ facts.at.there in cc in
      let is : piece ≡ record { at = facts.m.offset; bytes = facts.m.body } = λ i. record { at = sym facts.offset i; bytes = sym facts.body i } in
      subst (λ p. Q (with_taken p s)) (sym is)
      (kept.takes s facts.m (record { there = there; peer = facts.at.peer ∙ ap (λ (t : Session). t.peer) (sym same); is_read = facts.is_read }) facts.kind q)))
  by_row (Keeps slot seqno) facts end =
      subst (Each Q) (sym (after_keeping sessions input slot seqno facts))
      (Each-changed_at Q (with_header facts.m.body) sessions (input.slot - 1) all
      (λ s there q.
      let same : s ≡ facts.s = let e : Some s ≡ Some facts.s = sym there ∙ facts.at.there in cc in
      kept.keeps s facts.m (record { there = there; peer = facts.at.peer ∙ ap (λ (t : Session). t.peer) (sym same); is_read = facts.is_read }) facts.kind q))
  by_row (Ends slot seqno number header parity) facts end =
      Each-changed_at Q (with_phase Done) sessions (input.slot - 1) all
      (λ s there q.
      let same : s ≡ facts.s = let e : Some s ≡ Some facts.s = sym there ∙ facts.at.there in cc in
      end s facts.m (record { there = there; peer = facts.at.peer ∙ ap (λ (t : Session). t.peer) (sym same); is_read = facts.is_read }) q)

  pub kept_turn : (t : Turn) → t.input ≡ input → IsTurn sessions files t →
      (t.reply ≡ reply_of (row_of sessions files input) → EndKept sessions input Q (row_of sessions files input)) →
      Each Q (after_reply sessions input t.reply)
  kept_turn t same is end =
      elim is [
        | inl done ↦
            let reply : t.reply ≡ reply_of (row_of sessions files input) = done.reply ∙ ap (λ i. reply_of (row_of sessions files i)) same in
            subst (λ (r : Reply). Each Q (after_reply sessions input r)) (sym reply) (by_row (row_of sessions files input) (facts_of sessions files input) (end reply))
        | inr off ↦ subst (λ (r : Reply). Each Q (after_reply sessions input r)) (sym off.reply) broken
      ]
