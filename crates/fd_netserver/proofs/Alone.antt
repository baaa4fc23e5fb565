-- While a session is whole, nothing that comes on other slots adds an entry on its files.
use Rattle.std.proofs.Common.{◌≡◌, inl, inr, ◌⊎◌, ℕ, ◌-◌, ◌<◌, cond, ◌==◌, List, [], ◌∷◌, ◌++◌, Option, Some, None, refl, sym, ◌∙◌, ap, subst}
use Rattle.std.proofs.lemmas.Bool.{cond_both, cases_eq}
use Rattle.fd_site.specs.Journal.{Entry, file_after}
use Rattle.fd_netmsg.specs.Message.{Message, vmcore, kdh, message_of}
use Rattle.fd_netmsg.specs.Each.{Each}
use Rattle.fd_netserver.specs.declared.reply.Reply.{Reply}
use Rattle.fd_netserver.specs.declared.reply.Reply.TheVariants.{Opened, Ack, Finished, Ignored}
use Rattle.fd_netserver.specs.declared.reply.Skip.TheVariants as skip
use Rattle.fd_info.specs.Name.{vmcore_name}
use Rattle.fd_netserver.specs.Files.{Files, files_after}
use Rattle.fd_netserver.specs.Session.{Open, Done, Session, Turn, session_at, sessions_after, told, with_piece, after_reply, file_taken}
use Rattle.fd_netserver.specs.Table.{Row, Skips, Repeats, Opens, Writes, Keeps, Ends, reply_of, entries_of, row_of}
use Rattle.fd_netserver.specs.History.{IsTurn, IsServerRun, IsWhole, LeavesFiles}
use Rattle.fd_netserver.proofs.Apart.{AreApart, Touches}
use Rattle.fd_netserver.proofs.Finish.{core_after}
use Rattle.fd_netserver.proofs.Isolated.{turn_elsewhere, turn_here, other_place, own_after}
use Rattle.fd_netserver.proofs.Rows.{FactsOf, facts_of}
use Rattle.fd_netserver.proofs.Settled.{IsSettled, settled_turn, no_session}
use Rattle.fd_netserver.proofs.Sound.{IsOpen, AreSound, place, here_again, not_touched, of_done, of_begun, shut_stays, sound_turn}

pub told_phase : (found : Option Message) (s : Session) → (told found s).phase ≡ s.phase
told_phase None s = refl
told_phase (Some m) s =
    cond_both (m.kind == vmcore) (with_piece m.offset m.body s) (cond (m.kind == kdh) (record s { header = Some m.body }) s) (λ (t : Session). t.phase ≡ s.phase)
    (λ is. by_body m.body)
    (λ isnt. cond_both (m.kind == kdh) (record s { header = Some m.body }) s (λ (t : Session). t.phase ≡ s.phase) (λ is. refl) (λ other. refl))
  where
    by_body : (body : List ℕ) → (with_piece m.offset body s).phase ≡ s.phase
    by_body [] = refl
    by_body (b ∷ bs) = refl

told_number : (found : Option Message) (s : Session) → (told found s).number ≡ s.number
told_number None s = refl
told_number (Some m) s =
    cond_both (m.kind == vmcore) (with_piece m.offset m.body s) (cond (m.kind == kdh) (record s { header = Some m.body }) s) (λ (t : Session). t.number ≡ s.number)
    (λ is. by_body m.body)
    (λ isnt. cond_both (m.kind == kdh) (record s { header = Some m.body }) s (λ (t : Session). t.number ≡ s.number) (λ is. refl) (λ other. refl))
  where
    by_body : (body : List ℕ) → (with_piece m.offset body s).number ≡ s.number
    by_body [] = refl
    by_body (b ∷ bs) = refl

module _ (slot n : ℕ) (some : slot ≡ 0 → ⊥) where
  -- the session is open, or its number is settled
  pub record IsOpenHere (sessions : List Session) : Type 0 where
    pub s : Session
    pub is_open : IsOpen sessions (slot - 1) s
    pub number : s.number ≡ n

  abbrev pub IsHeld : List Session → Files → Type 0
  IsHeld sessions files = IsOpenHere sessions ⊎ IsSettled n sessions files

  apart_elsewhere : (sessions : List Session) (files : Files) (t : Turn) → AreSound sessions files → IsOpenHere sessions → (t.input.slot ≡ slot → ⊥) → IsTurn sessions files t → AreApart n t.entries
  apart_elsewhere sessions files t sound held other is =
      let row : Row = row_of sessions files t.input in
      let facts = facts_of sessions files t.input in
      let small : n < 65536 = subst (λ (m : ℕ). m < 65536) held.number (sound.small (slot - 1) held.s held.is_open) in
      let off : Touches row n → ⊥ =
      λ touches. not_touched sessions files sound t.input row facts (slot - 1) held.s (here_again sessions files sound t.input (slot - 1) held.s held.is_open)
      (λ pos. other_place slot some t.input.slot other pos) (subst (Touches row) (sym held.number) touches) in
      elim is [
        | inl done ↦ subst (AreApart n) (sym done.entries) (of_done sessions files sound t.input row facts n small off)
        | inr broken ↦ of_begun sessions files sound t.input row t.entries facts broken.entries n small off
      ]

  -- the session's own end
  ended : (sessions : List Session) (files : Files) (t : Turn) → AreSound sessions files → (held : IsOpenHere sessions) → t.input.slot ≡ slot → (row : Row) → FactsOf sessions files t.input row
      → t.reply ≡ reply_of row → t.entries ≡ entries_of row → (seqno k number size : ℕ) →
      t.reply ≡ Finished seqno k number size →
      IsSettled n (after_reply sessions t.input t.reply) (files_after files t.entries)
  ended sessions files t sound held here (Skips why) facts reply entries seqno k number size is = absurd (cc)
  ended sessions files t sound held here (Repeats slot' seqno') facts reply entries seqno k number size is = absurd (cc)
  ended sessions files t sound held here (Opens slot' seqno' number') facts reply entries seqno k number size is = absurd (cc)
  ended sessions files t sound held here (Writes slot' seqno' number' piece) facts reply entries seqno k number size is = absurd (cc)
  ended sessions files t sound held here (Keeps slot' seqno') facts reply entries seqno k number size is = absurd (cc)
  ended sessions files t sound held here (Ends slot' seqno' number' header parity') facts reply entries seqno k number size is =
      let at : ℕ = place t.input in
      let its : IsOpen sessions at facts.s = record { there = facts.at.there; phase = facts.open_ } in
      let held_there : IsOpen sessions at held.s = subst (λ i. IsOpen sessions (i - 1) held.s) (sym here) held.is_open in
      let same : held.s ≡ facts.s = let e : Some held.s ≡ Some facts.s = sym held_there.there ∙ its.there in cc in
      let number_is : number' ≡ n = facts.number_is ∙ ap (λ (u : Session). u.number) (sym same) ∙ held.number in
      record {
        small = subst (λ (m : ℕ). m < 65536) held.number (sound.small at held.s held_there);
        core = file_taken held.s;
        there = ap (λ (es : List Entry). file_after (vmcore_name n) (files (vmcore_name n)) es) (entries ∙ ap (λ (m : ℕ). entries_of (Ends slot' seqno' m header parity')) number_is)
            ∙ core_after n header parity' (files (vmcore_name n))
            ∙ ap (λ (m : ℕ). files (vmcore_name m)) (sym held.number)
            ∙ sound.kept at held.s held_there;
        none_open = λ i s open_ its_number.
            let stays = shut_stays sessions t.input (λ (u : Session). record u { phase = Done }) (λ u shut. absurd (cc)) i s
            (subst (λ (r : Reply). IsOpen (after_reply sessions t.input r) i s) reply open_) in
            let was = stays.was_open in
            stays.elsewhere facts.at.slot (sound.apart i at was.was held.s was.is_open held_there (was.number ∙ its_number ∙ sym held.number));
      }

  held_here : (sessions : List Session) (files : Files) (t : Turn) → AreSound sessions files → (held : IsOpenHere sessions) →
      t.input.slot ≡ slot → (t.reply ≡ Ignored skip.Broken → ⊥) → IsTurn sessions files t
      → (reply : Reply) → t.reply ≡ reply → IsHeld (after_reply sessions t.input t.reply) (files_after files t.entries)
  held_here sessions files t sound held here whole is (Finished seqno k number size) reply =
      elim is [
        | inl done ↦ inr (ended sessions files t sound held here (row_of sessions files t.input) (facts_of sessions files t.input) done.reply done.entries seqno k number size reply)
        | inr broken ↦ absurd (whole broken.reply)
      ]
  held_here sessions files t sound held here whole is (Ack k seqno) reply =
      let own = turn_here slot some sessions files t held.s here held.is_open.there whole is in
      let same : own_after t.input t.reply held.s ≡ told (message_of t.input.bytes) held.s = ap (λ (r : Reply). own_after t.input r held.s) reply in
      inl (record {
        s = own_after t.input t.reply held.s;
        is_open = record { there = own.after; phase = ap (λ (u : Session). u.phase) same ∙ told_phase (message_of t.input.bytes) held.s ∙ held.is_open.phase };
        number = ap (λ (u : Session). u.number) same ∙ told_number (message_of t.input.bytes) held.s ∙ held.number;
      })
  held_here sessions files t sound held here whole is (Opened k seqno number) reply =
      let own = turn_here slot some sessions files t held.s here held.is_open.there whole is in
      let same : own_after t.input t.reply held.s ≡ held.s = ap (λ (r : Reply). own_after t.input r held.s) reply in
      inl (record {
        s = own_after t.input t.reply held.s;
        is_open = record { there = own.after; phase = ap (λ (u : Session). u.phase) same ∙ held.is_open.phase };
        number =
            ap (λ (u : Session). u.number) same ∙ held.number;
      })
  held_here sessions files t sound held here whole is (Ignored why) reply =
      let own = turn_here slot some sessions files t held.s here held.is_open.there whole is in
      let same : own_after t.input t.reply held.s ≡ held.s = ap (λ (r : Reply). own_after t.input r held.s) reply in
      inl (record {
        s = own_after t.input t.reply held.s;
        is_open = record { there = own.after; phase = ap (λ (u : Session). u.phase) same ∙ held.is_open.phase };
        number =
            ap (λ (u : Session). u.number) same ∙ held.number;
      })

  pub alone_run : (sessions : List Session) (files : Files) (ts : List Turn) → AreSound sessions files → IsHeld sessions files →
      Each (IsWhole slot) ts → IsServerRun sessions files ts → Each (LeavesFiles slot n) ts
  alone_run sessions files [] sound held whole is = tt
  alone_run sessions files (t ∷ ts) sound (inr settled) whole is =
      let next = settled_turn n sessions files t sound settled is.0 in (
        (λ other. next.apart),
        alone_run (after_reply sessions t.input t.reply) (files_after files t.entries) ts
            (sound_turn sessions files sound t.input t.reply t.entries is.0) (inr next.settled) whole.1 is.1,
      )
  alone_run sessions files (t ∷ ts) sound (inl held) whole is =
      let sound_next : AreSound (after_reply sessions t.input t.reply) (files_after files t.entries) = sound_turn sessions files sound t.input t.reply t.entries is.0 in
      let next : IsHeld (after_reply sessions t.input t.reply) (files_after files t.entries) =
      elim (cases_eq t.input.slot slot) [
        | inl here ↦ held_here sessions files t sound held here (whole.0 here) is.0 t.reply refl
        | inr other ↦ inl (record {
          s = held.s;
          is_open = record { there = turn_elsewhere slot some sessions files t held.s other held.is_open.there is.0; phase = held.is_open.phase };
          number = held.number;
        })
      ] in
      ((λ other. apart_elsewhere sessions files t sound held other is.0), alone_run (after_reply sessions t.input t.reply) (files_after files t.entries) ts sound_next next whole.1 is.1)

-- a run from no session that reached an open one
pub alone_from : (slot : ℕ) (s : Session) (sessions : List Session) (files : Files) (before after : List Turn) → (slot ≡ 0 → ⊥)
    → AreSound sessions files → IsServerRun sessions files (before ++ after) → session_at (sessions_after sessions before) slot ≡ Some s → s.phase ≡ Open
    → Each (IsWhole slot) after → Each (LeavesFiles slot s.number) after
alone_from slot s sessions files [] after some sound run there open_ whole =
    alone_run slot s.number some sessions files after sound (inl (record { s = s; is_open = record { there = there; phase = open_ }; number = refl })) whole run
alone_from slot s sessions files (t ∷ before) after some sound run there open_ whole =
    alone_from slot s (after_reply sessions t.input t.reply) (files_after files t.entries) before after some (sound_turn sessions files sound t.input t.reply t.entries run.0) run.1 there open_ whole

pub others_leave : (slot : ℕ) (s : Session) (files : Files) (before after : List Turn) → (slot ≡ 0 → ⊥)
    → IsServerRun [] files (before ++ after) → session_at (sessions_after [] before) slot ≡ Some s → s.phase ≡ Open
    → Each (IsWhole slot) after → Each (LeavesFiles slot s.number) after
others_leave slot s files before after some run there open_ whole = alone_from slot s [] files before after some (no_session 0 files) run there open_ whole
