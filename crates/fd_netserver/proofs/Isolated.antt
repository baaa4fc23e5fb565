-- What a server answers on a slot, and what its session takes, depends on what comes on that slot alone.
use Rattle.std.proofs.Common.{◌≡◌, inl, inr, ℕ, zero, suc, ◌-◌, Bool, true, false, cond, ◌==◌, List, [], ◌∷◌, ◌++◌, Option, Some, None, refl, sym, ◌∙◌, ap, subst, arith}
use Rattle.std.proofs.lemmas.Bool.{cond_both, eqb-true, eqb-false, ne_eqb}
use Rattle.fd_netmsg.specs.Message.{Message, message_of}
use Rattle.fd_netserver.specs.declared.reply.Reply.{Reply}
use Rattle.fd_netserver.specs.declared.reply.Reply.TheVariants.{Opened, Ack, Finished, Ignored}
use Rattle.fd_netserver.specs.declared.reply.Skip.TheVariants as skip
use Rattle.fd_netserver.specs.Files.{Files, files_after}
use Rattle.fd_netserver.specs.Session.{Input, Open, Done, Broken, Session, Turn, opened, session_at, nth, change_nth, change_at, told, with_phase, after_reply, sessions_after}
use Rattle.fd_netserver.specs.Table.{Row, Skips, Repeats, Opens, Writes, Keeps, Ends, reply_of, row_of, session_row, message_row, herald_row}
use Rattle.fd_netserver.specs.History.{IsTurn, IsServerRun, on_slot, inputs_of, replies_of, NoneBroken}
use Rattle.fd_netserver.proofs.Lists.{nth-same}
use Rattle.fd_netserver.proofs.Rows.{FactsOf, facts_of}

nth-front : (ss more : List Session) (k : ℕ) (s : Session) → nth ss k ≡ Some s → nth (ss ++ more) k ≡ Some s
nth-front [] more k s is = absurd (cc)
nth-front (t ∷ ss) more zero s is = is
nth-front (t ∷ ss) more (suc k) s is = nth-front ss more k s is

nth-change : (f : Session → Session) (ss : List Session) (k : ℕ) (s : Session) → nth ss k ≡ Some s → nth (change_nth f ss k) k ≡ Some (f s)
nth-change f [] k s is = absurd (cc)
nth-change f (t ∷ ss) zero s is = let same : t ≡ s = some_is t s is in ap (λ (u : Session). Some (f u)) same
  where
    some_is : (a b : Session) → Some a ≡ Some b → a ≡ b
    some_is a b e = cc
nth-change f (t ∷ ss) (suc k) s is = nth-change f ss k s is

-- the row and the change by the session alone
abbrev pub own_read : Input → Session → Option Message → Row
own_read input s None = Skips skip.NotMessage
own_read input s (Some m) = session_row input.slot input.peer m (Some s)

abbrev pub own_row : Input → Session → Row
own_row input s = own_read input s (message_of input.bytes)

abbrev pub own_after : Input → Reply → Session → Session
own_after input (Opened slot seqno number) s = s
own_after input (Ack slot seqno) s = told (message_of input.bytes) s
own_after input (Finished seqno slot number size) s = with_phase Done s
own_after input (Ignored why) s = s

abbrev pub own_replies : Session → List Input → List Reply
own_replies s [] = []
own_replies s (input ∷ inputs) = reply_of (own_row input s) ∷ own_replies (own_after input (reply_of (own_row input s)) s) inputs

abbrev pub own_end : Session → List Input → Session
own_end s [] = s
own_end s (input ∷ inputs) = own_end (own_after input (reply_of (own_row input s)) s) inputs

module _ (slot : ℕ) (some : slot ≡ 0 → ⊥) where
  abbrev Has : List Session → Session → Type 0
  Has sessions s = session_at sessions slot ≡ Some s

  -- elsewhere
  pub other_place : (k : ℕ) → (k ≡ slot → ⊥) → (k ≡ 0 → ⊥) → slot - 1 ≡ k - 1 → ⊥
  other_place k other pos same = other (go k slot pos some same)
    where
      go : (a b : ℕ) → (a ≡ 0 → ⊥) → (b ≡ 0 → ⊥) → b - 1 ≡ a - 1 → a ≡ b
      go a b pos_a pos_b e = omega arith

  changed_elsewhere : (sessions : List Session) (input : Input) (f : Session → Session) (s : Session) →
      (input.slot ≡ slot → ⊥) → (input.slot ≡ 0 → ⊥) → Has sessions s → Has (change_at f sessions input.slot) s
  changed_elsewhere sessions input f s other pos has = nth-same f sessions (input.slot - 1) (slot - 1) (other_place input.slot other pos) ∙ has

  broken_elsewhere : (sessions : List Session) (input : Input) (s : Session) → (input.slot ≡ slot → ⊥) → Has sessions s → Has (after_reply sessions input (Ignored skip.Broken)) s
  broken_elsewhere sessions input s other has =
      cond_both (input.slot == 0) (sessions ++ opened input.peer 0 Broken ∷ []) (change_at (with_phase Broken) sessions input.slot) (λ l. Has l s)
      (λ herald. nth-front sessions (opened input.peer 0 Broken ∷ []) (slot - 1) s has)
      (λ session. changed_elsewhere sessions input (with_phase Broken) s other (eqb-false input.slot 0 session) has)

  acked_elsewhere : (sessions : List Session) (input : Input) (s : Session) → (input.slot ≡ slot → ⊥) → Has sessions s → (k seqno : ℕ) → Has (after_reply sessions input (Ack k seqno)) s
  acked_elsewhere sessions input s other has k seqno =
      cond_both (input.slot == 0) sessions (change_at (told (message_of input.bytes)) sessions input.slot) (λ l. Has l s)
      (λ herald. has)
      (λ session. changed_elsewhere sessions input (told (message_of input.bytes)) s other (eqb-false input.slot 0 session) has)

  row_elsewhere : (sessions : List Session) (files : Files) (input : Input) (s : Session) → (input.slot ≡ slot → ⊥) →
      Has sessions s → (row : Row) → FactsOf sessions files input row → Has (after_reply sessions input (reply_of row)) s
  row_elsewhere sessions files input s other has (Skips skip.Broken) facts = broken_elsewhere sessions input s other has
  row_elsewhere sessions files input s other has (Skips why) facts = has
  row_elsewhere sessions files input s other has (Repeats k seqno) facts = acked_elsewhere sessions input s other has k seqno
  row_elsewhere sessions files input s other has (Opens k seqno number) facts = nth-front sessions (opened input.peer number Open ∷ []) (slot - 1) s has
  row_elsewhere sessions files input s other has (Writes k seqno number piece) facts = acked_elsewhere sessions input s other has k seqno
  row_elsewhere sessions files input s other has (Keeps k seqno) facts = acked_elsewhere sessions input s other has k seqno
  row_elsewhere sessions files input s other has (Ends k seqno number header size) facts = changed_elsewhere sessions input (with_phase Done) s other facts.at.slot has

  pub turn_elsewhere : (sessions : List Session) (files : Files) (t : Turn) (s : Session) → (t.input.slot ≡ slot → ⊥) →
      Has sessions s → IsTurn sessions files t → Has (after_reply sessions t.input t.reply) s
  turn_elsewhere sessions files t s other has is =
      elim is [
        | inl done ↦ subst (λ (r : Reply). Has (after_reply sessions t.input r) s) (sym done.reply)
            (row_elsewhere sessions files t.input s other has (row_of sessions files t.input) (facts_of sessions files t.input))
        | inr broken ↦ subst (λ (r : Reply). Has (after_reply sessions t.input r) s) (sym broken.reply) (broken_elsewhere sessions t.input s other has)
      ]

  -- on the slot
  row_here : (sessions : List Session) (files : Files) (input : Input) (s : Session) → input.slot ≡ slot → Has sessions s → row_of sessions files input ≡ own_row input s
  unfolding row_of
  row_here sessions files input s here has = by_read (message_of input.bytes)
    where
      not_herald : (input.slot == 0) ≡ false
      not_herald = ne_eqb input.slot 0 (λ e. some (sym here ∙ e))

      by_read : (found : Option Message) → message_row sessions files input found ≡ own_read input s found
      by_read None = refl
      by_read (Some m) =
          ap (λ (b : Bool). cond b (herald_row sessions files input.peer m) (session_row input.slot input.peer m (session_at sessions input.slot))) not_herald
          ∙ ap (session_row input.slot input.peer m) (ap (session_at sessions) here ∙ has)

  -- the session after a reply that isn't Broken and isn't Opened
  after_here : (sessions : List Session) (input : Input) (s : Session) (reply : Reply) → input.slot ≡ slot → Has sessions s →
      (reply ≡ Ignored skip.Broken → ⊥) → ((k seqno number : ℕ) → reply ≡ Opened k seqno number → ⊥)
      → Has (after_reply sessions input reply) (own_after input reply s)
  after_here sessions input s (Opened k seqno number) here has whole not_open = absurd (not_open k seqno number refl)
  after_here sessions input s (Ack k seqno) here has whole not_open =
      subst (λ (l : List Session). Has l (told (message_of input.bytes) s))
      (sym (ap (λ (b : Bool). cond b sessions (change_at (told (message_of input.bytes)) sessions input.slot))
      (ne_eqb input.slot 0 (λ e. some (sym here ∙ e)))))
      (subst (λ k. nth (change_nth (told (message_of input.bytes)) sessions (k - 1)) (slot - 1) ≡ Some
      (told (message_of input.bytes) s)) (sym here) (nth-change (told (message_of input.bytes)) sessions (slot - 1) s has))
  after_here sessions input s (Finished seqno k number size) here has whole not_open =
      subst (λ k. nth (change_nth (with_phase Done) sessions (k - 1)) (slot - 1) ≡ Some (with_phase Done s)) (sym here) (nth-change (with_phase Done) sessions (slot - 1) s has)
  after_here sessions input s (Ignored skip.Broken) here has whole not_open = absurd (whole refl)
  after_here sessions input s (Ignored why) here has whole not_open = has

  not_opened : (sessions : List Session) (files : Files) (input : Input) → input.slot ≡ slot → (row : Row) →
      FactsOf sessions files input row → (k seqno number : ℕ) → reply_of row ≡ Opened k seqno number → ⊥
  not_opened sessions files input here (Skips why) facts k seqno number is = absurd (cc)
  not_opened sessions files input here (Repeats slot' seqno') facts k seqno number is = absurd (cc)
  not_opened sessions files input here (Opens slot' seqno' number') facts k seqno number is = some (sym here ∙ facts.slot)
  not_opened sessions files input here (Writes slot' seqno' number' piece) facts k seqno number is = absurd (cc)
  not_opened sessions files input here (Keeps slot' seqno') facts k seqno number is = absurd (cc)
  not_opened sessions files input here (Ends slot' seqno' number' header size) facts k seqno number is = absurd (cc)

  -- a turn on the slot
  pub record IsOwn (sessions : List Session) (t : Turn) (s : Session) : Type 0 where
    pub reply : t.reply ≡ reply_of (own_row t.input s)
    pub after : Has (after_reply sessions t.input t.reply) (own_after t.input t.reply s)

  pub turn_here : (sessions : List Session) (files : Files) (t : Turn) (s : Session) → t.input.slot ≡ slot → Has sessions s →
      (t.reply ≡ Ignored skip.Broken → ⊥) → IsTurn sessions files t → IsOwn sessions t s
  turn_here sessions files t s here has whole is =
      elim is [
        | inr broken ↦ absurd (whole broken.reply)
        | inl done ↦ record {
          reply = done.reply ∙ ap reply_of (row_here sessions files t.input s here has);
          after = after_here sessions t.input s t.reply here has whole
              (λ k seqno number e. not_opened sessions files t.input here (row_of sessions files t.input) (facts_of sessions files t.input) k seqno number (sym done.reply ∙ e));
        }
      ]

  -- a run
  pub record IsOwnRun (sessions : List Session) (ts : List Turn) (s : Session) : Type 0 where
    pub replies : replies_of (on_slot slot ts) ≡ own_replies s (inputs_of (on_slot slot ts))
    pub end : Has (sessions_after sessions ts) (own_end s (inputs_of (on_slot slot ts)))

  pub own_run : (sessions : List Session) (files : Files) (ts : List Turn) (s : Session) → Has sessions s → NoneBroken (on_slot slot ts) → IsServerRun sessions files ts → IsOwnRun sessions ts s
  own_run sessions files [] s has whole is = record { replies = refl; end = has }
  own_run sessions files (t ∷ ts) s has whole is =
      by_test (t.input.slot == slot) refl whole (own_run (after_reply sessions t.input t.reply) (files_after files t.entries) ts)
    where
      by_test : (b : Bool) → (t.input.slot == slot) ≡ b → NoneBroken (cond b (t ∷ on_slot slot ts) (on_slot slot ts))
          → ((u : Session) → Has (after_reply sessions t.input t.reply) u → NoneBroken (on_slot slot ts) → IsServerRun (after_reply sessions t.input t.reply) (files_after files t.entries) ts
          → IsOwnRun (after_reply sessions t.input t.reply) ts u)
          → IsOwnRun sessions (t ∷ ts) s
      by_test true test whole rest =
          let own : IsOwn sessions t s = turn_here sessions files t s (eqb-true t.input.slot slot test) has whole.0 is.0 in
          let more = rest (own_after t.input t.reply s) own.after whole.1 is.1 in
          let list : on_slot slot (t ∷ ts) ≡ t ∷ on_slot slot ts = ap (λ (b : Bool). cond b (t ∷ on_slot slot ts) (on_slot slot ts)) test in
          record {
            replies = ap replies_of list
                ∙ ap (λ l. t.reply ∷ l) more.replies
                ∙ ap (λ (r : Reply). r ∷ own_replies (own_after t.input r s) (inputs_of (on_slot slot ts))) own.reply
                ∙ ap (λ (l : List Turn). own_replies s (inputs_of l)) (sym list);
            end = more.end
                ∙ ap (λ (r : Reply). Some (own_end (own_after t.input r s) (inputs_of (on_slot slot ts)))) own.reply
                ∙ ap (λ (l : List Turn). Some (own_end s (inputs_of l))) (sym list);
          }
      by_test false test whole rest =
          let more = rest s (turn_elsewhere sessions files t s (eqb-false t.input.slot slot test) has is.0) whole is.1 in
          let list : on_slot slot (t ∷ ts) ≡ on_slot slot ts = ap (λ (b : Bool). cond b (t ∷ on_slot slot ts) (on_slot slot ts)) test in
          record {
            replies = ap replies_of list ∙ more.replies ∙ ap (λ (l : List Turn). own_replies s (inputs_of l)) (sym list);
            end = more.end ∙ ap (λ (l : List Turn). Some (own_end s (inputs_of l))) (sym list);
          }

pub apart : (slot : ℕ) (s : Session) (one two : List Session) (files_one files_two : Files) (turns_one turns_two : List Turn)
    → (slot ≡ 0 → ⊥) → session_at one slot ≡ Some s → session_at two slot ≡ Some s
    → IsServerRun one files_one turns_one → IsServerRun two files_two turns_two
    → inputs_of (on_slot slot turns_one) ≡ inputs_of (on_slot slot turns_two)
    → NoneBroken (on_slot slot turns_one) → NoneBroken (on_slot slot turns_two)
    → (replies_of (on_slot slot turns_one) ≡ replies_of (on_slot slot turns_two))
    × (session_at (sessions_after one turns_one) slot ≡ session_at (sessions_after two turns_two) slot)
apart slot s one two files_one files_two turns_one turns_two some has_one has_two run_one run_two same whole_one whole_two =
    let a = own_run slot some one files_one turns_one s has_one whole_one run_one in
    let b = own_run slot some two files_two turns_two s has_two whole_two run_two in (
      a.replies ∙ ap (own_replies s) same ∙ sym b.replies,
      a.end ∙ ap (λ (l : List Input). Some (own_end s l)) same ∙ sym b.end,
    )
