-- After a session is finished, no entry is on its files, in its run or in later ones.
use Rattle.std.proofs.Common.{◌≡◌, inl, inr, ◌⊎◌, ℕ, ◌<◌, List, [], ◌∷◌, ◌++◌, Some, None, refl, sym, ◌∙◌, ap, subst, append_assoc}
use Rattle.fd_site.specs.Journal.{Entry}
use Rattle.fd_netserver.specs.declared.reply.Reply.{Reply}
use Rattle.fd_netserver.specs.declared.reply.Skip.TheVariants as skip
use Rattle.fd_info.specs.Name.{vmcore_name}
use Rattle.fd_netserver.specs.Files.{Files, files_after}
use Rattle.fd_netserver.specs.Session.{Input, Open, Done, Session, Turn, opened, with_phase, after_reply}
use Rattle.fd_netserver.specs.Table.{Row, Skips, Repeats, Opens, Writes, Keeps, Ends, row_of}
use Rattle.fd_netserver.specs.History.{IsTurn, IsServerRun, AreServerRuns, entries_in, all_turns}
use Rattle.fd_netserver.proofs.Apart.{AreApart, Touches, free_number-is, file_after-none}
use Rattle.fd_netserver.proofs.Lists.{nth-behind, nth-none, Each-behind}
use Rattle.fd_netserver.proofs.Rows.{FactsOf, facts_of}
use Rattle.fd_netserver.proofs.Sound.{IsOpen, AreSound, WasOpen, place, with_taken, with_header, after_row, after_repeat}
use Rattle.fd_netserver.proofs.Sound.{after_writing, after_keeping, by_change, broken_stays, of_done, of_begun, sound_turn}

-- an open session after a row was there before, or has the row's number
pub open_from : (sessions : List Session) (files : Files) (input : Input) (row : Row) → FactsOf sessions files input row → (k : ℕ) (s : Session) → IsOpen (after_row sessions input row) k s
    → WasOpen sessions k s ⊎ Touches row s.number
open_from sessions files input (Skips skip.Broken) facts k s is = inl ((broken_stays sessions input k s is).was_open)
open_from sessions files input (Skips why) facts k s is = inl (record { was = s; is_open = is; number = refl })
open_from sessions files input (Repeats slot seqno) facts k s is =
    inl (record { was = s; is_open = subst (λ (l : List Session). IsOpen l k s) (after_repeat sessions input slot seqno facts) is; number = refl })
open_from sessions files input (Opens slot seqno number) facts k s is =
    elim (nth-behind sessions (opened input.peer number Open) k s is.there) [
      | inl old ↦ inl (record { was = s; is_open = record { there = old; phase = is.phase }; number = refl })
      | inr new ↦ inr (ap (λ (t : Session). t.number) (sym new.1))
    ]
open_from sessions files input (Writes slot seqno number piece) facts k s is =
    inl (by_change sessions input (with_taken piece) (λ t e. (e, refl)) k s (subst (λ (l : List Session). IsOpen l k s) (after_writing sessions input slot seqno number piece facts) is))
open_from sessions files input (Keeps slot seqno) facts k s is =
    inl (by_change sessions input (with_header facts.m.body) (λ t e. (e, refl)) k s (subst (λ (l : List Session). IsOpen l k s) (after_keeping sessions input slot seqno facts) is))
open_from sessions files input (Ends slot seqno number header parity) facts k s is =
    inl (by_change sessions input (with_phase Done) (λ t e. absurd (cc)) k s is)

pub entries_in-append : (ts us : List Turn) → entries_in (ts ++ us) ≡ entries_in ts ++ entries_in us
entries_in-append [] us = refl
entries_in-append (t ∷ ts) us = ap (λ l. t.entries ++ l) (entries_in-append ts us) ∙ sym (append_assoc t.entries (entries_in ts) (entries_in us))

-- a number whose file is there, and that no open session has
pub record IsSettled (n : ℕ) (sessions : List Session) (files : Files) : Type 0 where
  pub small : n < 65536
  pub core : List ℕ
  pub there : files (vmcore_name n) ≡ Some core
  pub none_open : (k : ℕ) (s : Session) → IsOpen sessions k s → s.number ≡ n → ⊥

module _ (n : ℕ) where
  untouched : (sessions : List Session) (files : Files) (input : Input) → IsSettled n sessions files → (row : Row) → FactsOf sessions files input row → Touches row n → ⊥
  untouched sessions files input settled (Skips why) facts touches = touches
  untouched sessions files input settled (Repeats slot seqno) facts touches = touches
  untouched sessions files input settled (Opens slot seqno number) facts touches =
      let none : files (vmcore_name number) ≡ None = (free_number-is files number facts.free).core in
      let same : files (vmcore_name number) ≡ files (vmcore_name n) = ap (λ m. files (vmcore_name m)) touches in
      let some = settled.there in
      absurd (cc)
  untouched sessions files input settled (Writes slot seqno number piece) facts touches =
      settled.none_open (place input) facts.s (record { there = facts.at.there; phase = facts.open_ }) (sym facts.number_is ∙ touches)
  untouched sessions files input settled (Keeps slot seqno) facts touches = touches
  untouched sessions files input settled (Ends slot seqno number header parity) facts touches =
      settled.none_open (place input) facts.s (record { there = facts.at.there; phase = facts.open_ }) (sym facts.number_is ∙ touches)

  -- no entry of a turn is on its files, and it stays settled
  pub record StaysSettled (sessions : List Session) (files : Files) (es : List Entry) : Type 0 where
    pub apart : AreApart n es
    pub settled : IsSettled n sessions files

  kept_file : (sessions after : List Session) (files : Files) (es : List Entry) → (settled : IsSettled n sessions files) → AreApart n es
      → ((k : ℕ) (s : Session) → IsOpen after k s → s.number ≡ n → ⊥) → IsSettled n after (files_after files es)
  kept_file sessions after files es settled apart none_open =
      record { small = settled.small; core = settled.core; there = file_after-none (vmcore_name n) (files (vmcore_name n)) es apart.core ∙ settled.there; none_open = none_open }

  pub settled_turn : (sessions : List Session) (files : Files) (t : Turn) → AreSound sessions files → IsSettled n sessions files → IsTurn sessions files t
      → StaysSettled (after_reply sessions t.input t.reply) (files_after files t.entries) t.entries
  settled_turn sessions files t sound settled is =
      let row : Row = row_of sessions files t.input in
      let facts = facts_of sessions files t.input in
      let off : Touches row n → ⊥ = untouched sessions files t.input settled row facts in
      elim is [
        | inl done ↦
            let apart : AreApart n t.entries = subst (AreApart n) (sym done.entries) (of_done sessions files sound t.input row facts n settled.small off) in
            record {
              apart = apart;
              settled = kept_file sessions (after_reply sessions t.input t.reply) files t.entries settled apart
                  (λ k s open_ same. elim (open_from sessions files t.input row facts k s (subst (λ (r : Reply). IsOpen (after_reply sessions t.input r) k s) done.reply open_)) [
                    | inl was ↦ settled.none_open k was.was was.is_open (was.number ∙ same)
                    | inr touches ↦ off (subst (Touches row) same touches)
                  ]);
            }
        | inr broken ↦
            let apart : AreApart n t.entries = of_begun sessions files sound t.input row t.entries facts broken.entries n settled.small off in
            record {
              apart = apart;
              settled = kept_file sessions (after_reply sessions t.input t.reply) files t.entries settled apart
                  (λ k s open_ same.
                  let was = (broken_stays sessions t.input k s (subst (λ (r : Reply). IsOpen (after_reply sessions t.input r) k s) broken.reply open_)).was_open in
                  settled.none_open k was.was was.is_open (was.number ∙ same));
            }
      ]

  pub both_apart : (es fs : List Entry) → AreApart n es → AreApart n fs → AreApart n (es ++ fs)
  both_apart es fs a b = record { core = Each-behind _ es fs a.core b.core; info = Each-behind _ es fs a.info b.info }

  -- nor of the rest of a run
  pub settled_run : (sessions : List Session) (files : Files) (ts : List Turn) → AreSound sessions files → IsSettled n sessions files → IsServerRun sessions files ts → AreApart n (entries_in ts)
  settled_run sessions files [] sound settled is = record { core = tt; info = tt }
  settled_run sessions files (t ∷ ts) sound settled is =
      let next = settled_turn sessions files t sound settled is.0 in
      both_apart t.entries (entries_in ts) next.apart
      (settled_run (after_reply sessions t.input t.reply) (files_after files t.entries) ts (sound_turn sessions files sound t.input t.reply t.entries is.0) next.settled is.1)

  -- nor of later runs
  pub no_session : (files : Files) → AreSound [] files
  no_session files = record {
    kept = λ k s is. absurd (nth-none k s is.there);
    small = λ k s is. absurd (nth-none k s is.there);
    apart = λ i k s t is it same. absurd (nth-none i s is.there);
  }

  pub settled_runs : (files : Files) (runs : List (List Turn)) → (core : List ℕ) → n < 65536 → files (vmcore_name n) ≡ Some core → AreServerRuns files runs → AreApart n (entries_in (all_turns runs))
  settled_runs files [] core small there are = record { core = tt; info = tt }
  settled_runs files (run ∷ runs) core small there are =
      let first : AreApart n (entries_in run) =
      settled_run [] files run (no_session files) (record { small = small; core = core; there = there; none_open = λ k s is same. nth-none k s is.there }) are.0 in
      let rest : AreApart n (entries_in (all_turns runs)) =
      settled_runs (files_after files (entries_in run)) runs core small (file_after-none (vmcore_name n) (files (vmcore_name n)) (entries_in run) first.core ∙ there) are.1 in
      subst (AreApart n) (sym (entries_in-append run (all_turns runs))) (both_apart (entries_in run) (entries_in (all_turns runs)) first rest)
