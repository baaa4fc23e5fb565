-- What holds of the sessions and the files of a server at every moment.
use Rattle.std.proofs.Common.{◌≡◌, inl, inr, ℕ, ◌-◌, ◌<◌, Bool, cond, ◌==◌, List, [], ◌∷◌, ◌++◌, Some, None, refl, sym, ◌∙◌, ap, subst}
use Rattle.std.proofs.lemmas.Bool.{cond_both, eqb-false, ne_eqb, eqb-true, cases_eq}
use Rattle.std.specs.Option.{option_map}
use Rattle.fd_site.specs.Journal.{Entry, Create, Write, file_after, file_written}
use Rattle.fd_netmsg.specs.Message.{Message, finished, vmcore, kdh, message_of}
use Rattle.fd_netserver.specs.declared.reply.Reply.{Reply}
use Rattle.fd_netserver.specs.declared.reply.Reply.TheVariants.{Ignored}
use Rattle.fd_netserver.specs.declared.reply.Skip.TheVariants as skip
use Rattle.fd_info.specs.Name.{info_name, vmcore_name}
use Rattle.fd_netserver.specs.Files.{Files, files_after}
use Rattle.fd_netserver.specs.Session.{Input, Piece, Open, Done, Broken, Session, opened, nth, change_at, told, with_piece, with_phase, after_reply, file_taken}
use Rattle.fd_netserver.specs.Table.{Row, Skips, Repeats, Opens, Writes, Keeps, Ends, reply_of, entries_of, row_of}
use Rattle.fd_site.specs.Begun.{IsBegun}
use Rattle.fd_netserver.specs.History.{IsTurn}
use Rattle.fd_netserver.proofs.Apart.{AreApart, Touches, IsNumbered, IsFreeNumber, free_number-is, row_apart, begun_on, file_after-none, bytes_eq-same}
use Rattle.fd_netserver.proofs.Lists.{nth-changed, nth-same, nth-behind, change-same, change-like, written_all-behind}
use Rattle.fd_netserver.proofs.Rows.{FactsOf, IsRepeat, IsOpening, IsWriting, IsKeeping, facts_of}

-- an open session in its place
pub record IsOpen (sessions : List Session) (k : ℕ) (s : Session) : Type 0 where
  pub there : nth sessions k ≡ Some s
  pub phase : s.phase ≡ Open

-- Each open session's file holds just what it took, and no two of them have the same number.
pub record AreSound (sessions : List Session) (files : Files) : Type 0 where
  pub kept : (k : ℕ) (s : Session) → IsOpen sessions k s → files (vmcore_name s.number) ≡ Some (file_taken s)
  pub small : (k : ℕ) (s : Session) → IsOpen sessions k s → s.number < 65536
  pub apart : (i k : ℕ) (s t : Session) → IsOpen sessions i s → IsOpen sessions k t → s.number ≡ t.number → i ≡ k

-- an open session after a turn that was there before it
pub record WasOpen (sessions : List Session) (k : ℕ) (now : Session) : Type 0 where
  pub was : Session
  pub is_open : IsOpen sessions k was
  pub number : was.number ≡ now.number

-- what a row leaves of the sessions
abbrev pub after_row : List Session → Input → Row → List Session
after_row sessions input row = after_reply sessions input (reply_of row)

-- the session of an input
abbrev pub place : Input → ℕ
place input = input.slot - 1

-- what rows make of a session
abbrev pub with_taken : Piece → Session → Session
with_taken p s = record s { taken = s.taken ++ p ∷ [] }

abbrev pub with_header : List ℕ → Session → Session
with_header bytes s = record s { header = Some bytes }

told_kind : (m : Message) (s : Session) (kind : ℕ) → m.kind ≡ kind → told (Some m) s ≡ cond (kind == vmcore) (with_piece m.offset m.body s) (cond (kind == kdh) (with_header m.body s) s)
told_kind m s kind is = ap (λ (n : ℕ). cond (n == vmcore) (with_piece m.offset m.body s) (cond (n == kdh) (with_header m.body s) s)) is

with_piece-some : (at : ℕ) (bytes : List ℕ) (s : Session) → (bytes ≡ [] → ⊥) → with_piece at bytes s ≡ with_taken (record { at = at; bytes = bytes }) s
with_piece-some at [] s some = absurd (some refl)
with_piece-some at (b ∷ bs) s some = refl

module _ (sessions : List Session) (input : Input) where
  at_slot : (f : Session → Session) → (input.slot ≡ 0 → ⊥) → cond (input.slot == 0) sessions (change_at f sessions input.slot) ≡ change_at f sessions input.slot
  at_slot f slot = ap (λ (b : Bool). cond b sessions (change_at f sessions input.slot)) (ne_eqb input.slot 0 slot)

  pub after_repeat : (slot seqno : ℕ) → IsRepeat sessions input seqno → after_row sessions input (Repeats slot seqno) ≡ sessions
  after_repeat slot seqno is =
      cond_both (input.slot == 0) sessions (change_at (told (message_of input.bytes)) sessions input.slot) (λ l. l ≡ sessions) (λ herald. refl)
      (λ session. change-same (told (message_of input.bytes)) sessions (place input)
      (λ s. ap (λ found. told found s) is.is_read ∙ elim is.why [
        | inl at_herald ↦ absurd (eqb-false input.slot 0 session at_herald.0)
        | inr why ↦ elim why [
          | inl again ↦ told_kind is.m s finished again.kind
          | inr empty ↦ told_kind is.m s vmcore empty.kind ∙ ap (λ bytes. with_piece is.m.offset bytes s) empty.body
        ]
      ]))

  pub after_writing : (slot seqno number : ℕ) (piece : Piece) → IsWriting sessions input seqno number piece
      → after_row sessions input (Writes slot seqno number piece) ≡ change_at (with_taken piece) sessions input.slot
  after_writing slot seqno number piece is =
      at_slot (told (message_of input.bytes)) is.at.slot
      ∙ change-like (told (message_of input.bytes)) (with_taken piece) sessions (place input)
      (λ s. ap (λ found. told found s) is.is_read ∙ told_kind is.m s vmcore is.kind
      ∙ ap (λ bytes. with_piece is.m.offset bytes s) is.body
      ∙ ap (λ at. with_piece at piece.bytes s) is.offset
      ∙ with_piece-some piece.at piece.bytes s is.some)

  pub after_keeping : (slot seqno : ℕ) → (is : IsKeeping sessions input seqno) → after_row sessions input (Keeps slot seqno) ≡ change_at (with_header is.m.body) sessions input.slot
  after_keeping slot seqno is =
      at_slot (told (message_of input.bytes)) is.at.slot
      ∙ change-like (told (message_of input.bytes)) (with_header is.m.body) sessions (place input)
      (λ s. ap (λ found. told found s) is.is_read ∙ told_kind is.m s kdh is.kind)

  -- a session whose change keeps it open keeps its number
  pub by_change : (f : Session → Session) → ((s : Session) → (f s).phase ≡ Open → (s.phase ≡ Open) × (s.number ≡ (f s).number))
      → (k : ℕ) (s : Session) → IsOpen (change_at f sessions input.slot) k s → WasOpen sessions k s
  by_change f keeps k s is =
      elim (cases_eq k (place input)) [
        | inl here ↦
            let changed = nth-changed f sessions (place input) s (subst (λ i. nth (change_at f sessions input.slot) i ≡ Some s) here is.there) in
            let before = keeps changed.0 (ap (λ (t : Session). t.phase) (sym changed.2) ∙ is.phase) in
            record {
              was = changed.0;
              is_open = record { there = subst (λ i. nth sessions i ≡ Some changed.0) (sym here) changed.1; phase = before.0 };
              number = before.1 ∙ ap (λ (t : Session). t.number) (sym changed.2);
            }
        | inr other ↦ record { was = s; is_open = record { there = sym (nth-same f sessions (place input) k other) ∙ is.there; phase = is.phase }; number = refl }
      ]

  -- a session that is no longer open isn't one of those that are
  elsewhere : (f : Session → Session) → ((s : Session) → (f s).phase ≡ Open → ⊥)
      → (k : ℕ) (s : Session) → IsOpen (change_at f sessions input.slot) k s → k ≡ place input → ⊥
  elsewhere f shut k s is here =
      let changed = nth-changed f sessions (place input) s (subst (λ i. nth (change_at f sessions input.slot) i ≡ Some s) here is.there) in
      shut changed.0 (ap (λ (t : Session). t.phase) (sym changed.2) ∙ is.phase)

  -- after a row that was broken off
  pub record StaysOpen (k : ℕ) (s : Session) : Type 0 where
    pub was_open : WasOpen sessions k s
    pub same : was_open.was ≡ s
    pub elsewhere : (input.slot ≡ 0 → ⊥) → k ≡ place input → ⊥

  pub shut_stays : (f : Session → Session) → ((s : Session) → (f s).phase ≡ Open → ⊥) → (k : ℕ) (s : Session) → IsOpen (change_at f sessions input.slot) k s → StaysOpen k s
  shut_stays f shut k s is =
      let other = elsewhere f shut k s is in
      record {
        was_open = record { was = s; is_open = record { there = sym (nth-same f sessions (place input) k other) ∙ is.there; phase = is.phase }; number = refl };
        same = refl;
        elsewhere = λ slot. other;
      }

  pub broken_stays : (k : ℕ) (s : Session) → IsOpen (after_reply sessions input (Ignored skip.Broken)) k s → StaysOpen k s
  broken_stays k s =
      cond_both (input.slot == 0) (sessions ++ opened input.peer 0 Broken ∷ []) (change_at (with_phase Broken) sessions input.slot) (λ l. IsOpen l k s → StaysOpen k s)
      (λ herald is. elim (nth-behind sessions (opened input.peer 0 Broken) k s is.there) [
        | inl old ↦ record {
          was_open = record { was = s; is_open = record { there = old; phase = is.phase }; number = refl };
          same = refl;
          elsewhere = λ slot here. slot (eqb-true input.slot 0 herald);
        }
        | inr new ↦ let phase : Broken ≡ Open = ap (λ (t : Session). t.phase) (sym new.1) ∙ is.phase in absurd (cc)
      ])
      (λ session is. shut_stays (with_phase Broken) (λ t e. absurd (cc)) k s is)

module _ (sessions : List Session) (files : Files) (sound : AreSound sessions files) (input : Input) where
  -- the numbers of rows
  pub numbered : (row : Row) → FactsOf sessions files input row → IsNumbered row
  numbered (Skips why) facts n touches = absurd touches
  numbered (Repeats slot seqno) facts n touches = absurd touches
  numbered (Opens slot seqno number) facts n touches = subst (λ m. m < 65536) touches ((free_number-is files number facts.free).small)
  numbered (Writes slot seqno number piece) facts n touches =
      subst (λ m. m < 65536) (sym facts.number_is ∙ touches) (sound.small (place input) facts.s (record { there = facts.at.there; phase = facts.open_ }))
  numbered (Keeps slot seqno) facts n touches = absurd touches
  numbered (Ends slot seqno number header parity) facts n touches =
      subst (λ m. m < 65536) (sym facts.number_is ∙ touches) (sound.small (place input) facts.s (record { there = facts.at.there; phase = facts.open_ }))

  -- a session elsewhere isn't touched
  pub not_touched : (row : Row) → FactsOf sessions files input row → (k : ℕ) (s : Session) → (was : WasOpen sessions k s)
      → ((input.slot ≡ 0 → ⊥) → k ≡ place input → ⊥) → Touches row s.number → ⊥
  not_touched (Skips why) facts k s was other touches = touches
  not_touched (Repeats slot seqno) facts k s was other touches = touches
  not_touched (Opens slot seqno number) facts k s was other touches =
      let none : files (vmcore_name number) ≡ None = (free_number-is files number facts.free).core in
      let some : files (vmcore_name was.was.number) ≡ Some (file_taken was.was) = sound.kept k was.was was.is_open in
      let same : files (vmcore_name was.was.number) ≡ files (vmcore_name number) = ap (λ n. files (vmcore_name n)) (was.number ∙ sym touches) in
      absurd (cc)
  not_touched (Writes slot seqno number piece) facts k s was other touches =
      other facts.at.slot (sound.apart k (place input) was.was facts.s was.is_open (record { there = facts.at.there; phase = facts.open_ }) (was.number ∙ sym touches ∙ facts.number_is))
  not_touched (Keeps slot seqno) facts k s was other touches = touches
  not_touched (Ends slot seqno number header parity) facts k s was other touches =
      other facts.at.slot (sound.apart k (place input) was.was facts.s was.is_open (record { there = facts.at.there; phase = facts.open_ }) (was.number ∙ sym touches ∙ facts.number_is))

  -- entries that leave the files of each number as they are that the row doesn't touch
  abbrev pub AreOf : Row → List Entry → Type 0
  AreOf row es = (n : ℕ) → n < 65536 → (Touches row n → ⊥) → AreApart n es

  -- an open session that the row leaves alone
  pub record IsLeft (row : Row) (k : ℕ) (s : Session) : Type 0 where
    pub was_open : WasOpen sessions k s
    pub file : file_taken was_open.was ≡ file_taken s
    pub untouched : Touches row s.number → ⊥

  left_file : (row : Row) (es : List Entry) → AreOf row es → (k : ℕ) (s : Session) → IsLeft row k s → files_after files es (vmcore_name s.number) ≡ Some (file_taken s)
  left_file row es of k s is =
      let was = is.was_open in
      let small : s.number < 65536 = subst (λ n. n < 65536) was.number (sound.small k was.was was.is_open) in
      file_after-none (vmcore_name s.number) (files (vmcore_name s.number)) es ((of s.number small is.untouched).core)
      ∙ ap (λ n. files (vmcore_name n)) (sym was.number)
      ∙ sound.kept k was.was was.is_open
      ∙ ap (λ (l : List ℕ). Some l) is.file

  sound_from : (after : List Session) (files' : Files)
      → ((k : ℕ) (s : Session) → IsOpen after k s → WasOpen sessions k s × (files' (vmcore_name s.number) ≡ Some (file_taken s)))
      → AreSound after files'
  sound_from after files' from = record {
    kept = λ k s is. (from k s is).1;
    small = λ k s is. let was = (from k s is).0 in subst (λ n. n < 65536) was.number (sound.small k was.was was.is_open);
    apart = λ i k s t is it same.
        let was = (from i s is).0 in
        let had = (from k t it).0 in
        sound.apart i k was.was had.was was.is_open had.is_open (was.number ∙ same ∙ sym had.number);
  }

  left_sound : (row : Row) (es : List Entry) → AreOf row es → (after : List Session) → ((k : ℕ) (s : Session) → IsOpen after k s → IsLeft row k s) → AreSound after (files_after files es)
  left_sound row es of after lefts = sound_from after (files_after files es) (λ k s is. ((lefts k s is).was_open, left_file row es of k s (lefts k s is)))

  broken_left : (row : Row) → FactsOf sessions files input row → (k : ℕ) (s : Session) → IsOpen (after_reply sessions input (Ignored skip.Broken)) k s → IsLeft row k s
  broken_left row facts k s is =
      let stays = broken_stays sessions input k s is in
      record { was_open = stays.was_open; file = ap file_taken stays.same; untouched = not_touched row facts k s stays.was_open stays.elsewhere }

  pub sound_broken : (row : Row) (es : List Entry) → FactsOf sessions files input row → AreOf row es → AreSound (after_reply sessions input (Ignored skip.Broken)) (files_after files es)
  sound_broken row es facts of = left_sound row es of (after_reply sessions input (Ignored skip.Broken)) (broken_left row facts)

  abbrev pub here_again : (k : ℕ) (s : Session) → IsOpen sessions k s → WasOpen sessions k s
  here_again k s is = record { was = s; is_open = is; number = refl }

  pub of_done : (row : Row) → FactsOf sessions files input row → AreOf row (entries_of row)
  of_done row facts n fits other = row_apart row n fits (numbered row facts) other

  pub of_begun : (row : Row) (es : List Entry) → FactsOf sessions files input row → IsBegun (entries_of row) es → AreOf row es
  of_begun row es facts begun n fits other =
      let whole = of_done row facts n fits other in
      record { core = begun_on (vmcore_name n) (entries_of row) es begun whole.core; info = begun_on (info_name n) (entries_of row) es begun whole.info }

  -- a new session
  opening_left : (slot seqno number : ℕ) → IsOpening files input seqno number → (k : ℕ) (s : Session) → IsOpen sessions k s → IsLeft (Opens slot seqno number) k s
  opening_left slot seqno number facts k s is =
      record { was_open = here_again k s is; file = refl; untouched = not_touched (Opens slot seqno number) facts k s (here_again k s is) (λ slot here. slot facts.slot) }

  sound_opens : (slot seqno number : ℕ) → IsOpening files input seqno number → AreSound (sessions ++ opened input.peer number Open ∷ []) (files_after files (Create (vmcore_name number) ∷ []))
  sound_opens slot seqno number facts =
      let row : Row = Opens slot seqno number in
      let new : Session = opened input.peer number Open in
      let free : IsFreeNumber files number = free_number-is files number facts.free in
      let old_left : (k : ℕ) (s : Session) → IsOpen sessions k s → IsLeft row k s = opening_left slot seqno number facts in
      record {
        kept = λ k s is. elim (nth-behind sessions new k s is.there) [
          | inl old ↦ left_file row (entries_of row) (of_done row facts) k s (old_left k s (record { there = old; phase = is.phase }))
          | inr last ↦ subst (λ (t : Session). files_after files (Create (vmcore_name number) ∷ []) (vmcore_name t.number) ≡ Some (file_taken t)) (sym last.1)
              (ap (λ (b : Bool). cond b (Some []) (files (vmcore_name number))) (bytes_eq-same (vmcore_name number)))
        ];
        small = λ k s is. elim (nth-behind sessions new k s is.there) [
          | inl old ↦ sound.small k s (record { there = old; phase = is.phase })
          | inr last ↦ subst (λ (t : Session). t.number < 65536) (sym last.1) free.small
        ];
        apart = λ i k s t is it same. elim (nth-behind sessions new i s is.there) [
          | inl old ↦ elim (nth-behind sessions new k t it.there) [
            | inl old' ↦ sound.apart i k s t (record { there = old; phase = is.phase }) (record { there = old'; phase = it.phase }) same
            | inr last' ↦ absurd ((old_left i s (record { there = old; phase = is.phase })).untouched (ap (λ (u : Session). u.number) (sym last'.1) ∙ sym same))
          ]
          | inr last ↦ elim (nth-behind sessions new k t it.there) [
            | inl old' ↦ absurd ((old_left k t (record { there = old'; phase = it.phase })).untouched (ap (λ (u : Session). u.number) (sym last.1) ∙ same))
            | inr last' ↦ last.0 ∙ sym last'.0
          ]
        ];
      }

  -- a piece
  writes_from : (slot seqno number : ℕ) (piece : Piece) → (facts : IsWriting sessions input seqno number piece) → (k : ℕ) (s : Session)
      → IsOpen (change_at (with_taken piece) sessions input.slot) k s
      → WasOpen sessions k s × (files_after files (Write (vmcore_name number) piece.at piece.bytes ∷ []) (vmcore_name s.number) ≡ Some (file_taken s))
  writes_from slot seqno number piece facts k s is =
      let row : Row = Writes slot seqno number piece in
      let whole = change_at (with_taken piece) sessions input.slot in
      elim (cases_eq k (place input)) [
        | inl here ↦
            let changed = nth-changed (with_taken piece) sessions (place input) s (subst (λ i. nth whole i ≡ Some s) here is.there) in
            let was : Session = changed.0 in
            let same : was ≡ facts.s = let e : Some was ≡ Some facts.s = sym changed.1 ∙ facts.at.there in cc in
            let open_ : IsOpen sessions k was = record { there = subst (λ i. nth sessions i ≡ Some was) (sym here) changed.1; phase = ap (λ (t : Session). t.phase) same ∙ facts.open_ } in
            let number_is : was.number ≡ number = ap (λ (t : Session). t.number) same ∙ sym facts.number_is in
            let file_was : files (vmcore_name number) ≡ Some (file_taken was) = ap (λ n. files (vmcore_name n)) (sym number_is) ∙ sound.kept k was open_ in (
              record { was = was; is_open = open_; number = ap (λ (t : Session). t.number) (sym changed.2) },
              subst (λ (t : Session). files_after files (Write (vmcore_name number) piece.at piece.bytes ∷ []) (vmcore_name t.number) ≡ Some (file_taken t)) (sym changed.2)
                  (subst (λ n. file_after (vmcore_name n) (files (vmcore_name n)) (Write (vmcore_name number) piece.at piece.bytes ∷ []) ≡ Some (file_taken (with_taken piece was))) (sym number_is)
                  (ap (λ (b : Bool). cond b
                  (option_map (λ file. file_written file piece.at piece.bytes) (files (vmcore_name number)))
                  (files (vmcore_name number))) (bytes_eq-same (vmcore_name number))
                  ∙ ap (option_map (λ file. file_written file piece.at piece.bytes)) file_was
                  ∙ ap (λ (l : List ℕ). Some l) (sym (written_all-behind [] was.taken piece)))),
            )
        | inr other ↦
            let was : WasOpen sessions k s = here_again k s (record { there = sym (nth-same (with_taken piece) sessions (place input) k other) ∙ is.there; phase = is.phase }) in
            let left : IsLeft row k s = record { was_open = was; file = refl; untouched = not_touched row facts k s was (λ slot. other) } in
            (was, left_file row (entries_of row) (of_done row facts) k s left)
      ]

  -- a row that was done
  pub sound_done : (row : Row) → FactsOf sessions files input row → AreSound (after_row sessions input row) (files_after files (entries_of row))
  sound_done (Skips skip.Broken) facts = sound_broken (Skips skip.Broken) [] facts (of_done (Skips skip.Broken) facts)
  sound_done (Skips why) facts = sound
  sound_done (Repeats slot seqno) facts = subst (λ (l : List Session). AreSound l files) (sym (after_repeat sessions input slot seqno facts)) sound
  sound_done (Opens slot seqno number) facts = sound_opens slot seqno number facts
  sound_done (Writes slot seqno number piece) facts =
      subst (λ (l : List Session). AreSound l (files_after files (Write (vmcore_name number) piece.at piece.bytes ∷ []))) (sym (after_writing sessions input slot seqno number piece facts))
      (sound_from (change_at (with_taken piece) sessions input.slot) (files_after files (Write (vmcore_name number) piece.at piece.bytes ∷ [])) (writes_from slot seqno number piece facts))
  sound_done (Keeps slot seqno) facts =
      subst (λ (l : List Session). AreSound l files) (sym (after_keeping sessions input slot seqno facts))
      (left_sound (Keeps slot seqno) [] (of_done (Keeps slot seqno) facts) (change_at (with_header facts.m.body) sessions input.slot)
      (λ k s is. keeping_left facts.m.body k s is))
    where
      keeping_left : (bytes : List ℕ) (k : ℕ) (s : Session) → IsOpen (change_at (with_header bytes) sessions input.slot) k s → IsLeft (Keeps slot seqno) k s
      keeping_left bytes k s is =
          elim (cases_eq k (place input)) [
            | inl here ↦
                let changed = nth-changed (with_header bytes) sessions (place input) s (subst (λ i. nth (change_at (with_header bytes) sessions input.slot) i ≡ Some s) here is.there) in
                record {
                  was_open = record {
                    was = changed.0;
                    is_open = record { there = subst (λ i. nth sessions i ≡ Some changed.0) (sym here) changed.1; phase = ap (λ (t : Session). t.phase) (sym changed.2) ∙ is.phase };
                    number = ap (λ (t : Session). t.number) (sym changed.2);
                  };
                  file = ap file_taken (sym changed.2);
                  untouched = λ touches. touches;
                }
            | inr other ↦ record {
              was_open = record { was = s; is_open = record { there = sym (nth-same (with_header bytes) sessions (place input) k other) ∙ is.there; phase = is.phase }; number = refl };
              file = refl;
              untouched = λ touches. touches;
            }
          ]
  sound_done (Ends slot seqno number header parity) facts =
      let row : Row = Ends slot seqno number header parity in
      left_sound row (entries_of row) (of_done row facts) (change_at (with_phase Done) sessions input.slot)
      (λ k s is. let stays = shut_stays sessions input (with_phase Done) (λ t e. absurd (cc)) k s is in
      record { was_open = stays.was_open; file = ap file_taken stays.same; untouched = not_touched row facts k s stays.was_open stays.elsewhere })

  pub sound_turn : (reply : Reply) (es : List Entry) →
      IsTurn sessions files (record { input = input; reply = reply; entries = es }) →
      AreSound (after_reply sessions input reply) (files_after files es)
  sound_turn reply es is =
      let row : Row = row_of sessions files input in
      let facts = facts_of sessions files input in
      elim is [
        | inl done ↦ subst (λ (r : Reply). AreSound (after_reply sessions input r) (files_after files es)) (sym done.reply)
            (subst (λ (l : List Entry). AreSound (after_row sessions input row) (files_after files l)) (sym done.entries) (sound_done row facts))
        | inr broken ↦ subst (λ (r : Reply). AreSound (after_reply sessions input r) (files_after files es)) (sym broken.reply)
            (sound_broken row es facts (of_begun row es facts broken.entries))
      ]
