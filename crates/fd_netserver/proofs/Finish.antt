-- A session of a client that sends one dump and one header: where it is finished, its files are the dump's.
use Rattle.std.proofs.Common.{◌≡◌, inl, inr, ◌⊎◌, ℕ, ◌+◌, ◌<◌, Bool, true, false, cond, List, [], ◌∷◌, ◌++◌, length, Option, Some, refl, sym, ◌∙◌, ap, subst, arith, append_assoc}
use Rattle.std.proofs.lemmas.List.{append-nil, drop_all}
use Rattle.std.proofs.lemmas.Bool.{cases_Bool, eq-eqb, and_from}
use Rattle.std.specs.Option.{option_map}
use Rattle.std.specs.Str.{bytes_eq}
use Rattle.fd_site.specs.Journal.{Entry, file_after, file_written, stable_after}
use Rattle.fd_site.specs.declared.ports.Peer.{Peer}
use Rattle.fd_kdh.specs.declared.header.Header.{Header}
use Rattle.fd_netmsg.specs.Message.{Message, finished, vmcore, kdh, message_of}
use Rattle.fd_netmsg.specs.Each.{Each}
use Rattle.fd_netserver.specs.declared.reply.Reply.{Reply}
use Rattle.fd_netserver.specs.declared.reply.Reply.TheVariants.{Opened, Ack, Finished, Ignored}
use Rattle.fd_info.specs.Name.{info_name, vmcore_name}
use Rattle.fd_info.specs.Info.{info_text}
use Rattle.fd_netserver.specs.Files.{Files, device_name, end_of, files_after, parity_of}
use Rattle.fd_netserver.specs.Session.{same_peer, Input, Done, Session, Turn, is_whole, accepted, after_reply, file_taken}
use Rattle.fd_netserver.specs.Table.{Row, Skips, Repeats, Opens, Writes, Keeps, Ends, reply_of, entries_of, row_of}
use Rattle.fd_netserver.specs.History.{IsTurn, IsServerRun, AreServerRuns, IsFinishTo, IsFirstFinish, entries_in, all_turns}
use Rattle.fd_netserver.proofs.Apart.{AreApart, file_after-none, bytes_eq-same, core_info_off}
use Rattle.fd_netserver.proofs.Covered.{IsPieceOf, whole_is}
use Rattle.fd_netserver.proofs.Lists.{Each-at, Each-behind, Each-front, Each-back}
use Rattle.fd_netserver.proofs.Rows.{FactsOf, same_peer-true, facts_of}
use Rattle.fd_netserver.proofs.Sound.{IsOpen, AreSound, place, shut_stays, sound_turn}
use Rattle.fd_netserver.proofs.Kept.{IsKeptBy, EndKept, kept_turn}
use Rattle.fd_site.proofs.Told.{file_after-append}
use Rattle.fd_netserver.proofs.Settled.{settled_run, settled_runs, no_session, entries_in-append, both_apart}

-- the entries of an end, on a file that may be the core or the info
abbrev after_end : List ℕ → Option (List ℕ) → Bool → Bool → Option (List ℕ)
after_end text was core info =
    let synced : Option (List ℕ) = cond core was was in
    let created : Option (List ℕ) = cond info (Some []) synced in
    let written : Option (List ℕ) = cond info (option_map (λ file. file_written file 0 text) created) created in
    cond info written written

abbrev stable_end : Bool → Bool → Bool → Bool
stable_end was core info =
    let synced : Bool = cond core true was in
    let created : Bool = cond info false synced in
    let written : Bool = cond info false created in
    cond info true written

text_alone : (text : List ℕ) → file_written [] 0 text ≡ text
text_alone text = ap (λ (l : List ℕ). text ++ l) (drop_all (0 + length text) [] (omega arith)) ∙ append-nil text

module _ (n : ℕ) (h : Header) (parity : ℕ) where
  abbrev pub text : List ℕ
  text = info_text h device_name parity n

  abbrev end_entries : List Entry
  end_entries = end_of n h parity

  pub core_after : (was : Option (List ℕ)) → file_after (vmcore_name n) was end_entries ≡ was
  core_after was =
      ap (λ (b : Bool). after_end text was (bytes_eq (vmcore_name n) (vmcore_name n)) b) (core_info_off n n)
      ∙ ap (λ (b : Bool). after_end text was b false) (bytes_eq-same (vmcore_name n))

  pub info_after : (was : Option (List ℕ)) → file_after (info_name n) was end_entries ≡ Some text
  info_after was =
      ap (λ (b : Bool). after_end text was (bytes_eq (info_name n) (vmcore_name n)) b) (bytes_eq-same (info_name n))
      ∙ ap (λ (l : List ℕ). Some l) (text_alone text)

  pub core_stable : (was : Bool) → stable_after (vmcore_name n) was end_entries ≡ true
  core_stable was =
      ap (λ (b : Bool). stable_end was (bytes_eq (vmcore_name n) (vmcore_name n)) b) (core_info_off n n)
      ∙ ap (λ (b : Bool). stable_end was b false) (bytes_eq-same (vmcore_name n))

  pub info_stable : (was : Bool) → stable_after (info_name n) was end_entries ≡ true
  info_stable was = ap (λ (b : Bool). stable_end was (bytes_eq (info_name n) (vmcore_name n)) b) (bytes_eq-same (info_name n))

module _ (dump header : List ℕ) (peer : Peer) where
  -- what a client may say: pieces of the dump, and this header
  pub record SaysOnly (input : Input) : Type 0 where
    pub pieces : (m : Message) → message_of input.bytes ≡ Some m → m.kind ≡ vmcore → IsPieceOf dump (record { at = m.offset; bytes = m.body })
    pub headers : (m : Message) → message_of input.bytes ≡ Some m → m.kind ≡ kdh → m.body ≡ header

  -- what its sessions have
  pub record HasOnly (s : Session) : Type 0 where
    pub pieces : Each (IsPieceOf dump) s.taken
    pub headers : (bytes : List ℕ) → s.header ≡ Some bytes → bytes ≡ header

  abbrev pub IsClients : Session → Type 0
  IsClients s = s.peer ≡ peer → HasOnly s

  abbrev pub IsUnfinished : Session → Type 0
  IsUnfinished s = s.peer ≡ peer → s.phase ≡ Done → ⊥

  clients_kept : (sessions : List Session) (input : Input) → (input.peer ≡ peer → SaysOnly input) → IsKeptBy sessions input IsClients
  clients_kept sessions input says = record {
    opens = λ number phase other of. record { pieces = tt; headers = λ bytes e. absurd (cc) };
    breaks = λ s has of. let only = has of in record { pieces = only.pieces; headers = only.headers };
    takes = λ s m hears kind has of.
        let only = has of in
        let said = says (hears.peer ∙ of) in
        record { pieces = Each-behind (IsPieceOf dump) s.taken (record { at = m.offset; bytes = m.body } ∷ []) only.pieces (said.pieces m hears.is_read kind, tt); headers = only.headers };
    keeps = λ s m hears kind has of.
        let only = has of in
        let said = says (hears.peer ∙ of) in
        record { pieces = only.pieces; headers = λ bytes e. let same : m.body ≡ bytes = cc in sym same ∙ said.headers m hears.is_read kind };
  }

  clients_end : (sessions : List Session) (input : Input) (row : Row) → EndKept sessions input IsClients row
  clients_end sessions input (Ends slot seqno number h parity) = λ s m hears has of. let only = has of in record { pieces = only.pieces; headers = only.headers }
  clients_end sessions input (Skips why) = tt
  clients_end sessions input (Repeats slot seqno) = tt
  clients_end sessions input (Opens slot seqno number) = tt
  clients_end sessions input (Writes slot seqno number piece) = tt
  clients_end sessions input (Keeps slot seqno) = tt

  unfinished_kept : (sessions : List Session) (input : Input) → IsKeptBy sessions input IsUnfinished
  unfinished_kept sessions input = record {
    opens = λ number phase other of done. other done;
    breaks = λ s not_done of done. absurd (cc);
    takes = λ s m hears kind not_done of done. not_done of done;
    keeps = λ s m hears kind not_done of done. not_done of done;
  }

  -- a turn finishes a session of the peer or not
  finish_reply : (t : Turn) (reply : Reply) → t.reply ≡ reply → t.input.peer ≡ peer → IsFinishTo peer t ⊎ (IsFinishTo peer t → ⊥)
  finish_reply t (Finished seqno slot number size) is of = inl (record { seqno = seqno; slot = slot; number = number; size = size; reply = is; peer_is = of })
  finish_reply t (Opened slot seqno number) is of = inr (λ finish. let e = finish.reply in cc)
  finish_reply t (Ack slot seqno) is of = inr (λ finish. let e = finish.reply in cc)
  finish_reply t (Ignored why) is of = inr (λ finish. let e = finish.reply in cc)

  finish_or_not : (t : Turn) → IsFinishTo peer t ⊎ (IsFinishTo peer t → ⊥)
  finish_or_not t =
      elim (cases_Bool (same_peer t.input.peer peer)) [
        | inl same ↦ finish_reply t t.reply refl (same_peer-true t.input.peer peer same)
        | inr other ↦ inr (λ finish.
            let same : same_peer t.input.peer peer ≡ true =
            and_from _ _ (eq-eqb t.input.peer.address peer.address (ap (λ (p : Peer). p.address) finish.peer_is)) (eq-eqb t.input.peer.port peer.port (ap (λ (p : Peer). p.port) finish.peer_is)) in
            absurd (cc))
      ]

  -- a finished message of the peer is answered
  pub record IsEndAnswered (t : Turn) : Type 0 where
    pub m : Message
    pub is_read : message_of t.input.bytes ≡ Some m
    pub kind : m.kind ≡ finished
    pub peer_is : t.input.peer ≡ peer
    pub answered : (why : _) → t.reply ≡ Ignored why → ⊥

  abbrev pub IsQuiet : Turn → Type 0
  IsQuiet t = (IsFinishTo peer t → ⊥) × (IsEndAnswered t → ⊥)

  unfinished_end : (sessions : List Session) (t : Turn) → (IsFinishTo peer t → ⊥) → (row : Row) → t.reply ≡ reply_of row → EndKept sessions t.input IsUnfinished row
  unfinished_end sessions t not_finish (Ends slot seqno number its_header parity) is = λ s m hears not_done of done.
      not_finish (record { seqno = seqno; slot = slot; number = number; size = its_header.dumplength; reply = is; peer_is = hears.peer ∙ of })
  unfinished_end sessions t not_finish (Skips why) is = tt
  unfinished_end sessions t not_finish (Repeats slot seqno) is = tt
  unfinished_end sessions t not_finish (Opens slot seqno number) is = tt
  unfinished_end sessions t not_finish (Writes slot seqno number piece) is = tt
  unfinished_end sessions t not_finish (Keeps slot seqno) is = tt

  quiet_row : (sessions : List Session) (files : Files) (t : Turn) → Each IsUnfinished sessions → (IsFinishTo peer t → ⊥) →
      (row : Row) → FactsOf sessions files t.input row → t.reply ≡ reply_of row → IsEndAnswered t → ⊥
  quiet_row sessions files t unfinished not_finish (Skips why) facts is end = end.answered why is
  quiet_row sessions files t unfinished not_finish (Repeats slot seqno) facts is end =
      let same : end.m ≡ facts.m = let e : Some end.m ≡ Some facts.m = sym end.is_read ∙ facts.is_read in cc in
      let kind : facts.m.kind ≡ 2 = ap (λ (m : Message). m.kind) (sym same) ∙ end.kind in
      elim facts.why [
        | inl at_herald ↦ let k : facts.m.kind ≡ 1 = at_herald.1 in absurd (omega arith)
        | inr why ↦ elim why [
          | inl again ↦ Each-at IsUnfinished sessions (place t.input) again.s unfinished again.at.there (sym again.at.peer ∙ end.peer_is) again.done
          | inr empty ↦ let k : facts.m.kind ≡ 3 = empty.kind in absurd (omega arith)
        ]
      ]
  quiet_row sessions files t unfinished not_finish (Opens slot seqno number) facts is end =
      let same : end.m ≡ facts.m = let e : Some end.m ≡ Some facts.m = sym end.is_read ∙ facts.is_read in cc in
      let kind : facts.m.kind ≡ 2 = ap (λ (m : Message). m.kind) (sym same) ∙ end.kind in
      let k : facts.m.kind ≡ 1 = facts.kind in
      absurd (omega arith)
  quiet_row sessions files t unfinished not_finish (Writes slot seqno number piece) facts is end =
      let same : end.m ≡ facts.m = let e : Some end.m ≡ Some facts.m = sym end.is_read ∙ facts.is_read in cc in
      let kind : facts.m.kind ≡ 2 = ap (λ (m : Message). m.kind) (sym same) ∙ end.kind in
      let k : facts.m.kind ≡ 3 = facts.kind in
      absurd (omega arith)
  quiet_row sessions files t unfinished not_finish (Keeps slot seqno) facts is end =
      let same : end.m ≡ facts.m = let e : Some end.m ≡ Some facts.m = sym end.is_read ∙ facts.is_read in cc in
      let kind : facts.m.kind ≡ 2 = ap (λ (m : Message). m.kind) (sym same) ∙ end.kind in
      let k : facts.m.kind ≡ 4 = facts.kind in
      absurd (omega arith)
  quiet_row sessions files t unfinished not_finish (Ends slot seqno number its_header parity) facts is end =
      not_finish (record { seqno = seqno; slot = slot; number = number; size = its_header.dumplength; reply = is; peer_is = end.peer_is })

  module _ (h : Header) (accepts : (found : Header) → accepted header ≡ Some found → found ≡ h) (all : h.dumplength ≡ length dump) where
    quiet_turn : (sessions : List Session) (files : Files) (t : Turn) → Each IsUnfinished sessions → (IsFinishTo peer t → ⊥) → IsTurn sessions files t → IsQuiet t
    quiet_turn sessions files t unfinished not_finish is = (
      not_finish,
      elim is [
        | inl done ↦ quiet_row sessions files t unfinished not_finish (row_of sessions files t.input) (facts_of sessions files t.input) done.reply
        | inr broken ↦ (λ end. end.answered _ broken.reply)
      ],
    )

    -- what stands where a session of the peer is finished
    pub record Finishes (sessions : List Session) (files : Files) (t : Turn) (n : ℕ) : Type 0 where
      pub small : n < 65536
      pub entries : t.entries ≡ end_of n h (parity_of header)
      pub core : files (vmcore_name n) ≡ Some dump
      pub none_open : (k : ℕ) (s : Session) → IsOpen (after_reply sessions t.input t.reply) k s → s.number ≡ n → ⊥

    finish_row : (sessions : List Session) (files : Files) (t : Turn) → AreSound sessions files → Each IsClients sessions → (finish : IsFinishTo peer t)
        → (row : Row) → FactsOf sessions files t.input row → t.reply ≡ reply_of row → t.entries ≡ entries_of row → Finishes sessions files t finish.number
    finish_row sessions files t sound clients finish (Skips why) facts is es = let e = finish.reply in absurd (cc)
    finish_row sessions files t sound clients finish (Repeats slot seqno) facts is es = let e = finish.reply in absurd (cc)
    finish_row sessions files t sound clients finish (Opens slot seqno number) facts is es = let e = finish.reply in absurd (cc)
    finish_row sessions files t sound clients finish (Writes slot seqno number piece) facts is es = let e = finish.reply in absurd (cc)
    finish_row sessions files t sound clients finish (Keeps slot seqno) facts is es = let e = finish.reply in absurd (cc)
    finish_row sessions files t sound clients finish (Ends slot seqno number its_header parity) facts is es =
        let e = finish.reply in
        let same : number ≡ finish.number = cc in
        let k : ℕ = place t.input in
        let open_ : IsOpen sessions k facts.s = record { there = facts.at.there; phase = facts.open_ } in
        let only : HasOnly facts.s = Each-at IsClients sessions k facts.s clients facts.at.there (sym facts.at.peer ∙ finish.peer_is) in
        let its_bytes : facts.bytes ≡ header = only.headers facts.bytes facts.bytes_are in
        let is_ours : its_header ≡ h = accepts its_header (ap accepted (sym its_bytes) ∙ facts.accepts) in
        let its_size : its_header.dumplength ≡ length dump = ap (λ (found : Header). found.dumplength) is_ours ∙ all in
        let file : file_taken facts.s ≡ dump = whole_is dump facts.s.taken only.pieces (subst (λ (l : ℕ). is_whole facts.s.taken l ≡ true) its_size facts.whole) in
        let its_number : facts.s.number ≡ finish.number = sym facts.number_is ∙ same in
        record {
          small = subst (λ (m : ℕ). m < 65536) its_number (sound.small k facts.s open_);
          entries = es ∙ (λ i. end_of (same i) (is_ours i) (facts.parity_is i)) ∙ ap (λ (l : List ℕ). end_of finish.number h (parity_of l)) its_bytes;
          core = ap (λ (m : ℕ). files (vmcore_name m)) (sym its_number) ∙ sound.kept k facts.s open_ ∙ ap (λ (l : List ℕ). Some l) file;
          none_open = λ i s now_open its.
              let stays = shut_stays sessions t.input (λ (u : Session). record u { phase = Done }) (λ u shut. absurd (cc)) i s
              (subst (λ (r : Reply). IsOpen (after_reply sessions t.input r) i s) is now_open) in
              let was = stays.was_open in
              stays.elsewhere facts.at.slot (sound.apart i k was.was facts.s was.is_open open_ (was.number ∙ its ∙ sym its_number));
        }

    finish_turn : (sessions : List Session) (files : Files) (t : Turn) → AreSound sessions files → Each IsClients sessions →
        (finish : IsFinishTo peer t) → IsTurn sessions files t → Finishes sessions files t finish.number
    finish_turn sessions files t sound clients finish is =
        elim is [
          | inl done ↦ finish_row sessions files t sound clients finish (row_of sessions files t.input) (facts_of sessions files t.input) done.reply done.entries
          | inr broken ↦ let e : Finished finish.seqno finish.slot finish.number finish.size ≡ Ignored _ = sym finish.reply ∙ broken.reply in absurd (cc)
        ]

    -- the first finish among turns, over the files before them
    pub record Found (files : Files) (turns : List Turn) : Type 0 where
      pub first : IsFirstFinish peer turns
      pub small : first.finish.number < 65536
      pub entries : first.turn.entries ≡ end_of first.finish.number h (parity_of header)
      pub core : files_after files (entries_in first.earlier) (vmcore_name first.finish.number) ≡ Some dump
      pub apart : AreApart first.finish.number (entries_in first.later)

    -- behind other turns
    found_behind : (files : Files) (ts turns : List Turn) → Each (λ t. IsFinishTo peer t → ⊥) ts → Found (files_after files (entries_in ts)) turns → Found files (ts ++ turns)
    found_behind files ts turns none found =
        let first = found.first in
        let q : List ℕ = vmcore_name first.finish.number in
        record {
          first = record {
            earlier = ts ++ first.earlier;
            turn = first.turn;
            later = first.later;
            is = ap (λ l. ts ++ l) first.is ∙ sym (append_assoc ts first.earlier (first.turn ∷ first.later));
            none_before = Each-behind (λ t. IsFinishTo peer t → ⊥) ts first.earlier none first.none_before;
            finish = first.finish;
          };
          small = found.small;
          entries = found.entries;
          core = ap (file_after q (files q)) (entries_in-append ts first.earlier) ∙ file_after-append q (files q) (entries_in ts) (entries_in first.earlier) ∙ found.core;
          apart = found.apart;
        }

    -- behind which others come
    found_before : (files : Files) (turns us : List Turn) → (found : Found files turns) → AreApart found.first.finish.number (entries_in us) → Found files (turns ++ us)
    found_before files turns us found apart =
        let first = found.first in
        record {
          first = record {
            earlier = first.earlier;
            turn = first.turn;
            later = first.later ++ us;
            is = ap (λ (l : List Turn). l ++ us) first.is ∙ append_assoc first.earlier (first.turn ∷ first.later) us;
            none_before = first.none_before;
            finish = first.finish;
          };
          small = found.small;
          entries = found.entries;
          core = found.core;
          apart = subst (AreApart first.finish.number) (sym (entries_in-append first.later us)) (both_apart first.finish.number (entries_in first.later) (entries_in us) found.apart apart);
        }

    -- in a run
    abbrev pub Saying : List Turn → Type 0
    Saying turns = Each (λ t. t.input.peer ≡ peer → SaysOnly t.input) turns

    quiet_none : (ts : List Turn) → Each IsQuiet ts → Each (λ t. IsFinishTo peer t → ⊥) ts
    quiet_none [] quiet = tt
    quiet_none (t ∷ ts) quiet = (quiet.0.0, quiet_none ts quiet.1)

    search_run : (sessions : List Session) (files : Files) (ts : List Turn) → AreSound sessions files → Each IsClients sessions → Each IsUnfinished sessions → Saying ts → IsServerRun sessions files ts
        → Each IsQuiet ts ⊎ Found files ts
    search_run sessions files [] sound clients unfinished says is = inl tt
    search_run sessions files (t ∷ ts) sound clients unfinished says is =
        let after : List Session = after_reply sessions t.input t.reply in
        let next : Files = files_after files t.entries in
        let sound_next : AreSound after next = sound_turn sessions files sound t.input t.reply t.entries is.0 in
        elim (finish_or_not t) [
          | inl finish ↦
              let facts : Finishes sessions files t finish.number = finish_turn sessions files t sound clients finish is.0 in
              let n : ℕ = finish.number in
              let still : next (vmcore_name n) ≡ files (vmcore_name n) =
              ap (λ (es : List Entry). file_after (vmcore_name n) (files (vmcore_name n)) es) facts.entries
              ∙ core_after n h (parity_of header) (files (vmcore_name n)) in
              inr (record {
                first = record { earlier = []; turn = t; later = ts; is = refl; none_before = tt; finish = finish };
                small = facts.small;
                entries = facts.entries;
                core = facts.core;
                apart = settled_run n after next ts sound_next (record { small = facts.small; core = dump; there = still ∙ facts.core; none_open = facts.none_open }) is.1;
              })
          | inr not_finish ↦
              let quiet : IsQuiet t = quiet_turn sessions files t unfinished not_finish is.0 in
              let clients_next : Each IsClients after =
              kept_turn sessions files t.input IsClients (clients_kept sessions t.input says.0) clients t refl is.0
              (λ same. clients_end sessions t.input (row_of sessions files t.input)) in
              let unfinished_next : Each IsUnfinished after =
              kept_turn sessions files t.input IsUnfinished (unfinished_kept sessions t.input) unfinished t refl is.0
              (unfinished_end sessions t not_finish (row_of sessions files t.input)) in
              elim (search_run after next ts sound_next clients_next unfinished_next says.1 is.1) [
                | inl rest ↦ inl (quiet, rest)
                | inr found ↦ inr (found_behind files (t ∷ []) ts (not_finish, tt) (subst (λ (es : List Entry). Found (files_after files es) ts) (sym (append-nil t.entries)) found))
              ]
        ]

    -- after the first finish its file is still there
    core_at_end : (files : Files) (turns : List Turn) → (found : Found files turns) → files_after files (entries_in turns) (vmcore_name found.first.finish.number) ≡ Some dump
    core_at_end files turns found =
        let first = found.first in
        let q : List ℕ = vmcore_name first.finish.number in
        ap (λ (ts : List Turn). file_after q (files q) (entries_in ts)) first.is
        ∙ ap (file_after q (files q)) (entries_in-append first.earlier (first.turn ∷ first.later))
        ∙ file_after-append q (files q) (entries_in first.earlier) (first.turn.entries ++ entries_in first.later)
        ∙ ap (λ (was : Option (List ℕ)). file_after q was (first.turn.entries ++ entries_in first.later)) found.core
        ∙ file_after-append q (Some dump) first.turn.entries (entries_in first.later)
        ∙ file_after-none q (file_after q (Some dump) first.turn.entries) (entries_in first.later) (found.apart.core)
        ∙ ap (file_after q (Some dump)) found.entries
        ∙ core_after first.finish.number h (parity_of header) (Some dump)

    -- in runs
    pub search_runs : (files : Files) (runs : List (List Turn)) → Saying (all_turns runs) → AreServerRuns files runs → Each IsQuiet (all_turns runs) ⊎ Found files (all_turns runs)
    search_runs files [] says are = inl tt
    search_runs files (run ∷ runs) says are =
        elim (search_run [] files run (no_session 0 files) tt tt (Each-front _ run (all_turns runs) says) are.0) [
          | inl quiet ↦ elim (search_runs (files_after files (entries_in run)) runs (Each-back _ run (all_turns runs) says) are.1) [
            | inl rest ↦ inl (Each-behind IsQuiet run (all_turns runs) quiet rest)
            | inr found ↦ inr (found_behind files run (all_turns runs) (quiet_none run quiet) found)
          ]
          | inr found ↦ inr (found_before files run (all_turns runs) found
              (settled_runs found.first.finish.number (files_after files (entries_in run)) runs dump found.small (core_at_end files run found) are.1))
        ]
