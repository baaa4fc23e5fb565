-- A client that is done was served.
--
-- What the client got as the acknowledgement of its last number was answered to it in some turn (nothing is forged), and
-- what that turn took was sent by it: so it was its finished message. Only a session of its that is finished, or is being
-- finished, answers that. So among all turns there is a first one that finishes a session of this peer
-- (`search_runs`). What that session took are pieces of the dump and its header, so its file is the dump; no other
-- session has its number, and none gets it later, so no later entry is on its files.
use Rattle.std.proofs.Common.{◌≡◌, inl, inr, ℕ, ◌+◌, ◌<◌, ◌≤◌, ◌^◌, true, cond, ◌==◌, List, [], ◌∷◌, ◌++◌, length, take, Some, None, Ok, refl, sym, ◌∙◌, ap, subst, arith, append_assoc}
use Rattle.std.proofs.lemmas.Bool.{cond_both}
use Rattle.std.proofs.lemmas.List.{append-nil}
use Rattle.std.proofs.lemmas.Nat.{from_be_bytes-to_be_bytes_4}
use Rattle.std.specs.Int.{w32, from_be_bytes}
use Rattle.fd_site.specs.Contents.{Contents}
use Rattle.fd_site.specs.Cut.{stable_at}
use Rattle.fd_site.specs.Journal.{Entry, file_after}
use Rattle.fd_site.specs.Trace.{LinkEvent, Opening, Sent, Got, Silent}
use Rattle.fd_site.specs.declared.ports.Peer.{Peer}
use Rattle.fd_site.proofs.Told.{file_after-append}
use Rattle.fd_kdh.specs.Header.{dump_header, decoded}
use Rattle.fd_kdh.specs.declared.header.Header.{Header}
use Rattle.fd_kdh.proofs.Headers.{length-dump_header, decoded-dump_header}
use Rattle.fd_netmsg.specs.Each.{Each, OneOf}
use Rattle.fd_netmsg.specs.Message.{Message, finished, ack}
use Rattle.fd_netclient.specs.Datagram.{chunks, content}
use Rattle.fd_netclient.specs.Trace.{Patience, IsComplete, Done}
use Rattle.fd_netclient.proofs.Traces.{each_said, done_heard}
use Rattle.fd_netclient.specs.Heard.{IsSaid, Acks}
use Rattle.fd_info.specs.Name.{info_name, vmcore_name}
use Rattle.fd_netserver.specs.Files.{end_of, files_after, parity_of}
use Rattle.fd_netserver.specs.Session.{Turn, accepted, if_plain, is_plain}
use Rattle.fd_netserver.specs.History.{AreServerRuns, all_turns, entries_in, answer}
use Rattle.fd_netserver.proofs.Finish.{SaysOnly, IsQuiet, IsEndAnswered, Found, search_runs, core_after, info_after, core_stable, info_stable}
use Rattle.fd_netserver.proofs.Own.{AnswersOwn, IsOwn, own_runs}
use Rattle.fd_netserver.proofs.Settled.{entries_in-append}
use Rattle.fd_networld.specs.Delivery.{IsSendable, IsCarried, IsDelivered, IsAnswer, WasAnswered, IsSending}
use Rattle.fd_networld.proofs.Cuts.{cut_stable, cut_file}
use Rattle.fd_networld.proofs.Says.{IsOurs, ours, says, cases}

-- a header that a server takes is the one that was written
its_header : (dump : List ℕ) (h : Header) → IsSendable dump h → (found : Header) → accepted (dump_header h) ≡ Some found → found ≡ h
unfolding accepted
its_header dump h sendable found is =
    let size : length (dump_header h) ≡ 512 = length-dump_header h sendable.within.fits in
    let back : decoded (dump_header h) ≡ Ok h = decoded-dump_header h sendable.within in
    let plain : cond (is_plain h) (Some h) None ≡ Some found =
    sym (ap (λ n. cond (n == 512) (if_plain (decoded (dump_header h))) None) size ∙ ap if_plain back) ∙ is in
    cond_both (is_plain h) (Some h) None (λ o. o ≡ Some found → found ≡ h)
    (λ yes e. sym (some_is h found e))
    (λ no_ e. absurd (cc)) plain
  where
    some_is : (a b : Header) → Some a ≡ Some b → a ≡ b
    some_is a b e = cc

module _ (dump : List ℕ) (h : Header) (sendable : IsSendable dump h) (peer : Peer) (trace : List LinkEvent) (said : Each (IsSaid dump h) trace) where
  abbrev last : ℕ
  last = chunks dump + 3

  all_saying : (turns : List Turn) → Each (λ t. t.input.peer ≡ peer → OneOf (IsSending t.input.bytes) trace) turns → Each (λ t. t.input.peer ≡ peer → SaysOnly dump (dump_header h) peer t.input) turns
  all_saying [] inputs = tt
  all_saying (t ∷ ts) inputs = ((λ of. says dump h sendable peer t.input trace said (inputs.0 of)), all_saying ts inputs.1)

  finished_last : (content dump h last).kind ≡ finished
  finished_last = cases dump h sendable last (λ m. m.kind ≡ finished) (λ e. absurd (omega arith)) (λ isnt below. absurd (omega arith)) (λ e. absurd (omega arith)) (λ above isnt. refl)

  seqno_is : (s : ℕ) → (content dump h s).seqno ≡ s
  seqno_is s = cases dump h sendable s (λ m. m.seqno ≡ s) (λ e. refl) (λ isnt below. refl) (λ e. refl) (λ above isnt. refl)

  -- the turn that answered the last number
  end_answered : (t : Turn) (bytes : List ℕ) → IsAnswer peer bytes t → AnswersOwn t →
      (t.input.peer ≡ peer → OneOf (IsSending t.input.bytes) trace) → from_be_bytes w32 bytes ≡ last →
      IsEndAnswered dump (dump_header h) peer t
  end_answered t bytes is own sending last_is =
      let mine : IsOwn t.input bytes = own bytes is.is in
      let it : IsOurs dump h sendable t.input = ours dump h sendable t.input trace said (sending is.peer_is) in
      let same : mine.m ≡ content dump h it.s = some_is (sym mine.is_read ∙ it.is_read) in
      let seq : mine.m.seqno ≡ it.s = ap (λ (m : Message). m.seqno) same ∙ seqno_is it.s in
      let most : length dump ≤ 2 ^ 42 = sendable.most in
      let fits : it.s < 2 ^ 32 = omega (arith, it.number.most) in
      let its_last : it.s ≡ last = sym (from_be_bytes-to_be_bytes_4 it.s fits) ∙ ap (λ n. from_be_bytes w32 (ack n)) (sym seq) ∙ ap (from_be_bytes w32) (sym mine.is) ∙ last_is in
      record {
        m = mine.m;
        is_read = mine.is_read;
        kind = ap (λ (m : Message). m.kind) same ∙ ap (λ s. (content dump h s).kind) its_last ∙ finished_last;
        peer_is = is.peer_is;
        answered = λ why ignored. let e : None ≡ Some bytes = ap answer (sym ignored) ∙ is.is in absurd (cc);
      }
    where
      some_is : {a b : Message} → Some a ≡ Some b → a ≡ b
      some_is e = cc

  no_answer : (turns : List Turn) (bytes : List ℕ) → Each (IsQuiet dump (dump_header h) peer) turns → Each AnswersOwn turns
      → Each (λ t. t.input.peer ≡ peer → OneOf (IsSending t.input.bytes) trace) turns → from_be_bytes w32 bytes ≡ last → OneOf (IsAnswer peer bytes) turns → ⊥
  no_answer [] bytes quiet own inputs is one = one
  no_answer (t ∷ ts) bytes quiet own inputs is one =
      elim one [
        | inl here ↦ quiet.0.1 (end_answered t bytes here own.0 inputs.0 is)
        | inr later ↦ no_answer ts bytes quiet.1 own.1 inputs.1 is later
      ]

  not_quiet : (turns : List Turn) (events : List LinkEvent) → Each (WasAnswered peer turns) events → OneOf (Acks last) events
      → ((bytes : List ℕ) → from_be_bytes w32 bytes ≡ last → OneOf (IsAnswer peer bytes) turns → ⊥) → ⊥
  not_quiet turns [] answers one none = one
  not_quiet turns (Got port bytes ∷ events) answers one none =
      elim one [ inl here ↦ none bytes here.1 (answers.0 here.0) | inr later ↦ not_quiet turns events answers.1 later none ]
  not_quiet turns (Opening server ∷ events) answers one none = elim one [ inl here ↦ here | inr later ↦ not_quiet turns events answers.1 later none ]
  not_quiet turns (Sent port bytes ∷ events) answers one none = elim one [ inl here ↦ here | inr later ↦ not_quiet turns events answers.1 later none ]
  not_quiet turns (Silent ∷ events) answers one none = elim one [ inl here ↦ here | inr later ↦ not_quiet turns events answers.1 later none ]

module _ (dump : List ℕ) (h : Header) (sendable : IsSendable dump h) (peer : Peer) (c : Contents) (before : List Entry) (turns : List Turn) (journal : c.journal ≡ before ++ entries_in turns) where
  abbrev accepts : (found : Header) → accepted (dump_header h) ≡ Some found → found ≡ h
  accepts = its_header dump h sendable

  abbrev parity : ℕ
  parity = parity_of (dump_header h)

  delivered : Found dump (dump_header h) peer h accepts sendable.dumplength (files_after c.base_file before) turns → IsDelivered dump h peer c before turns
  delivered found =
      let first = found.first in
      let n : ℕ = first.finish.number in
      let front : List Entry = before ++ entries_in first.earlier in
      let end : List Entry = end_of n h parity in
      let later : List Entry = entries_in first.later in
      let journal_is : c.journal ≡ front ++ (end ++ later) =
      journal
      ∙ ap (λ (ts : List Turn). before ++ entries_in ts) first.is
      ∙ ap (λ l. before ++ l) (entries_in-append first.earlier (first.turn ∷ first.later))
      ∙ ap (λ (es : List Entry). before ++ (entries_in first.earlier ++ (es ++ later))) found.entries
      ∙ sym (append_assoc before (entries_in first.earlier) (end ++ later)) in
      let until : before ++ entries_in (first.earlier ++ first.turn ∷ []) ≡ front ++ end =
      ap (λ l. before ++ l) (entries_in-append first.earlier (first.turn ∷ []))
      ∙ ap (λ (es : List Entry). before ++ (entries_in first.earlier ++ es)) (append-nil first.turn.entries ∙ found.entries)
      ∙ sym (append_assoc before (entries_in first.earlier) end) in
      record {
        first = first;
        saved = λ k behind_.
            let behind : length (front ++ end) ≤ k = subst (λ (l : List Entry). length l ≤ k) until behind_ in
            let core_ok : stable_at (vmcore_name n) c.journal k ≡ true =
            ap (λ (l : List Entry). stable_at (vmcore_name n) l k) journal_is ∙ cut_stable (vmcore_name n) front end later k behind found.apart.core (core_stable n h parity) in
            let info_ok : stable_at (info_name n) c.journal k ≡ true =
            ap (λ (l : List Entry). stable_at (info_name n) l k) journal_is ∙ cut_stable (info_name n) front end later k behind found.apart.info (info_stable n h parity) in
            record {
              core_stable = core_ok;
              info_stable = info_ok;
              core_is = λ files cut.
                  cut (vmcore_name n) core_ok
                  ∙ ap (λ (l : List Entry). file_after (vmcore_name n) (c.base_file (vmcore_name n)) (take k l)) journal_is
                  ∙ cut_file (vmcore_name n) front end later k behind found.apart.core (c.base_file (vmcore_name n))
                  ∙ core_after n h parity (file_after (vmcore_name n) (c.base_file (vmcore_name n)) front)
                  ∙ file_after-append (vmcore_name n) (c.base_file (vmcore_name n)) before (entries_in first.earlier)
                  ∙ found.core;
              info_is = λ files cut.
                  cut (info_name n) info_ok
                  ∙ ap (λ (l : List Entry). file_after (info_name n) (c.base_file (info_name n)) (take k l)) journal_is
                  ∙ cut_file (info_name n) front end later k behind found.apart.info (c.base_file (info_name n))
                  ∙ info_after n h parity (file_after (info_name n) (c.base_file (info_name n)) front);
            };
      }

pub was_served : (dump : List ℕ) (h : Header) (patience : Patience) (trace : List LinkEvent) (peer : Peer)
    (c : Contents) (before : List Entry) (runs : List (List Turn))
    → IsSendable dump h → IsComplete dump h patience trace Done
    → AreServerRuns (files_after c.base_file before) runs → c.journal ≡ before ++ entries_in (all_turns runs)
    → IsCarried peer trace (all_turns runs)
    → IsDelivered dump h peer c before (all_turns runs)
was_served dump h patience trace peer c before runs sendable complete are journal carried =
    let said : Each (IsSaid dump h) trace = each_said dump h patience trace Done complete in
    let turns : List Turn = all_turns runs in
    elim (search_runs dump (dump_header h) peer h (its_header dump h sendable) sendable.dumplength
    (files_after c.base_file before) runs (all_saying dump h sendable peer trace said turns carried.inputs) are) [
      | inr found ↦ delivered dump h sendable peer c before turns journal found
      | inl quiet ↦ absurd (not_quiet dump h sendable peer trace said turns trace carried.answers (done_heard dump h patience trace complete)
          (λ bytes is one. no_answer dump h sendable peer trace said turns bytes quiet (own_runs (files_after c.base_file before) runs are) carried.inputs is one))
    ]
