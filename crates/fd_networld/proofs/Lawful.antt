-- Every world of events is lawful: step by step.
use Rattle.std.proofs.Common.{◌≡◌, ℕ, ◌≤◌, nat_le, List, [], ◌∷◌, ◌++◌, Option, Some, None, slice_get, refl, sym, ◌∙◌, ap, subst}
use Rattle.std.proofs.lemmas.Bool.{cond_both}
use Rattle.std.proofs.lemmas.List.{append-nil}
use Rattle.fd_fake.specs.Directory.{file_in}
use Rattle.fd_fake.specs.Disk.{contents_of}
use Rattle.fd_kdh.specs.declared.header.Header.{Header}
use Rattle.fd_netclient.specs.Datagram.{chunks, datagram}
use Rattle.fd_netclient.specs.Machine.{ComesNext, Passes, port_of, start, want_of}
use Rattle.fd_netclient.specs.Trace.{Patience, IsComplete, Done}
use Rattle.fd_netclient.specs.declared.client.Want.{Want}
use Rattle.fd_netclient.specs.declared.client.Want.TheVariants as want
use Rattle.fd_netclient.proofs.Runs.{runs_are_passes}
use Rattle.fd_netclient.proofs.Wants.{polled_step, sent_step, wants_next}
use Rattle.fd_netmsg.specs.Each.{OneOf}
use Rattle.fd_netmsg.specs.Message.{ack}
use Rattle.fd_netserver.specs.Files.{Files}
use Rattle.fd_netserver.specs.History.{AreServerRuns, IsTurn, all_turns, entries_in}
use Rattle.fd_netserver.specs.Session.{Input, Turn, same_peer, sessions_after}
use Rattle.fd_netserver.proofs.Settled.{entries_in-append}
use Rattle.fd_site.specs.Contents.{Contents, file_of}
use Rattle.fd_site.specs.Trace.{LinkEvent, Sent, Got, Silent}
use Rattle.fd_site.specs.declared.ports.Peer.{Peer}
use Rattle.fd_networld.specs.Delivery.{IsCarried, IsSendable, IsSending, WasAnswered}
use Rattle.fd_networld.specs.Lawful.{IsLawful, WasDelivered, contents_with}
use Rattle.fd_networld.specs.Sent.{all_answers, client_peer, port_of_slot, sent_in}
use Rattle.fd_networld.specs.World.{AreForeign, Does, Follows, IsForeign, IsTaken, Stays, Takes, WillFail, Begins, Story, answering}
use Rattle.fd_networld.specs.World.{arriving, beginning, client_after, hearing, runs_of, sending, served_in, state_after, step_of}
use Rattle.fd_networld.specs.Watched.{IsCalm}
use Rattle.fd_networld.specs.declared.answer.Answer.{Answer}
use Rattle.fd_networld.specs.declared.event.Event.{Event}
use Rattle.fd_networld.specs.declared.event.Event.TheVariants.{Send, ToServer, ToClient, Stranger, ClientSilent, ServerSilent, SiteFails, Restart}
use Rattle.fd_networld.proofs.Carrying.{same_peer-true, answers_all, carried_event, carried_turn, was_answered, was_sent}
use Rattle.fd_networld.proofs.Running.{runs_begin, runs_more, turns-begin, turns-more}
use Rattle.fd_networld.proofs.Served.{was_served}

module _ (dump : List ℕ) (h : Header) (patience : Patience) where
  -- how far a world came
  pub record Holds (story : Story) : Type 0 where
    pub patience_is : story.client.patience ≡ patience
    pub passes : Passes dump h patience (start patience (chunks dump)) story.trace story.client.state
    pub runs : AreServerRuns (file_in []) (runs_of story)
    pub contents : contents_of story.site.disk ≡ contents_with (entries_in (all_turns (runs_of story)))
    pub calm : IsCalm story.site.calls story.waiting
    pub carried : IsCarried client_peer story.trace (all_turns (runs_of story))

  pub holds_first : Holds (beginning (chunks dump) patience)
  holds_first = record { patience_is = refl; passes = refl; runs = (tt, tt); contents = refl; calm = record { fails = refl; next = λ e. e }; carried = record { answers = tt; inputs = tt } }

  module _ (was : Story) (holds : Holds was) where
    abbrev turns : List Turn
    turns = all_turns (runs_of was)

    stays : (next : Story) → next ≡ was → Holds next
    stays next is = subst Holds (sym is) holds

    -- the client goes on
    abbrev gone_on : LinkEvent → Story
    gone_on e = record was { client = client_after e was.client; trace = was.trace ++ e ∷ [] }

    goes : (e : LinkEvent) (next : Story) → Passes dump h patience (start patience (chunks dump)) (was.trace ++ e ∷ []) (state_after patience e was.client.state)
        → WasAnswered client_peer turns e → next ≡ gone_on e → Holds next
    goes e next passes answered is = subst Holds (sym is) (record {
      patience_is = holds.patience_is;
      passes = subst (λ (p : Patience). Passes dump h patience (start patience (chunks dump)) (was.trace ++ e ∷ []) (state_after p e was.client.state)) (sym holds.patience_is) passes;
      runs = holds.runs;
      contents = holds.contents;
      calm = holds.calm;
      carried = carried_event client_peer was.trace turns e holds.carried answered;
    })

    sends : (w : Want) → want_of was.client.state ≡ w → (next : Story) → Does (sending dump h (port_of was.client.state) w) was next → Holds next
    sends (want.Send s) wanted next does =
        goes (Sent (port_of was.client.state) (datagram dump h s)) next (sent_step dump h patience (start patience (chunks dump)) was.trace was.client.state s holds.passes wanted) tt does
    sends want.Poll wanted next does = stays next does
    sends want.Done wanted next does = stays next does
    sends (want.TimedOut s) wanted next does = stays next does

    -- a poll that brings what was answered
    got : (port : ℕ) (bytes : List ℕ) → WasAnswered client_peer turns (Got port bytes) → (w : Want) →
        want_of was.client.state ≡ w → (next : Story) → Does (hearing (Got port bytes) w) was next → Holds next
    got port bytes answered want.Poll wanted next does =
        goes (Got port bytes) next (polled_step dump h patience (start patience (chunks dump)) was.trace was.client.state (Got port bytes) holds.passes wanted tt) answered does
    got port bytes answered (want.Send s) wanted next does = stays next does
    got port bytes answered want.Done wanted next does = stays next does
    got port bytes answered (want.TimedOut s) wanted next does = stays next does

    got_none : (w : Want) → want_of was.client.state ≡ w → (next : Story) → Does (hearing Silent w) was next → Holds next
    got_none want.Poll wanted next does =
        goes Silent next (polled_step dump h patience (start patience (chunks dump)) was.trace was.client.state Silent holds.passes wanted tt) tt does
    got_none (want.Send s) wanted next does = stays next does
    got_none want.Done wanted next does = stays next does
    got_none (want.TimedOut s) wanted next does = stays next does

    hears : (n : ℕ) (o : Option Answer) → slice_get (all_answers (served_in was)) n ≡ o → (next : Story) → Does (answering o (want_of was.client.state)) was next → Holds next
    hears n None is next does = stays next does
    hears n (Some a) is next does =
        cond_both (same_peer a.peer client_peer) (hearing (Got (port_of_slot a.slot) (ack a.seqno)) (want_of was.client.state)) Stays (λ step. Does step was next → Holds next)
        (λ same. got (port_of_slot a.slot) (ack a.seqno)
        (λ size. was_answered client_peer a (same_peer-true a.peer client_peer same) turns n (ap (λ (l : List Answer). slice_get l n) (sym (answers_all was)) ∙ is))
        (want_of was.client.state) refl next)
        (λ other. stays next)
        does

    -- the server takes an input
    takes : (input : Input) (next : Story) → (input.peer ≡ client_peer → OneOf (IsSending input.bytes) was.trace) → IsTaken input was next → Holds next
    takes input next sent t = subst Holds (sym t.is) (record {
      patience_is = holds.patience_is;
      passes = holds.passes;
      runs = runs_more (file_in []) was.earlier was.run t.turn holds.runs
          (subst (λ (f : Files). IsTurn (sessions_after [] was.run) f t.turn) (ap (λ (c : Contents). file_of c) holds.contents) t.is_turn);
      contents = by_some _ _ t.journal
          ∙ ap (λ (c : Contents). record c { journal = c.journal ++ t.turn.entries }) holds.contents
          ∙ ap contents_with (sym (ap entries_in more ∙ entries_in-append turns (t.turn ∷ []) ∙ ap (λ l. entries_in turns ++ l) (append-nil t.turn.entries)));
      calm = t.calm;
      carried = subst (IsCarried client_peer was.trace) (sym more)
          (carried_turn client_peer was.trace turns t.turn holds.carried (subst (λ (i : Input). i.peer ≡ client_peer → OneOf (IsSending i.bytes) was.trace) (sym t.input_is) sent));
    })
      where
        more : all_turns (was.earlier ++ (was.run ++ t.turn ∷ []) ∷ []) ≡ turns ++ t.turn ∷ []
        more = turns-more was.earlier was.run t.turn

        by_some : (a b : Contents) → Some a ≡ Some b → a ≡ b
        by_some a b e = cc

    arrives : (slot : ℕ) (peer : Peer) (o : Option (List ℕ)) → ((bytes : List ℕ) → o ≡ Some bytes → peer ≡ client_peer → OneOf (IsSending bytes) was.trace)
        → (next : Story) → Does (arriving slot peer o) was next → Holds next
    arrives slot peer None sent next does = stays next does
    arrives slot peer (Some bytes) sent next does =
        cond_both (nat_le slot 16) (Takes (record { slot = slot; peer = peer; bytes = bytes })) Stays (λ step. Does step was next → Holds next)
        (λ low. takes (record { slot = slot; peer = peer; bytes = bytes }) next (sent bytes refl))
        (λ high. stays next)
        does

    begins : (next : Story) → Does Begins was next → Holds next
    begins next is = subst Holds (sym is) (record {
      patience_is = holds.patience_is;
      passes = holds.passes;
      runs = runs_begin (file_in []) (runs_of was) holds.runs;
      contents = holds.contents ∙ ap (λ (ts : List Turn). contents_with (entries_in ts)) (sym (turns-begin (runs_of was)));
      calm = holds.calm;
      carried = subst (IsCarried client_peer was.trace) (sym (turns-begin (runs_of was))) holds.carried;
    })

    fails : (next : Story) → Does WillFail was next → Holds next
    fails next is = subst Holds (sym is)
        (record {
          patience_is = holds.patience_is;
          passes = holds.passes;
          runs = holds.runs;
          contents = holds.contents;
          calm = record { fails = holds.calm.fails; next = λ e. refl };
          carried = holds.carried;
        })

    pub holds_next : (event : Event) → IsForeign event → (next : Story) → Does (step_of dump h was event) was next → Holds next
    holds_next Send foreign next does = sends (want_of was.client.state) refl next does
    holds_next (ToServer slot nth) foreign next does = arrives slot client_peer (slice_get (sent_in was.trace) nth) (λ bytes is own. was_sent was.trace nth bytes is) next does
    holds_next (ToClient nth) foreign next does = hears nth (slice_get (all_answers (served_in was)) nth) refl next does
    holds_next (Stranger slot peer bytes) foreign next does = arrives slot peer (Some bytes) (λ bytes is own. absurd (foreign own)) next does
    holds_next ClientSilent foreign next does = got_none (want_of was.client.state) refl next does
    holds_next ServerSilent foreign next does = stays next does
    holds_next SiteFails foreign next does = fails next does
    holds_next Restart foreign next does = begins next does

  holds_all : (was : Story) → Holds was → (events : List Event) → AreForeign events → (now : Story) → Follows dump h was events now → Holds now
  holds_all was holds [] foreign now follows = subst Holds (sym follows) holds
  holds_all was holds (event ∷ events) foreign now follows =
      holds_all follows.0 (holds_next was holds event foreign.0 follows.0 follows.1) events foreign.1 now follows.2

  module _ (some : 1 ≤ patience.polls) (story : Story) (holds : Holds story) where
    completes : want_of story.client.state ≡ want.Done → IsComplete dump h patience story.trace Done
    completes done =
        subst (ComesNext dump h patience story.trace (port_of story.client.state)) done (wants_next dump h patience some story.trace story.client.state holds.passes)

    pub is_lawful : IsLawful dump h patience story
    is_lawful = record {
      client_run = (runs_are_passes dump h patience.retries patience.polls some story.trace).1 (story.client.state, holds.passes);
      complete = completes;
      server_runs = holds.runs;
      contents = holds.contents;
      carried = holds.carried;
    }

    pub was_delivered : IsSendable dump h → WasDelivered dump h story
    was_delivered sendable done =
        let journal = ap (λ (c : Contents). c.journal) holds.contents in
        let base = ap (λ (c : Contents). c.base_file) holds.contents in
        was_served dump h patience story.trace client_peer (contents_of story.site.disk) [] (runs_of story) sendable (completes done)
        (subst (λ (f : Files). AreServerRuns f (runs_of story)) (sym base) holds.runs) journal holds.carried

  pub all_lawful : 1 ≤ patience.polls → (events : List Event) → AreForeign events → (story : Story) → Follows dump h (beginning (chunks dump) patience) events story → IsLawful dump h patience story
  all_lawful some events foreign story follows = is_lawful some story (holds_all (beginning (chunks dump) patience) holds_first events foreign story follows)

  pub all_delivered : IsSendable dump h → 1 ≤ patience.polls → (events : List Event) → AreForeign events → (story : Story) →
      Follows dump h (beginning (chunks dump) patience) events story → WasDelivered dump h story
  all_delivered sendable some events foreign story follows = was_delivered some story (holds_all (beginning (chunks dump) patience) holds_first events foreign story follows) sendable
