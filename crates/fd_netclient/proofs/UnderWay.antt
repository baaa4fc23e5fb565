-- A sending goes along a client run, step by step, to its end.
use Rattle.std.proofs.Common.{◌≡◌, ℕ, ◌+◌, ◌<◌, ◌≤◌, List, [], ◌∷◌, ◌++◌, Option, Result, Ok, Err, IsErrAnd, refl, sym, ◌∙◌, ap, subst}
use Rattle.std.proofs.lemmas.Result.{err_from_is_err_and}
use Rattle.fd_site.specs.Trace.{LinkEvent, Sent, grown}
use Rattle.fd_site.proofs.Told.{grown-append, grown-nil}
use Rattle.fd_kdh.specs.declared.header.Header.{Header}
use Rattle.fd_netclient.specs.declared.client.Want.{Want}
use Rattle.fd_netclient.specs.declared.client.Want.TheVariants as want
use Rattle.fd_netclient.specs.declared.fault.ClientFault.{ClientFault}
use Rattle.fd_netclient.specs.declared.fault.ClientFault.TheVariants as fault
use Rattle.fd_netclient.specs.Datagram.{chunks, datagram}
use Rattle.fd_netclient.specs.Machine.{State, At, Ended, Standing, ComesNext, Passes, on_poll, on_sent, port_of, start, step_at, want_of}
use Rattle.fd_netclient.specs.Sending.{Grows, IsSending, IsStep, IsUnfinished}
use Rattle.fd_netclient.specs.Trace.{Patience, Done, TimedOut, IsPolled}
use Rattle.fd_netclient.proofs.Ends.{unfinished_at}
use Rattle.fd_netclient.proofs.Runs.{runs_are_passes}
use Rattle.fd_netclient.proofs.Wants.{polled_step, sent_step, wants_next}
use Rattle.fd_netclient.proofs.Weights.{lighter, weight}

module _ (dump : List ℕ) (h : Header) where
  -- the datagram that was wanted, and a poll that was wanted, are steps
  pub says : (old new : Option (List LinkEvent)) (was now : Standing) (s : ℕ) → want_of was.state ≡ want.Send s → now ≡ record was { state = on_sent was.state }
      → new ≡ grown old (Sent (port_of was.state) (datagram dump h s) ∷ []) → IsStep dump h old new was now
  says old new was now s wanted is told = record {
    event = Sent (port_of was.state) (datagram dump h s);
    told = told;
    passes = subst (λ (to : State). Passes dump h was.patience was.state (Sent (port_of was.state) (datagram dump h s) ∷ []) to) (sym (ap (λ (c : Standing). c.state) is))
        (sent_step dump h was.patience was.state [] was.state s refl wanted);
    patience = ap (λ (c : Standing). c.patience) is;
  }

  pub hears : (old new : Option (List LinkEvent)) (was now : Standing) (e : LinkEvent) → want_of was.state ≡ want.Poll → IsPolled e
      → now ≡ record was { state = on_poll was.patience e was.state } → new ≡ grown old (e ∷ []) → IsStep dump h old new was now
  hears old new was now e wanted polled is told = record {
    event = e;
    told = told;
    passes = subst (λ (to : State). Passes dump h was.patience was.state (e ∷ []) to) (sym (ap (λ (c : Standing). c.state) is))
        (polled_step dump h was.patience was.state [] was.state e refl wanted polled);
    patience = ap (λ (c : Standing). c.patience) is;
  }

  module _ (patience : Patience) where
    passes_then : (from : State) (trace more : List LinkEvent) (at to : State) → Passes dump h patience from trace at →
        Passes dump h patience at more to → Passes dump h patience from (trace ++ more) to
    passes_then from [] more at to passes further = subst (λ (s : State). Passes dump h patience s more to) (sym passes) further
    passes_then (Ended session outcome) (e ∷ trace) more at to passes further = absurd passes
    passes_then (At p) (e ∷ trace) more at to passes further = (passes.0, passes_then (step_at dump h patience p p.unsent e) trace more at to passes.1 further)

    -- how far a sending came: what was added to what is told takes a client from its start to where it stands
    pub record IsUnderWay (begun now : Option (List LinkEvent)) (client : Standing) : Type 0 where
      pub trace : List LinkEvent
      pub told : now ≡ grown begun trace
      pub patience_is : client.patience ≡ patience
      pub passes : Passes dump h patience (start patience (chunks dump)) trace client.state

    pub begins : (begun : Option (List LinkEvent)) (client : Standing) →
        client ≡ record { count = chunks dump; patience = patience; state = start patience (chunks dump) } →
        IsUnderWay begun begun client
    begins begun client is = record {
      trace = [];
      told = grown-nil begun;
      patience_is = ap (λ (c : Standing). c.patience) is;
      passes = sym (ap (λ (c : Standing). c.state) is);
    }

    step_passes : (at to : Standing) (e : LinkEvent) → at.patience ≡ patience → Passes dump h at.patience at.state (e ∷ []) to.state → Passes dump h patience at.state (e ∷ []) to.state
    step_passes at to e is passes = subst (λ (q : Patience). Passes dump h q at.state (e ∷ []) to.state) is passes

    -- and after a step it is still that
    pub goes_on : (begun was now : Option (List LinkEvent)) (at to : Standing) → IsUnderWay begun was at → IsStep dump h was now at to → IsUnderWay begun now to
    goes_on begun was now at to way step = record {
      trace = way.trace ++ step.event ∷ [];
      told = step.told ∙ ap (λ (t : Option (List LinkEvent)). grown t (step.event ∷ [])) way.told ∙ grown-append begun way.trace (step.event ∷ []);
      patience_is = step.patience ∙ way.patience_is;
      passes = passes_then (start patience (chunks dump)) way.trace (step.event ∷ []) at.state to.state way.passes (step_passes at to step.event way.patience_is step.passes);
    }

    -- a client that wants to send or to poll hasn't ended
    abbrev IsGoing : Want → Type 0
    IsGoing (want.Send s) = Unit {0}
    IsGoing want.Poll = Unit {0}
    IsGoing want.Done = ⊥
    IsGoing (want.TimedOut s) = ⊥

    module _ (some : 1 ≤ patience.polls) (begun : Option (List LinkEvent)) where
      -- each step takes weight
      pub ends : (was now : Option (List LinkEvent)) (at to : Standing) → IsUnderWay begun was at → IsStep dump h was now at to → weight patience to.state < weight patience at.state
      ends was now at to way step = lighter patience some dump h way.trace at.state to.state step.event way.passes (step_passes at to step.event way.patience_is step.passes)

      comes_next : (now : Option (List LinkEvent)) (client : Standing) (way : IsUnderWay begun now client) → ComesNext dump h patience way.trace (port_of client.state) (want_of client.state)
      comes_next now client way = wants_next dump h patience some way.trace client.state way.passes

      -- all was acknowledged
      pub is_done : (now : Option (List LinkEvent)) (client : Standing) → IsUnderWay begun now client → want.Done ≡ want_of client.state
          → (last : ℕ) → last ≡ chunks dump + 3 → Grows (IsSending dump h patience (Ok last)) begun now
      is_done now client way wanted last is =
          (way.trace, (is, subst (ComesNext dump h patience way.trace (port_of client.state)) (sym wanted) (comes_next now client way)), way.told)

      -- the rounds are over
      pub is_out : (now : Option (List LinkEvent)) (client : Standing) (s : ℕ) → IsUnderWay begun now client → want.TimedOut s ≡ want_of client.state
          → Grows (IsSending dump h patience (Err (fault.TimedOut s))) begun now
      is_out now client s way wanted =
          (way.trace, subst (ComesNext dump h patience way.trace (port_of client.state)) (sym wanted) (comes_next now client way), way.told)

      unfinished : (trace : List LinkEvent) (to : State) → Passes dump h patience (start patience (chunks dump)) trace to → IsGoing (want_of to) → IsUnfinished dump h patience trace
      unfinished trace (At p) passes going = record {
        run = (runs_are_passes dump h patience.retries patience.polls some trace).1 (At p, passes);
        unfinished = unfinished_at dump h patience some trace p passes;
      }
      unfinished trace (Ended session Done) passes going = absurd going
      unfinished trace (Ended session (TimedOut s)) passes going = absurd going

      -- the link failed, and added nothing
      pub is_broken : (was now : Option (List LinkEvent)) (client : Standing) (w : Want) → IsUnderWay begun was client → w ≡ want_of client.state → IsGoing w → now ≡ was
          → (r : Result ℕ ClientFault) → IsErrAnd r (λ why. why ≡ fault.LinkFault) → Grows (IsSending dump h patience r) begun now
      is_broken was now client w way wanted going same r is =
          let err = err_from_is_err_and r is in
          subst (λ (q : Result ℕ ClientFault). Grows (IsSending dump h patience q) begun now) (sym (err.1 ∙ ap (λ (why : ClientFault). Err why) err.2))
          (way.trace, unfinished way.trace client.state way.passes (subst IsGoing wanted going), same ∙ way.told)
