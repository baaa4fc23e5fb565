-- What the machine wants comes next in a client run, and is a step of it.
use Rattle.std.proofs.Common.{◌≡◌, ℕ, ◌≤◌, List, [], ◌∷◌, ◌++◌, drop, Option, refl, sym, ◌∙◌, ap, subst}
use Rattle.fd_site.specs.Trace.{LinkEvent, Sent}
use Rattle.fd_kdh.specs.declared.header.Header.{Header}
use Rattle.fd_netclient.specs.Datagram.{chunks, datagram}
use Rattle.fd_netclient.specs.Trace.{Patience, Outcome, Done, TimedOut, IsClientRun, IsPolled, port_to}
use Rattle.fd_netclient.specs.Machine.{Place, State, At, Ended, IsNext, after_poll, after_sent, step_at, on_poll, on_sent, Goes, Passes, ComesNext, start, port_of, want_at, want_of}
use Rattle.fd_netclient.specs.declared.client.Want.TheVariants as want
use Rattle.fd_netclient.proofs.Machines.{machine_completes}
use Rattle.fd_netclient.proofs.Runs.{runs_are_passes}

module _ (dump : List ℕ) (h : Header) (patience : Patience) where
  -- a trace goes on by what is next
  pub passes_more : (from : State) (trace : List LinkEvent) (p : Place) (e : LinkEvent) → Passes dump h patience from trace (At p) → IsNext dump h patience p p.unsent e
      → Passes dump h patience from (trace ++ e ∷ []) (step_at dump h patience p p.unsent e)
  passes_more from [] p e passes next = subst (λ (s : State). Passes dump h patience s (e ∷ []) (step_at dump h patience p p.unsent e)) (sym passes) (next, refl)
  passes_more (Ended session outcome) (f ∷ trace) p e passes next = absurd passes
  passes_more (At q) (f ∷ trace) p e passes next = (passes.0, passes_more (step_at dump h patience q q.unsent f) trace p e passes.1 next)

  -- and ends with the outcome
  passes_end : (from : State) (trace : List LinkEvent) (session : Option ℕ) (outcome : Outcome) → Passes dump h patience from trace (Ended session outcome) → Goes dump h patience from trace outcome
  passes_end from [] session outcome passes = subst (λ (s : State). Goes dump h patience s [] outcome) (sym passes) (refl, refl)
  passes_end (Ended at outcome_at) (e ∷ trace) session outcome passes = absurd passes
  passes_end (At p) (e ∷ trace) session outcome passes = (passes.0, passes_end (step_at dump h patience p p.unsent e) trace session outcome passes.1)

  -- a datagram or a poll that is wanted is a step
  module _ (from : State) (trace : List LinkEvent) where
    sent_at : (p : Place) (s : ℕ) (unsent : List ℕ) → p.unsent ≡ unsent → Passes dump h patience from trace (At p) → want_at unsent ≡ want.Send s
        → Passes dump h patience from (trace ++ Sent (port_to p.session) (datagram dump h s) ∷ []) (after_sent p (drop 1 p.unsent))
    sent_at p s [] is passes wanted = absurd (cc)
    sent_at p s (n ∷ unsent) is passes wanted =
        let same : n ≡ s = cc in
        let e : LinkEvent = Sent (port_to p.session) (datagram dump h s) in
        let first : p.unsent ≡ s ∷ unsent = is ∙ ap (λ m. m ∷ unsent) same in
        subst (λ (u : List ℕ). Passes dump h patience from (trace ++ e ∷ []) (after_sent p u)) (sym (ap (drop 1) first))
        (subst (λ (u : List ℕ). Passes dump h patience from (trace ++ e ∷ []) (step_at dump h patience p u e)) first
        (passes_more from trace p e passes (subst (λ (u : List ℕ). IsNext dump h patience p u e) (sym first) refl)))

    pub sent_step : (to : State) (s : ℕ) → Passes dump h patience from trace to → want_of to ≡ want.Send s
        → Passes dump h patience from (trace ++ Sent (port_of to) (datagram dump h s) ∷ []) (on_sent to)
    sent_step (At p) s passes wanted = sent_at p s p.unsent refl passes wanted
    sent_step (Ended session Done) s passes wanted = absurd (cc)
    sent_step (Ended session (TimedOut n)) s passes wanted = absurd (cc)

    polled_at : (p : Place) (e : LinkEvent) (unsent : List ℕ) → p.unsent ≡ unsent → Passes dump h patience from trace (At p) → want_at unsent ≡ want.Poll → IsPolled e
        → Passes dump h patience from (trace ++ e ∷ []) (after_poll patience p e)
    polled_at p e [] is passes wanted polled =
        subst (λ (u : List ℕ). Passes dump h patience from (trace ++ e ∷ []) (step_at dump h patience p u e)) is
        (passes_more from trace p e passes (subst (λ (u : List ℕ). IsNext dump h patience p u e) (sym is) polled))
    polled_at p e (n ∷ unsent) is passes wanted polled = absurd (cc)

    pub polled_step : (to : State) (e : LinkEvent) → Passes dump h patience from trace to → want_of to ≡ want.Poll → IsPolled e
        → Passes dump h patience from (trace ++ e ∷ []) (on_poll patience e to)
    polled_step (At p) e passes wanted polled = polled_at p e p.unsent refl passes wanted polled
    polled_step (Ended session Done) e passes wanted polled = absurd (cc)
    polled_step (Ended session (TimedOut n)) e passes wanted polled = absurd (cc)

  module _ (some : 1 ≤ patience.polls) (trace : List LinkEvent) where
    abbrev begin_ : State
    begin_ = start patience (chunks dump)

    next_run : (p : Place) (e : LinkEvent) → Passes dump h patience begin_ trace (At p) → IsNext dump h patience p p.unsent e → IsClientRun dump h patience (trace ++ e ∷ [])
    next_run p e passes next =
        (runs_are_passes dump h patience.retries patience.polls some (trace ++ e ∷ [])).1 (step_at dump h patience p p.unsent e, passes_more begin_ trace p e passes next)

    at_place : (p : Place) (unsent : List ℕ) → p.unsent ≡ unsent → Passes dump h patience begin_ trace (At p) → ComesNext dump h patience trace (port_to p.session) (want_at unsent)
    at_place p [] is passes = λ e polled. next_run p e passes (subst (λ (u : List ℕ). IsNext dump h patience p u e) (sym is) polled)
    at_place p (s ∷ unsent) is passes =
        let e : LinkEvent = Sent (port_to p.session) (datagram dump h s) in
        next_run p e passes (subst (λ (u : List ℕ). IsNext dump h patience p u e) (sym is) refl)

    pub wants_next : (to : State) → Passes dump h patience begin_ trace to → ComesNext dump h patience trace (port_of to) (want_of to)
    wants_next (At p) passes = at_place p p.unsent refl passes
    wants_next (Ended session Done) passes = machine_completes dump h patience some trace Done (passes_end begin_ trace session Done passes)
    wants_next (Ended session (TimedOut s)) passes = machine_completes dump h patience some trace (TimedOut s) (passes_end begin_ trace session (TimedOut s) passes)
