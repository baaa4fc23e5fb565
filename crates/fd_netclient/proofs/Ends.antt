-- How a trace ends: a complete trace has one outcome, and the machine comes along it to no other state.
use Rattle.std.proofs.Common.{◌≡◌, ℕ, ◌≤◌, List, [], ◌∷◌, Option, sym, ◌∙◌, ap}
use Rattle.fd_site.specs.Trace.{LinkEvent}
use Rattle.fd_kdh.specs.declared.header.Header.{Header}
use Rattle.fd_netclient.specs.Datagram.{chunks}
use Rattle.fd_netclient.specs.Trace.{Patience, Outcome, IsComplete}
use Rattle.fd_netclient.specs.Machine.{Place, State, At, Ended, step_at, Goes, Passes, start}
use Rattle.fd_netclient.proofs.Runs.{completes_going}

module _ (dump : List ℕ) (h : Header) (patience : Patience) where
  -- a trace that goes to an outcome passes to its end alone
  ends_there : (from : State) (trace : List LinkEvent) (to : State) (end : Outcome) → Passes dump h patience from trace to → Goes dump h patience from trace end
      → (session : Option ℕ) × (to ≡ Ended session end)
  ends_there (At p) [] to end passes goes = absurd goes
  ends_there (Ended session outcome) [] to end passes goes = (session, sym passes ∙ ap (Ended session) (sym goes.1))
  ends_there (Ended session outcome) (e ∷ trace) to end passes goes = absurd passes
  ends_there (At p) (e ∷ trace) to end passes goes = ends_there (step_at dump h patience p p.unsent e) trace to end passes.1 goes.1

  one_end : (from : State) (trace : List LinkEvent) (a b : Outcome) → Goes dump h patience from trace a → Goes dump h patience from trace b → a ≡ b
  one_end (At p) [] a b goes also = absurd goes
  one_end (Ended session outcome) trace a b goes also = goes.1 ∙ sym also.1
  one_end (At p) (e ∷ trace) a b goes also = one_end (step_at dump h patience p p.unsent e) trace a b goes.1 also.1

  module _ (some : 1 ≤ patience.polls) (trace : List LinkEvent) where
    pub one_outcome : (a b : Outcome) → IsComplete dump h patience trace a → IsComplete dump h patience trace b → a ≡ b
    one_outcome a b complete also =
        one_end (start patience (chunks dump)) trace a b (completes_going dump h patience some trace a complete) (completes_going dump h patience some trace b also)

    -- where the machine goes on, no outcome is reached
    pub unfinished_at : (p : Place) → Passes dump h patience (start patience (chunks dump)) trace (At p) → (outcome : Outcome) → IsComplete dump h patience trace outcome → ⊥
    unfinished_at p passes outcome complete =
        let there = ends_there (start patience (chunks dump)) trace (At p) outcome passes (completes_going dump h patience some trace outcome complete) in
        let other : At p ≡ Ended there.0 outcome = there.1 in
        absurd (cc)
