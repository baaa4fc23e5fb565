-- Each event of a client run takes weight from the machine's state: so a loop over the machine ends.
use Rattle.std.proofs.Common.{◌≡◌, ℕ, zero, suc, pred, ◌+◌, ◌-◌, ◌*◌, ◌/◌, ◌<◌, ◌≤◌, min, not, ◌==◌, List, [], ◌∷◌, length, map, Option, Some, None, refl, ap, subst, arith}
use Rattle.std.proofs.lemmas.Bool.{cond_both}
use Rattle.fd_site.specs.Trace.{LinkEvent}
use Rattle.fd_kdh.specs.declared.header.Header.{Header}
use Rattle.fd_netmsg.specs.Each.{Each}
use Rattle.fd_netclient.specs.Datagram.{chunks, batches, chunk_batch, numbers}
use Rattle.fd_netclient.specs.Trace.{Patience, acknowledged, without}
use Rattle.fd_netclient.specs.Machine.{Place, State, At, Ended, next_batch, polling, session_by, step_at, Passes, start}
use Rattle.fd_netclient.proofs.Traces.{Each-append, Each-map}

-- a batch has at most 64 numbers
abbrev IsSmall : List ℕ → Type 0
IsSmall u = length u ≤ 64

length-numbers : (from n : ℕ) → length (numbers from n) ≡ n
length-numbers from zero = refl
length-numbers from (suc n) = ap suc (length-numbers (from + 1) n)

small_later : (count : ℕ) → Each IsSmall (batches count)
small_later count = (
  omega arith,
  Each-append IsSmall (map (chunk_batch count) (numbers 0 ((count + 63) / 64))) (((count + 2) ∷ []) ∷ ((count + 3) ∷ []) ∷ [])
      (Each-map IsSmall (chunk_batch count) (numbers 0 ((count + 63) / 64)) (λ i. omega (arith, length-numbers (2 + 64 * i) (min 64 (count - 64 * i)))))
      (omega arith, (omega arith, tt)),
)

small_without : (found : Option ℕ) (u : List ℕ) → length (without found u) ≤ length u
small_without None u = omega arith
small_without (Some s) [] = omega arith
small_without (Some s) (n ∷ u) =
    let fewer = small_without (Some s) u in
    cond_both (not (n == s)) (n ∷ without (Some s) u) (without (Some s) u) (λ (l : List ℕ). length l ≤ length (n ∷ u)) (λ stays. omega (arith, fewer)) (λ goes. omega (arith, fewer))

module _ (patience : Patience) where
  -- rounds and batches that may still come, each by the most events that it can have
  abbrev of_rounds : ℕ → ℕ
  of_rounds zero = 0
  of_rounds (suc rounds) = 65 + patience.polls + of_rounds rounds

  abbrev of_batches : List (List ℕ) → ℕ
  of_batches [] = 0
  of_batches (u ∷ later) = of_rounds (suc patience.retries) + of_batches later

  abbrev pub weight : State → ℕ
  weight (Ended session outcome) = 0
  weight (At p) = 1 + length p.unsent + p.polls + of_rounds p.rounds + of_batches p.later

  -- a place that comes up: a poll is left, and no batch has more than 64 numbers
  record IsUsual (p : Place) : Type 0 where
    polls : 1 ≤ p.polls
    small : IsSmall p.unacknowledged
    later : Each IsSmall p.later

  abbrev IsUsualState : State → Type 0
  IsUsualState (At p) = IsUsual p
  IsUsualState (Ended session outcome) = Unit {0}

  light_batch : (session : Option ℕ) (later : List (List ℕ)) → Each IsSmall later → weight (next_batch patience session later) ≤ of_batches later
  light_batch session [] small = omega arith
  light_batch session (u ∷ later) small = let fits : length u ≤ 64 = small.0 in omega arith

  light_polling : (session : Option ℕ) (u : List ℕ) (polls rounds : ℕ) (later : List (List ℕ)) → IsSmall u → Each IsSmall later
      → weight (polling patience session u polls rounds later) ≤ 1 + polls + of_rounds rounds + of_batches later
  light_polling session [] polls rounds later fits small = let h = light_batch session later small in omega arith
  light_polling session (s ∷ u) zero zero later fits small = omega arith
  light_polling session (s ∷ u) zero (suc rounds) later fits small = omega arith
  light_polling session (s ∷ u) (suc polls) rounds later fits small = omega arith

  -- what is wanted takes weight from the state
  lighter_at : (dump : List ℕ) (h : Header) (p : Place) (unsent : List ℕ) (e : LinkEvent) → p.unsent ≡ unsent → IsUsual p → weight (step_at dump h patience p unsent e) < weight (At p)
  lighter_at dump h p [] e is usual =
      let left : List ℕ = without (acknowledged p.session e) p.unacknowledged in
      let small : IsSmall left = omega (arith, small_without (acknowledged p.session e) p.unacknowledged, usual.small) in
      omega (arith, light_polling (session_by p.session e) left (pred p.polls) p.rounds p.later small usual.later, fewer p.polls usual.polls)
    where
      fewer : (n : ℕ) → 1 ≤ n → pred n < n
      fewer zero some = absurd (omega arith)
      fewer (suc n) some = omega arith
  lighter_at dump h p (s ∷ unsent) e is usual = let size : length p.unsent ≡ suc (length unsent) = ap length is in omega arith

  module _ (some : 1 ≤ patience.polls) (dump : List ℕ) (h : Header) where
    usual_batch : (session : Option ℕ) (later : List (List ℕ)) → Each IsSmall later → IsUsualState (next_batch patience session later)
    usual_batch session [] small = tt
    usual_batch session (u ∷ later) small = record { polls = some; small = small.0; later = small.1 }

    usual_polling : (session : Option ℕ) (u : List ℕ) (polls rounds : ℕ) (later : List (List ℕ)) → IsSmall u → Each IsSmall later → IsUsualState (polling patience session u polls rounds later)
    usual_polling session [] polls rounds later fits small = usual_batch session later small
    usual_polling session (s ∷ u) zero zero later fits small = tt
    usual_polling session (s ∷ u) zero (suc rounds) later fits small = record { polls = some; small = fits; later = small }
    usual_polling session (s ∷ u) (suc polls) rounds later fits small = record { polls = omega arith; small = fits; later = small }

    usual_step : (p : Place) (unsent : List ℕ) (e : LinkEvent) → IsUsual p → IsUsualState (step_at dump h patience p unsent e)
    usual_step p [] e usual =
        usual_polling (session_by p.session e) (without (acknowledged p.session e) p.unacknowledged) (pred p.polls) p.rounds p.later
        (omega (arith, small_without (acknowledged p.session e) p.unacknowledged, usual.small)) usual.later
    usual_step p (s ∷ unsent) e usual = record { polls = usual.polls; small = usual.small; later = usual.later }

    usual_after : (from : State) (trace : List LinkEvent) (to : State) → IsUsualState from → Passes dump h patience from trace to → IsUsualState to
    usual_after from [] to usual passes = subst IsUsualState passes usual
    usual_after (Ended session outcome) (e ∷ trace) to usual passes = absurd passes
    usual_after (At p) (e ∷ trace) to usual passes = usual_after (step_at dump h patience p p.unsent e) trace to (usual_step p p.unsent e usual) passes.1

    lighter_from : (from to : State) (e : LinkEvent) → IsUsualState from → Passes dump h patience from (e ∷ []) to → weight to < weight from
    lighter_from (Ended session outcome) to e usual passes = absurd passes
    lighter_from (At p) to e usual passes =
        subst (λ (s : State). weight s < weight (At p)) passes.1 (lighter_at dump h p p.unsent e refl usual)

    -- an event of a client run takes weight from the state
    pub lighter : (trace : List LinkEvent) (at to : State) (e : LinkEvent) → Passes dump h patience (start patience (chunks dump)) trace at → Passes dump h patience at (e ∷ []) to
        → weight to < weight at
    lighter trace at to e passes step =
        lighter_from at to e (usual_after (start patience (chunks dump)) trace at (usual_batch None (batches (chunks dump)) (small_later (chunks dump))) passes) step
