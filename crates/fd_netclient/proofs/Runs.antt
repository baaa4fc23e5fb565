-- Each complete trace is one of the machine's, and from each of its states there is a way to an end: so its traces so far
-- are just the client runs.
use Rattle.std.proofs.Common.{◌≡◌, inl, inr, ◌⊎◌, ℕ, zero, suc, pred, ◌+◌, ◌/◌, ◌≤◌, List, [], ◌∷◌, ◌++◌, map, Option, Some, None, refl, sym, ◌∙◌, ap, subst, arith, append_assoc}
use Rattle.std.proofs.lemmas.List.{append-nil}
use Rattle.std.specs.List.{flat_map}
use Rattle.fd_site.specs.Trace.{LinkEvent, Sent, Silent}
use Rattle.fd_kdh.specs.declared.header.Header.{Header}
use Rattle.fd_netmsg.specs.Each.{Each}
use Rattle.fd_netclient.specs.Datagram.{chunks, datagram, chunk_batch, numbers}
use Rattle.fd_netclient.specs.Trace.{Patience, Outcome, TimedOut, acknowledged, without, left, left_by, IsHeard, AreRounds, AreBatches, OnLeft, session_after, first_port, port_to}
use Rattle.fd_netclient.specs.Trace.{batch_trace, trace_of, IsClientRun, IsComplete}
use Rattle.fd_netclient.specs.Machine.{Place, State, At, Ended, next_batch, next_round, polling, session_by, step_at, Goes, Passes, start}
use Rattle.fd_netclient.proofs.Machines.{IsSome, IsHeralds, PassesBy, heralds_or_not, later_some, machine_completes}

module _ (dump : List ℕ) (h : Header) (retries n : ℕ) (end : Outcome) where
  abbrev patience : Patience
  patience = record { retries = retries; polls = suc n }

  abbrev GoesFrom : State → List LinkEvent → Type 0
  GoesFrom state trace = Goes dump h patience state trace end

  abbrev place : Option ℕ → List ℕ → List ℕ → ℕ → ℕ → List (List ℕ) → State
  place session unsent u polls rounds later = At (record { session = session; unsent = unsent; unacknowledged = u; polls = polls; rounds = rounds; later = later })

  -- what is to be sent is sent
  pub sends_go : (session : Option ℕ) (unsent u : List ℕ) (polls rounds : ℕ) (later : List (List ℕ)) (rest : List LinkEvent)
      → GoesFrom (place session [] u polls rounds later) rest → GoesFrom (place session unsent u polls rounds later) (map (λ s. Sent (port_to session) (datagram dump h s)) unsent ++ rest)
  sends_go session [] u polls rounds later rest goes = goes
  sends_go session (s ∷ unsent) u polls rounds later rest goes = (refl, sends_go session unsent u polls rounds later rest goes)

  -- a round in a session that is known
  heard_goes : (port : ℕ) (polls : ℕ) (u : List ℕ) (rounds : ℕ) (later : List (List ℕ)) (heard rest : List LinkEvent) → IsHeard polls (Some port) u heard
      → GoesFrom (polling patience (Some port) (left (Some port) u heard) zero rounds later) rest → GoesFrom (polling patience (Some port) u polls rounds later) (heard ++ rest)
  heard_goes port polls [] rounds later heard rest is goes =
      subst (λ (q : List LinkEvent). GoesFrom (next_batch patience (Some port) later) (q ++ rest)) (sym is)
      (subst (λ (q : List LinkEvent). GoesFrom (polling patience (Some port) (left (Some port) [] q) zero rounds later) rest) is goes)
  heard_goes port zero (s ∷ u) rounds later heard rest is goes =
      subst (λ (q : List LinkEvent). GoesFrom (next_round patience (Some port) s u rounds later) (q ++ rest)) (sym is)
      (subst (λ (q : List LinkEvent). GoesFrom (polling patience (Some port) (left (Some port) (s ∷ u) q) zero rounds later) rest) is goes)
  heard_goes port (suc polls) (s ∷ u) rounds later [] rest is goes = absurd is
  heard_goes port (suc polls) (s ∷ u) rounds later (e ∷ heard) rest is goes =
      (is.0, heard_goes port polls (without (acknowledged (Some port) e) (s ∷ u)) rounds later heard rest is.1 goes)

  rounds_go : (port : ℕ) (u : List ℕ) (rounds : ℕ) (later : List (List ℕ)) (told : List (List LinkEvent)) (rest : List LinkEvent) → AreRounds (suc n) rounds (Some port) u told
      → GoesFrom (polling patience (Some port) (left_by (Some port) u told) zero zero later) rest
      → GoesFrom (polling patience (Some port) u zero rounds later) (batch_trace dump h (Some port) u told ++ rest)
  rounds_go port [] rounds later told rest are goes =
      subst (λ (q : List (List LinkEvent)). GoesFrom (next_batch patience (Some port) later) (batch_trace dump h (Some port) [] q ++ rest)) (sym are)
      (subst (λ (q : List (List LinkEvent)). GoesFrom (polling patience (Some port) (left_by (Some port) [] q) zero zero later) rest) are goes)
  rounds_go port (s ∷ u) zero later told rest are goes =
      subst (λ (q : List (List LinkEvent)). GoesFrom (next_round patience (Some port) s u zero later) (batch_trace dump h (Some port) (s ∷ u) q ++ rest)) (sym are)
      (subst (λ (q : List (List LinkEvent)). GoesFrom (polling patience (Some port) (left_by (Some port) (s ∷ u) q) zero zero later) rest) are goes)
  rounds_go port (s ∷ u) (suc rounds) later [] rest are goes = absurd are
  rounds_go port (s ∷ u) (suc rounds) later (heard ∷ told) rest are goes =
      let after : List ℕ = left (Some port) (s ∷ u) heard in
      let sent : List LinkEvent = map (λ i. Sent port (datagram dump h i)) (s ∷ u) in
      subst (GoesFrom (place (Some port) (s ∷ u) (s ∷ u) (suc n) rounds later))
      (sym (append_assoc sent (heard ++ batch_trace dump h (Some port) after told) rest ∙ ap (λ l. sent ++ l) (append_assoc heard (batch_trace dump h (Some port) after told) rest)))
      (sends_go (Some port) (s ∷ u) (s ∷ u) (suc n) rounds later (heard ++ (batch_trace dump h (Some port) after told ++ rest))
      (heard_goes port (suc n) (s ∷ u) rounds later heard (batch_trace dump h (Some port) after told ++ rest) are.0 (rounds_go port after rounds later told rest are.1 goes)))

  nothing : (session : Option ℕ) (later : List (List ℕ)) → trace_of dump h session later [] ≡ []
  nothing session [] = refl
  nothing session (u ∷ later) = refl

  -- what is left at a batch's end
  left_goes : (port : ℕ) (rest : List ℕ) (later : List (List ℕ)) (more : List (List (List LinkEvent)))
      → OnLeft rest (AreBatches patience (Some port) later more end) (λ least. (more ≡ []) × (end ≡ TimedOut least))
      → (AreBatches patience (Some port) later more end → GoesFrom (next_batch patience (Some port) later) (trace_of dump h (Some port) later more))
      → GoesFrom (polling patience (Some port) rest zero zero later) (trace_of dump h (Some port) later more)
  left_goes port [] later more on go = go on
  left_goes port (s ∷ rest) later more on go =
      (ap (λ (m : List (List (List LinkEvent))). trace_of dump h (Some port) later m) on.0 ∙ nothing (Some port) later, on.1)

  batches_go : (port : ℕ) (later : List (List ℕ)) (told : List (List (List LinkEvent))) → Each IsSome later → AreBatches patience (Some port) later told end
      → GoesFrom (next_batch patience (Some port) later) (trace_of dump h (Some port) later told)
  batches_go port [] [] some are = (refl, are)
  batches_go port [] (rounds ∷ more) some are = absurd are
  batches_go port (u ∷ later) [] some are = absurd are
  batches_go port ([] ∷ later) (rounds ∷ more) some are = absurd (some.0 refl)
  batches_go port ((s ∷ u) ∷ later) (rounds ∷ more) some are =
      rounds_go port (s ∷ u) (suc retries) later rounds (trace_of dump h (Some port) later more) are.0
      (left_goes port (left_by (Some port) (s ∷ u) rounds) later more are.1 (batches_go port later more some.1))

  -- the herald's batch
  herald_heard : (polls rounds : ℕ) (later : List (List ℕ)) (heard rest : List LinkEvent) → IsHeard polls None (1 ∷ []) heard
      → GoesFrom (polling patience (first_port heard) (left None (1 ∷ []) heard) zero rounds later) rest → GoesFrom (polling patience None (1 ∷ []) polls rounds later) (heard ++ rest)
  herald_heard zero rounds later heard rest is goes =
      subst (λ (q : List LinkEvent). GoesFrom (next_round patience None 1 [] rounds later) (q ++ rest)) (sym is)
      (subst (λ (q : List LinkEvent). GoesFrom (polling patience (first_port q) (left None (1 ∷ []) q) zero rounds later) rest) is goes)
  herald_heard (suc polls) rounds later [] rest is goes = absurd is
  herald_heard (suc polls) rounds later (e ∷ heard) rest is goes = (is.0, by_event (heralds_or_not dump h retries n end e) (herald_heard polls rounds later heard rest))
    where
      w : List ℕ
      w = without (acknowledged None e) (1 ∷ [])

      by_event : IsHeralds dump h retries n end e ⊎ PassesBy dump h retries n end e
          → (IsHeard polls None (1 ∷ []) heard → GoesFrom (polling patience (first_port heard) (left None (1 ∷ []) heard) zero rounds later) rest
          → GoesFrom (polling patience None (1 ∷ []) polls rounds later) (heard ++ rest))
          → GoesFrom (polling patience (first_port (e ∷ [])) (without (acknowledged None e) (1 ∷ [])) polls rounds later) (heard ++ rest)
      by_event (inl it) go =
          let none : heard ≡ [] = subst (λ (v : List ℕ). IsHeard polls None v heard) it.gone is.1 in
          let goes_on : GoesFrom (polling patience (first_port (e ∷ [])) (without (acknowledged None e) (1 ∷ [])) zero rounds later) rest =
          subst (λ (q : List LinkEvent). GoesFrom (polling patience (first_port (e ∷ q)) (left None (without (acknowledged None e) (1 ∷ [])) q) zero rounds later) rest) none goes in
          let batch : GoesFrom (next_batch patience (first_port (e ∷ [])) later) rest =
          subst (λ (v : List ℕ). GoesFrom (polling patience (first_port (e ∷ [])) v zero rounds later) rest) it.gone goes_on in
          subst (λ (q : List LinkEvent). GoesFrom (polling patience (first_port (e ∷ [])) (without (acknowledged None e) (1 ∷ [])) polls rounds later) (q ++ rest)) (sym none)
          (subst (λ (v : List ℕ). GoesFrom (polling patience (first_port (e ∷ [])) v polls rounds later) rest) (sym it.gone) batch)
      by_event (inr by) go =
          let heard_on : IsHeard polls None (1 ∷ []) heard = subst (λ (v : List ℕ). IsHeard polls None v heard) by.stays is.1 in
          let goes_on : GoesFrom (polling patience (first_port heard) (left None (1 ∷ []) heard) zero rounds later) rest =
          subst (λ (v : List ℕ). GoesFrom (polling patience (first_port heard) (left None v heard) zero rounds later) rest) by.stays
          (subst (λ (s : Option ℕ). GoesFrom (polling patience s (left None (without (acknowledged None e) (1 ∷ [])) heard) zero rounds later) rest) (by.behind heard) goes) in
          subst (λ (s : Option ℕ). GoesFrom (polling patience s (without (acknowledged None e) (1 ∷ [])) polls rounds later) (heard ++ rest)) (sym (by.behind []))
          (subst (λ (v : List ℕ). GoesFrom (polling patience None v polls rounds later) (heard ++ rest)) (sym by.stays) (go heard_on goes_on))

  left_nil : (session : Option ℕ) (heard : List LinkEvent) → left session [] heard ≡ []
  left_nil session [] = refl
  left_nil session (e ∷ heard) = ap (λ (u : List ℕ). left session u heard) (none (acknowledged session e)) ∙ left_nil session heard
    where
      none : (found : Option ℕ) → without found [] ≡ []
      none None = refl
      none (Some s) = refl

  -- what is heard in the herald's batch acknowledged it or passes by
  record IsOver (heard : List LinkEvent) : Type 0 where
    port : ℕ
    session : (es : List LinkEvent) → first_port (heard ++ es) ≡ Some port
    gone : left None (1 ∷ []) heard ≡ []

  record IsStill (heard : List LinkEvent) : Type 0 where
    behind : (es : List LinkEvent) → first_port (heard ++ es) ≡ first_port es
    stays : left None (1 ∷ []) heard ≡ 1 ∷ []

  over_or_still : (heard : List LinkEvent) → IsOver heard ⊎ IsStill heard
  over_or_still [] = inr (record { behind = λ es. refl; stays = refl })
  over_or_still (e ∷ heard) =
      elim (heralds_or_not dump h retries n end e) [
        | inl it ↦ inl (record { port = it.port; session = λ es. it.session (heard ++ es); gone = ap (λ (u : List ℕ). left None u heard) it.gone ∙ left_nil None heard })
        | inr by ↦ elim (over_or_still heard) [
          | inl over ↦ inl (record { port = over.port; session = λ es. by.behind (heard ++ es) ∙ over.session es; gone = ap (λ (u : List ℕ). left None u heard) by.stays ∙ over.gone })
          | inr still ↦ inr (record { behind = λ es. by.behind (heard ++ es) ∙ still.behind es; stays = ap (λ (u : List ℕ). left None u heard) by.stays ∙ still.stays })
        ]
      ]

  herald_rounds : (rounds : ℕ) (later : List (List ℕ)) (told : List (List LinkEvent)) (rest : List LinkEvent) → AreRounds (suc n) rounds None (1 ∷ []) told
      → GoesFrom (polling patience (session_after None told) (left_by None (1 ∷ []) told) zero zero later) rest
      → GoesFrom (polling patience None (1 ∷ []) zero rounds later) (batch_trace dump h None (1 ∷ []) told ++ rest)
  herald_rounds zero later told rest are goes =
      subst (λ (q : List (List LinkEvent)). GoesFrom (next_round patience None 1 [] zero later) (batch_trace dump h None (1 ∷ []) q ++ rest)) (sym are)
      (subst (λ (q : List (List LinkEvent)). GoesFrom (polling patience (session_after None q) (left_by None (1 ∷ []) q) zero zero later) rest) are goes)
  herald_rounds (suc rounds) later [] rest are goes = absurd are
  herald_rounds (suc rounds) later (heard ∷ told) rest are goes =
      subst (GoesFrom (place None (1 ∷ []) (1 ∷ []) (suc n) rounds later))
      (ap (λ l. Sent 20023 (datagram dump h 1) ∷ l) (sym (append_assoc heard (batch_trace dump h None (left None (1 ∷ []) heard) told) rest)))
      (sends_go None (1 ∷ []) (1 ∷ []) (suc n) rounds later (heard ++ (batch_trace dump h None (left None (1 ∷ []) heard) told ++ rest))
      (herald_heard (suc n) rounds later heard (batch_trace dump h None (left None (1 ∷ []) heard) told ++ rest) are.0
      (goes_on (over_or_still heard) (herald_rounds rounds later told rest))))
    where
      after : List ℕ
      after = left None (1 ∷ []) heard

      goes_on : IsOver heard ⊎ IsStill heard
          → (AreRounds (suc n) rounds None (1 ∷ []) told → GoesFrom (polling patience (session_after None told) (left_by None (1 ∷ []) told) zero zero later) rest
          → GoesFrom (polling patience None (1 ∷ []) zero rounds later) (batch_trace dump h None (1 ∷ []) told ++ rest))
          → GoesFrom (polling patience (first_port heard) (left None (1 ∷ []) heard) zero rounds later) (batch_trace dump h None (left None (1 ∷ []) heard) told ++ rest)
      goes_on (inl over) go =
          let none : told ≡ [] = subst (λ (u : List ℕ). AreRounds (suc n) rounds None u told) over.gone are.1 in
          let same : first_port heard ≡ first_port (heard ++ flat_map (λ l. l) told) = ap first_port (sym (append-nil heard)) ∙ over.session [] ∙ sym (over.session (flat_map (λ l. l) told)) in
          let ended : GoesFrom (polling patience (first_port heard) (left_by None (left None (1 ∷ []) heard) told) zero zero later) rest =
          subst (λ (s : Option ℕ). GoesFrom (polling patience s (left_by None (left None (1 ∷ []) heard) told) zero zero later) rest) (sym same) goes in
          let batch : GoesFrom (next_batch patience (first_port heard) later) rest =
          subst (λ (u : List ℕ). GoesFrom (polling patience (first_port heard) u zero zero later) rest) over.gone
          (subst (λ (q : List (List LinkEvent)). GoesFrom (polling patience (first_port heard) (left_by None (left None (1 ∷ []) heard) q) zero zero later) rest) none ended) in
          subst (λ (q : List (List LinkEvent)). GoesFrom (polling patience (first_port heard) after zero rounds later) (batch_trace dump h None after q ++ rest)) (sym none)
          (subst (λ (u : List ℕ). GoesFrom (polling patience (first_port heard) u zero rounds later) rest) (sym over.gone) batch)
      goes_on (inr still) go =
          let unknown : first_port heard ≡ None = ap first_port (sym (append-nil heard)) ∙ still.behind [] in
          let on : GoesFrom (polling patience (first_port (flat_map (λ l. l) told)) (left_by None (1 ∷ []) told) zero zero later) rest =
          subst (λ (u : List ℕ). GoesFrom (polling patience (first_port (flat_map (λ l. l) told)) (left_by None u told) zero zero later) rest) still.stays
          (subst (λ (s : Option ℕ). GoesFrom (polling patience s (left_by None (left None (1 ∷ []) heard) told) zero zero later) rest) (still.behind (flat_map (λ l. l) told)) goes) in
          subst (λ (s : Option ℕ). GoesFrom (polling patience s (left None (1 ∷ []) heard) zero rounds later) (batch_trace dump h None (left None (1 ∷ []) heard) told ++ rest)) (sym unknown)
          (subst (λ (u : List ℕ). GoesFrom (polling patience None u zero rounds later) (batch_trace dump h None u told ++ rest)) (sym still.stays)
          (go (subst (λ (u : List ℕ). AreRounds (suc n) rounds None u told) still.stays are.1) on))

  -- after the herald's batch the session is known, or it timed out
  known_or_left : (told : List (List LinkEvent)) → ((port : ℕ) × (session_after None told ≡ Some port)) ⊎ (left_by None (1 ∷ []) told ≡ 1 ∷ [])
  known_or_left [] = inr refl
  known_or_left (heard ∷ told) =
      elim (over_or_still heard) [
        | inl over ↦ inl (over.port, over.session (flat_map (λ l. l) told))
        | inr still ↦ elim (known_or_left told) [
          | inl known ↦ inl (known.0, still.behind (flat_map (λ l. l) told) ∙ known.1)
          | inr stays ↦ inr (ap (λ (u : List ℕ). left_by None u told) still.stays ∙ stays)
        ]
      ]

  pub complete_goes : (later : List (List ℕ)) → Each IsSome later → (told : List (List (List LinkEvent))) → AreBatches patience None ((1 ∷ []) ∷ later) told end
      → GoesFrom (place None (1 ∷ []) (1 ∷ []) (suc n) retries later) (trace_of dump h None ((1 ∷ []) ∷ later) told)
  complete_goes later some [] are = absurd are
  complete_goes later some (rounds ∷ more) are =
      herald_rounds (suc retries) later rounds (trace_of dump h (session_after None rounds) later more) are.0
      (elim (known_or_left rounds) [
        | inl known ↦
            subst (λ (s : Option ℕ). GoesFrom (polling patience s (left_by None (1 ∷ []) rounds) zero zero later) (trace_of dump h s later more)) (sym known.1)
            (left_goes known.0 (left_by None (1 ∷ []) rounds) later more
            (subst (λ (s : Option ℕ). OnLeft (left_by None (1 ∷ []) rounds) (AreBatches patience s later more end) (λ least. (more ≡ []) × (end ≡ TimedOut least))) known.1 are.1)
            (batches_go known.0 later more some))
        | inr stays ↦
            let out : (more ≡ []) × (end ≡ TimedOut 1) =
            subst (λ (u : List ℕ). OnLeft u (AreBatches patience (session_after None rounds) later more end) (λ least. (more ≡ []) × (end ≡ TimedOut least))) stays are.1 in
            subst (λ (u : List ℕ). GoesFrom (polling patience (session_after None rounds) u zero zero later) (trace_of dump h (session_after None rounds) later more)) (sym stays)
            (ap (λ (m : List (List (List LinkEvent))). trace_of dump h (session_after None rounds) later m) out.0 ∙ nothing (session_after None rounds) later, out.1)
      ])

module _ (dump : List ℕ) (h : Header) (retries n : ℕ) where
  abbrev calm : Patience
  calm = record { retries = retries; polls = suc n }

  abbrev at_place : Option ℕ → List ℕ → List ℕ → ℕ → ℕ → List (List ℕ) → State
  at_place session unsent u polls rounds later = At (record { session = session; unsent = unsent; unacknowledged = u; polls = polls; rounds = rounds; later = later })

  -- a way to an end
  record HasEnd (state : State) : Type 0 where
    trace : List LinkEvent
    outcome : Outcome
    goes : Goes dump h calm state trace outcome

  silent_session : (session : Option ℕ) → session_by session Silent ≡ session
  silent_session None = refl
  silent_session (Some port) = refl

  silence : (session : Option ℕ) (s : ℕ) (u : List ℕ) (polls rounds : ℕ) (later : List (List ℕ)) → HasEnd (polling calm session (s ∷ u) zero rounds later)
      → HasEnd (polling calm session (s ∷ u) polls rounds later)
  silence session s u zero rounds later end = end
  silence session s u (suc polls) rounds later end =
      let next = silence session s u polls rounds later end in
      record {
        trace = Silent ∷ next.trace;
        outcome = next.outcome;
        goes = (tt, subst (λ (o : Option ℕ). Goes dump h calm (polling calm o (s ∷ u) polls rounds later) next.trace next.outcome) (sym (silent_session session)) next.goes);
      }

  sending : (session : Option ℕ) (unsent : List ℕ) (s : ℕ) (u : List ℕ) (polls rounds : ℕ) (later : List (List ℕ)) → HasEnd (at_place session [] (s ∷ u) (suc polls) rounds later)
      → HasEnd (at_place session unsent (s ∷ u) (suc polls) rounds later)
  sending session unsent s u polls rounds later end = record {
    trace = map (λ i. Sent (port_to session) (datagram dump h i)) unsent ++ end.trace;
    outcome = end.outcome;
    goes = sends_go dump h retries n end.outcome session unsent (s ∷ u) (suc polls) rounds later end.trace end.goes;
  }

  to_end : (session : Option ℕ) (s : ℕ) (u : List ℕ) (rounds : ℕ) (later : List (List ℕ)) → HasEnd (next_round calm session s u rounds later)
  to_end session s u zero later = record { trace = []; outcome = TimedOut s; goes = (refl, refl) }
  to_end session s u (suc rounds) later = sending session (s ∷ u) s u n rounds later (silence session s u (suc n) rounds later (to_end session s u rounds later))

  -- the places that come up
  pub record IsFine (p : Place) : Type 0 where
    pub some : IsSome p.unacknowledged
    pub polls : p.polls ≡ 0 → ⊥
    pub later : Each IsSome p.later

  abbrev pub IsFineState : State → Type 0
  IsFineState (At p) = IsFine p
  IsFineState (Ended session outcome) = Unit {0}

  end_of_place : (session : Option ℕ) (unsent u : List ℕ) (polls rounds : ℕ) (later : List (List ℕ)) → IsSome u → (polls ≡ 0 → ⊥) → HasEnd (at_place session unsent u polls rounds later)
  end_of_place session unsent [] polls rounds later some more = absurd (some refl)
  end_of_place session unsent (s ∷ u) zero rounds later some more = absurd (more refl)
  end_of_place session unsent (s ∷ u) (suc polls) rounds later some more =
      sending session unsent s u polls rounds later (silence session s u (suc polls) rounds later (to_end session s u rounds later))

  has_end : (state : State) → IsFineState state → HasEnd state
  has_end (Ended session outcome) fine = record { trace = []; outcome = outcome; goes = (refl, refl) }
  has_end (At p) fine = end_of_place p.session p.unsent p.unacknowledged p.polls p.rounds p.later fine.some fine.polls

  fine_batch : (session : Option ℕ) (later : List (List ℕ)) → Each IsSome later → IsFineState (next_batch calm session later)
  fine_batch session [] some = tt
  fine_batch session (u ∷ later) some = record { some = some.0; polls = λ e. absurd (cc); later = some.1 }

  fine_polling : (session : Option ℕ) (u : List ℕ) (polls rounds : ℕ) (later : List (List ℕ)) → Each IsSome later → IsFineState (polling calm session u polls rounds later)
  fine_polling session [] polls rounds later some = fine_batch session later some
  fine_polling session (s ∷ u) zero zero later some = tt
  fine_polling session (s ∷ u) zero (suc rounds) later some = record { some = λ e. absurd (cc); polls = λ e. absurd (cc); later = some }
  fine_polling session (s ∷ u) (suc polls) rounds later some = record { some = λ e. absurd (cc); polls = λ e. absurd (cc); later = some }

  fine_step : (p : Place) (unsent : List ℕ) (e : LinkEvent) → IsFine p → IsFineState (step_at dump h calm p unsent e)
  fine_step p [] e fine = fine_polling (session_by p.session e) (without (acknowledged p.session e) p.unacknowledged) (pred p.polls) p.rounds p.later fine.later
  fine_step p (s ∷ unsent) e fine = record { some = fine.some; polls = fine.polls; later = fine.later }

  fine_after : (from : State) (trace : List LinkEvent) (to : State) → IsFineState from → Passes dump h calm from trace to → IsFineState to
  fine_after from [] to fine passes = subst IsFineState passes fine
  fine_after (Ended session outcome) (e ∷ trace) to fine passes = absurd passes
  fine_after (At p) (e ∷ trace) to fine passes = fine_after (step_at dump h calm p p.unsent e) trace to (fine_step p p.unsent e fine) passes.1

  passes_goes : (from : State) (trace : List LinkEvent) (to : State) (rest : List LinkEvent) (outcome : Outcome) → Passes dump h calm from trace to → Goes dump h calm to rest outcome
      → Goes dump h calm from (trace ++ rest) outcome
  passes_goes from [] to rest outcome passes goes = subst (λ (s : State). Goes dump h calm s rest outcome) (sym passes) goes
  passes_goes (Ended session o) (e ∷ trace) to rest outcome passes goes = absurd passes
  passes_goes (At p) (e ∷ trace) to rest outcome passes goes = (passes.0, passes_goes (step_at dump h calm p p.unsent e) trace to rest outcome passes.1 goes)

  goes_passes : (from : State) (trace rest : List LinkEvent) (outcome : Outcome) → Goes dump h calm from (trace ++ rest) outcome → (to : State) × Passes dump h calm from trace to
  goes_passes from [] rest outcome goes = (from, refl)
  goes_passes (Ended session o) (e ∷ trace) rest outcome goes = let none : e ∷ (trace ++ rest) ≡ [] = goes.0 in absurd (cc)
  goes_passes (At p) (e ∷ trace) rest outcome goes = let next = goes_passes (step_at dump h calm p p.unsent e) trace rest outcome goes.1 in (next.0, (goes.0, next.1))

  abbrev after_herald : List (List ℕ)
  after_herald = map (chunk_batch (chunks dump)) (numbers 0 ((chunks dump + 63) / 64)) ++ (((chunks dump + 2) ∷ []) ∷ ((chunks dump + 3) ∷ []) ∷ [])

  -- a trace of the machine so far is a client run
  passes_run : (trace : List LinkEvent) (to : State) → Passes dump h calm (start calm (chunks dump)) trace to → IsClientRun dump h calm trace
  passes_run trace to passes =
      let fine : IsFineState to = fine_after (start calm (chunks dump)) trace to (record { some = λ e. absurd (cc); polls = λ e. absurd (cc); later = later_some (chunks dump) }) passes in
      let end = has_end to fine in
      record {
        rest = end.trace;
        outcome = end.outcome;
        complete = machine_completes dump h calm (omega arith) (trace ++ end.trace) end.outcome (passes_goes (start calm (chunks dump)) trace to end.trace end.outcome passes end.goes);
      }

  -- a complete trace is one of the machine's, and so is each of its starts
  complete_going : (trace : List LinkEvent) (outcome : Outcome) → IsComplete dump h calm trace outcome → Goes dump h calm (start calm (chunks dump)) trace outcome
  complete_going trace outcome complete =
      subst (λ (q : List LinkEvent). Goes dump h calm (start calm (chunks dump)) q outcome) (sym complete.is)
      (complete_goes dump h retries n outcome after_herald (later_some (chunks dump)) complete.heard complete.by_rules)

  run_passes : (trace : List LinkEvent) → IsClientRun dump h calm trace → (to : State) × Passes dump h calm (start calm (chunks dump)) trace to
  run_passes trace run =
      goes_passes (start calm (chunks dump)) trace run.rest run.outcome (complete_going (trace ++ run.rest) run.outcome run.complete)

pub runs_are_passes : (dump : List ℕ) (h : Header) (retries polls : ℕ) → 1 ≤ polls → (trace : List LinkEvent)
    → (IsClientRun dump h (record { retries = retries; polls = polls }) trace
    → (to : State) × Passes dump h (record { retries = retries; polls = polls }) (start (record { retries = retries; polls = polls }) (chunks dump)) trace to)
    × (((to : State) × Passes dump h (record { retries = retries; polls = polls }) (start (record { retries = retries; polls = polls }) (chunks dump)) trace to)
    → IsClientRun dump h (record { retries = retries; polls = polls }) trace)
runs_are_passes dump h retries zero some trace = absurd (omega arith)
runs_are_passes dump h retries (suc n) some trace = (run_passes dump h retries n trace, λ at. passes_run dump h retries n trace at.0 at.1)

-- a complete trace is what the machine does
pub completes_going : (dump : List ℕ) (h : Header) (patience : Patience) → 1 ≤ patience.polls → (trace : List LinkEvent) (outcome : Outcome)
    → IsComplete dump h patience trace outcome → Goes dump h patience (start patience (chunks dump)) trace outcome
completes_going dump h patience some trace outcome complete = by_polls patience.retries patience.polls some complete
  where
    by_polls : (retries polls : ℕ) → 1 ≤ polls → IsComplete dump h (record { retries = retries; polls = polls }) trace outcome
        → Goes dump h (record { retries = retries; polls = polls }) (start (record { retries = retries; polls = polls }) (chunks dump)) trace outcome
    by_polls retries zero some complete = absurd (omega arith)
    by_polls retries (suc n) some complete = complete_going dump h retries n trace outcome complete
