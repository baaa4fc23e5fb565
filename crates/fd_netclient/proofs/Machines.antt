-- The machine takes just the complete traces.
use Rattle.std.proofs.Common.{◌≡◌, inl, inr, ◌⊎◌, ℕ, zero, suc, ◌+◌, ◌-◌, ◌*◌, ◌/◌, ◌<◌, ◌≤◌, min, Bool, true, false, cond, not, ◌==◌, List, [], ◌∷◌, ◌++◌, length, map, Option}
use Rattle.std.proofs.Common.{Some, None, refl, sym, ◌∙◌, ap, subst, arith, append_assoc}
use Rattle.std.proofs.lemmas.Bool.{eqb-true, eqb-false, ne_eqb, and_from, and_left, and_right}
use Rattle.std.specs.Int.{w32, from_be_bytes}
use Rattle.std.specs.List.{flat_map}
use Rattle.fd_site.specs.Trace.{LinkEvent, Opening, Sent, Got, Silent}
use Rattle.fd_kdh.specs.declared.header.Header.{Header}
use Rattle.fd_netclient.specs.Datagram.{chunks, datagram, batches, chunk_batch, numbers}
use Rattle.fd_netclient.specs.Trace.{Patience, Outcome, TimedOut, acknowledged, without, left, left_by, IsPolled, IsHeard, AreRounds, AreBatches, OnLeft, session_after, first_port}
use Rattle.fd_netclient.specs.Trace.{port_to, batch_trace, trace_of, IsComplete}
use Rattle.fd_netclient.specs.Machine.{State, At, next_batch, polling, Goes, start}
use Rattle.fd_netmsg.specs.Each.{Each}
use Rattle.fd_netclient.proofs.Traces.{Each-append, Each-map_of, in_numbers}

-- a batch has a number
abbrev pub IsSome : List ℕ → Type 0
IsSome u = u ≡ [] → ⊥

joined : {X : Type 0} (a b c d : List X) → a ++ (b ++ (c ++ d)) ≡ (a ++ (b ++ c)) ++ d
joined a b c d = ap (λ l. a ++ l) (sym (append_assoc b c d)) ∙ sym (append_assoc a (b ++ c) d)

module _ (dump : List ℕ) (h : Header) (retries n : ℕ) (end : Outcome) where
  abbrev patience : Patience
  patience = record { retries = retries; polls = suc n }

  -- a trace from a place on, as what the rest of its round, the further rounds of its batch and the later batches heard
  pub record Told (session : Option ℕ) (unsent u : List ℕ) (polls rounds : ℕ) (later : List (List ℕ)) (trace : List LinkEvent) : Type 0 where
    pub heard : List LinkEvent
    pub told : List (List LinkEvent)
    pub more : List (List (List LinkEvent))
    pub is : trace ≡ map (λ s. Sent (port_to session) (datagram dump h s)) unsent
        ++ (heard ++ (batch_trace dump h session (left session u heard) told ++ trace_of dump h (session_after session (heard ∷ told)) later more))
    pub round : IsHeard polls session u heard
    pub batch : AreRounds (suc n) rounds session (left session u heard) told
    pub rest : OnLeft (left_by session (left session u heard) told) (AreBatches patience (session_after session (heard ∷ told)) later more end) (λ least. (more ≡ []) × (end ≡ TimedOut least))

  abbrev GoesFrom : State → List LinkEvent → Type 0
  GoesFrom state trace = Goes dump h patience state trace end

  abbrev place : Option ℕ → List ℕ → List ℕ → ℕ → ℕ → List (List ℕ) → State
  place session unsent u polls rounds later = At (record { session = session; unsent = unsent; unacknowledged = u; polls = polls; rounds = rounds; later = later })

  module _ (port : ℕ) where
    abbrev known : Option ℕ
    known = Some port

    -- what is told of the places from which a trace goes on
    abbrev Tells : List LinkEvent → Type 0
    Tells trace = (unsent : List ℕ) (s : ℕ) (u : List ℕ) (polls rounds : ℕ) (later : List (List ℕ)) → Each IsSome later
        → GoesFrom (place known unsent (s ∷ u) (suc polls) rounds later) trace → Told known unsent (s ∷ u) (suc polls) rounds later trace

    -- what is told of a batch's start is told of the batches
    pub batches_told : (trace : List LinkEvent) → Tells trace → (later : List (List ℕ)) → Each IsSome later → GoesFrom (next_batch patience known later) trace
        → (more : List (List (List LinkEvent))) × (trace ≡ trace_of dump h known later more) × AreBatches patience known later more end
    batches_told trace tells [] some goes = ([], goes.0, goes.1)
    batches_told trace tells ([] ∷ later) some goes = absurd (some.0 refl)
    batches_told trace tells ((s ∷ u) ∷ later) some goes =
        let it = tells (s ∷ u) s u n retries later some.1 goes in (
          (it.heard ∷ it.told) ∷ it.more,
          it.is
              ∙ joined (map (λ i. Sent port (datagram dump h i)) (s ∷ u)) it.heard (batch_trace dump h known (left known (s ∷ u) it.heard) it.told) (trace_of dump h known later it.more),
          ((it.round, it.batch), it.rest),
        )

    polling_told : (trace : List LinkEvent) → Tells trace → (u : List ℕ) (polls rounds : ℕ) (later : List (List ℕ)) → Each IsSome later
        → GoesFrom (polling patience known u polls rounds later) trace → Told known [] u polls rounds later trace
    polling_told trace tells [] polls rounds later some goes =
        let it = batches_told trace tells later some goes in
        record { heard = []; told = []; more = it.0; is = it.1; round = refl; batch = refl; rest = it.2 }
    polling_told trace tells (s ∷ u) zero zero later some goes =
        record { heard = []; told = []; more = []; is = goes.0 ∙ sym (nothing later); round = refl; batch = refl; rest = (refl, goes.1) }
      where
        nothing : (later : List (List ℕ)) → trace_of dump h known later [] ≡ []
        nothing [] = refl
        nothing (v ∷ later) = refl
    polling_told trace tells (s ∷ u) zero (suc rounds) later some goes =
        let it = tells (s ∷ u) s u n rounds later some goes in
        record {
          heard = [];
          told = it.heard ∷ it.told;
          more = it.more;
          is = it.is
              ∙ joined (map (λ i. Sent port (datagram dump h i)) (s ∷ u)) it.heard (batch_trace dump h known (left known (s ∷ u) it.heard) it.told) (trace_of dump h known later it.more);
          round = refl;
          batch = (it.round, it.batch);
          rest = it.rest;
        }
    polling_told trace tells (s ∷ u) (suc polls) rounds later some goes = tells [] s u polls rounds later some goes

    pub all_told : (trace : List LinkEvent) → Tells trace
    all_told [] unsent s u polls rounds later some goes = absurd goes
    all_told (e ∷ trace) [] s u polls rounds later some goes =
        let it = polling_told trace (all_told trace) (without (acknowledged known e) (s ∷ u)) polls rounds later some goes.1 in
        record {
          heard = e ∷ it.heard;
          told = it.told;
          more = it.more;
          is = ap (λ l. e ∷ l) it.is;
          round = (goes.0, it.round);
          batch = it.batch;
          rest = it.rest;
        }
    all_told (e ∷ trace) (v ∷ unsent) s u polls rounds later some goes =
        let it = all_told trace unsent s u polls rounds later some goes.1 in
        record {
          heard = it.heard;
          told = it.told;
          more = it.more;
          is = ap (λ f. f ∷ trace) goes.0 ∙ ap (λ l. Sent port (datagram dump h v) ∷ l) it.is;
          round = it.round;
          batch = it.batch;
          rest = it.rest;
        }

  -- an event is the herald's acknowledgement or passes by
  pub record IsHeralds (e : LinkEvent) : Type 0 where
    pub port : ℕ
    pub session : (es : List LinkEvent) → first_port (e ∷ es) ≡ Some port
    pub gone : without (acknowledged None e) (1 ∷ []) ≡ []

  pub record PassesBy (e : LinkEvent) : Type 0 where
    pub behind : (es : List LinkEvent) → first_port (e ∷ es) ≡ first_port es
    pub stays : without (acknowledged None e) (1 ∷ []) ≡ 1 ∷ []

  got_by : (port : ℕ) (bytes : List ℕ) (four : Bool) → (length bytes == 4) ≡ four → (one : Bool) → (from_be_bytes w32 bytes == 1) ≡ one → IsHeralds (Got port bytes) ⊎ PassesBy (Got port bytes)
  got_by port bytes true is_four true is_one =
      let num : from_be_bytes w32 bytes ≡ 1 = eqb-true (from_be_bytes w32 bytes) 1 is_one in
      inl (record {
        port = port;
        session = λ es. ap (λ (b : Bool). cond b (Some port) (first_port es)) (and_from (length bytes == 4) (from_be_bytes w32 bytes == 1) is_four is_one);
        gone = ap (λ (b : Bool). without (cond b (Some (from_be_bytes w32 bytes)) None) (1 ∷ [])) is_four ∙ ap (λ (k : ℕ). without (Some k) (1 ∷ [])) num;
      })
  got_by port bytes true is_four false isnt_one =
      inr (record {
        behind = λ es. ap (λ (b : Bool). cond b (Some port) (first_port es)) (and_right (length bytes == 4) (from_be_bytes w32 bytes == 1) isnt_one);
        stays = ap (λ (b : Bool). without (cond b (Some (from_be_bytes w32 bytes)) None) (1 ∷ [])) is_four
            ∙ ap (λ (b : Bool). cond (not b) (1 ∷ []) []) (ne_eqb 1 (from_be_bytes w32 bytes) (λ e. eqb-false (from_be_bytes w32 bytes) 1 isnt_one (sym e)));
      })
  got_by port bytes false isnt_four one is_one =
      inr (record {
        behind = λ es. ap (λ (b : Bool). cond b (Some port) (first_port es)) (and_left (length bytes == 4) (from_be_bytes w32 bytes == 1) isnt_four);
        stays = ap (λ (b : Bool). without (cond b (Some (from_be_bytes w32 bytes)) None) (1 ∷ [])) isnt_four;
      })

  pub heralds_or_not : (e : LinkEvent) → IsHeralds e ⊎ PassesBy e
  heralds_or_not (Got port bytes) = got_by port bytes (length bytes == 4) refl (from_be_bytes w32 bytes == 1) refl
  heralds_or_not (Opening server) = inr (record { behind = λ es. refl; stays = refl })
  heralds_or_not (Sent port bytes) = inr (record { behind = λ es. refl; stays = refl })
  heralds_or_not Silent = inr (record { behind = λ es. refl; stays = refl })

  -- in the herald's batch
  abbrev HeraldTells : List LinkEvent → Type 0
  HeraldTells trace = (unsent : List ℕ) (polls rounds : ℕ) (later : List (List ℕ)) → Each IsSome later
      → GoesFrom (place None unsent (1 ∷ []) (suc polls) rounds later) trace → Told None unsent (1 ∷ []) (suc polls) rounds later trace

  herald_polling : (trace : List LinkEvent) → HeraldTells trace → (polls rounds : ℕ) (later : List (List ℕ)) → Each IsSome later
      → GoesFrom (polling patience None (1 ∷ []) polls rounds later) trace → Told None [] (1 ∷ []) polls rounds later trace
  herald_polling trace tells zero zero later some goes =
      record { heard = []; told = []; more = []; is = goes.0 ∙ sym (nothing later); round = refl; batch = refl; rest = (refl, goes.1) }
    where
      nothing : (later : List (List ℕ)) → trace_of dump h None later [] ≡ []
      nothing [] = refl
      nothing (v ∷ later) = refl
  herald_polling trace tells zero (suc rounds) later some goes =
      let it = tells (1 ∷ []) n rounds later some goes in
      let session : Option ℕ = session_after None (it.heard ∷ it.told) in
      record {
        heard = [];
        told = it.heard ∷ it.told;
        more = it.more;
        is = it.is
            ∙ joined (Sent 20023 (datagram dump h 1) ∷ []) it.heard (batch_trace dump h None (left None (1 ∷ []) it.heard) it.told) (trace_of dump h session later it.more);
        round = refl;
        batch = (it.round, it.batch);
        rest = it.rest;
      }
  herald_polling trace tells (suc polls) rounds later some goes = tells [] polls rounds later some goes

  heard_herald : (e : LinkEvent) (trace : List LinkEvent) (polls rounds : ℕ) (later : List (List ℕ)) → IsPolled e → (is : IsHeralds e) → Each IsSome later
      → GoesFrom (polling patience (first_port (e ∷ [])) (without (acknowledged None e) (1 ∷ [])) polls rounds later) trace → Told None [] (1 ∷ []) (suc polls) rounds later (e ∷ trace)
  heard_herald e trace polls rounds later polled is some goes =
      let goes_on : GoesFrom (next_batch patience (Some is.port) later) trace =
      subst (λ (w : List ℕ). GoesFrom (polling patience (Some is.port) w polls rounds later) trace) is.gone
      (subst (λ (s : Option ℕ). GoesFrom (polling patience s (without (acknowledged None e) (1 ∷ [])) polls rounds later) trace) (is.session []) goes) in
      let it = batches_told is.port trace (all_told is.port trace) later some goes_on in
      record {
        heard = e ∷ [];
        told = [];
        more = it.0;
        is = ap (λ l. e ∷ l) (it.1 ∙ ap (λ (s : Option ℕ). trace_of dump h s later it.0) (sym (is.session [])));
        round = (polled, subst (λ (w : List ℕ). IsHeard polls None w []) (sym is.gone) refl);
        batch = subst (λ (w : List ℕ). AreRounds (suc n) rounds None w []) (sym is.gone) refl;
        rest = subst (λ (w : List ℕ). OnLeft w (AreBatches patience (first_port (e ∷ [])) later it.0 end) (λ least. (it.0 ≡ []) × (end ≡ TimedOut least))) (sym is.gone)
            (subst (λ (s : Option ℕ). AreBatches patience s later it.0 end) (sym (is.session [])) it.2);
      }

  heard_other : (e : LinkEvent) (trace : List LinkEvent) (polls rounds : ℕ) (later : List (List ℕ)) → IsPolled e → PassesBy e
      → Told None [] (1 ∷ []) polls rounds later trace → Told None [] (1 ∷ []) (suc polls) rounds later (e ∷ trace)
  heard_other e trace polls rounds later polled passes it =
      let before : List ℕ = left None (without (acknowledged None e) (1 ∷ [])) it.heard in
      let same_left : before ≡ left None (1 ∷ []) it.heard = ap (λ (w : List ℕ). left None w it.heard) passes.stays in
      let was : Option ℕ = session_after None (it.heard ∷ it.told) in
      let session : Option ℕ = session_after None ((e ∷ it.heard) ∷ it.told) in
      let same_session : session ≡ was = passes.behind (it.heard ++ flat_map (λ l. l) it.told) in
      record {
        heard = e ∷ it.heard;
        told = it.told;
        more = it.more;
        is = ap (λ l. e ∷ l) (it.is
            ∙ ap (λ (w : List ℕ). it.heard ++ (batch_trace dump h None w it.told ++ trace_of dump h was later it.more)) (sym same_left)
            ∙ ap (λ (s : Option ℕ). it.heard ++ (batch_trace dump h None before it.told ++ trace_of dump h s later it.more)) (sym same_session));
        round = (polled, subst (λ (w : List ℕ). IsHeard polls None w it.heard) (sym passes.stays) it.round);
        batch = subst (λ (w : List ℕ). AreRounds (suc n) rounds None w it.told) (sym same_left) it.batch;
        rest =
            subst (λ (w : List ℕ). OnLeft (left_by None w it.told) (AreBatches patience session later it.more end) (λ least. (it.more ≡ []) × (end ≡ TimedOut least))) (sym same_left)
            (subst (λ (s : Option ℕ). OnLeft (left_by None (left None (1 ∷ []) it.heard) it.told) (AreBatches patience s later it.more end) (λ least. (it.more ≡ []) × (end ≡ TimedOut least)))
            (sym same_session) it.rest);
      }

  herald_told : (trace : List LinkEvent) → HeraldTells trace
  herald_told [] unsent polls rounds later some goes = absurd goes
  herald_told (e ∷ trace) [] polls rounds later some goes = by_event (heralds_or_not e) (herald_told trace)
    where
      by_event : IsHeralds e ⊎ PassesBy e → HeraldTells trace → Told None [] (1 ∷ []) (suc polls) rounds later (e ∷ trace)
      by_event (inl is) tells = heard_herald e trace polls rounds later goes.0 is some goes.1
      by_event (inr passes) tells =
          heard_other e trace polls rounds later goes.0 passes
          (herald_polling trace tells polls rounds later some
          (subst (λ (w : List ℕ). GoesFrom (polling patience None w polls rounds later) trace) passes.stays
          (subst (λ (s : Option ℕ). GoesFrom (polling patience s (without (acknowledged None e) (1 ∷ [])) polls rounds later) trace) (passes.behind []) goes.1)))
  herald_told (e ∷ trace) (v ∷ unsent) polls rounds later some goes =
      let it = herald_told trace unsent polls rounds later some goes.1 in
      record {
        heard = it.heard;
        told = it.told;
        more = it.more;
        is = ap (λ f. f ∷ trace) goes.0 ∙ ap (λ l. Sent 20023 (datagram dump h v) ∷ l) it.is;
        round = it.round;
        batch = it.batch;
        rest = it.rest;
      }

  pub complete_of : (later : List (List ℕ)) → batches (chunks dump) ≡ (1 ∷ []) ∷ later → Each IsSome later → (trace : List LinkEvent)
      → GoesFrom (place None (1 ∷ []) (1 ∷ []) (suc n) retries later) trace → IsComplete dump h patience trace end
  complete_of later are some trace goes =
      let it = herald_told trace (1 ∷ []) n retries later some goes in
      record {
        heard = (it.heard ∷ it.told) ∷ it.more;
        is = it.is
            ∙ joined (Sent 20023 (datagram dump h 1) ∷ []) it.heard (batch_trace dump h None (left None (1 ∷ []) it.heard) it.told)
            (trace_of dump h (session_after None (it.heard ∷ it.told)) later it.more)
            ∙ ap (λ (us : List (List ℕ)). trace_of dump h None us ((it.heard ∷ it.told) ∷ it.more)) (sym are);
        by_rules = subst (λ (us : List (List ℕ)). AreBatches patience None us ((it.heard ∷ it.told) ∷ it.more) end) (sym are) ((it.round, it.batch), it.rest);
      }

some_numbers : (from m : ℕ) → 0 < m → IsSome (numbers from m)
some_numbers from zero more e = omega arith
some_numbers from (suc m) more e = absurd (cc)

pub later_some : (count : ℕ) → Each IsSome (map (chunk_batch count) (numbers 0 ((count + 63) / 64)) ++ (((count + 2) ∷ []) ∷ ((count + 3) ∷ []) ∷ []))
later_some count =
    Each-append IsSome (map (chunk_batch count) (numbers 0 ((count + 63) / 64))) (((count + 2) ∷ []) ∷ ((count + 3) ∷ []) ∷ [])
    (Each-map_of (λ i. 64 * i < count) IsSome (chunk_batch count) (numbers 0 ((count + 63) / 64))
    (in_numbers 0 ((count + 63) / 64) (λ i. 64 * i < count) (λ i low high. omega arith))
    (λ i below. some_numbers (2 + 64 * i) (min 64 (count - 64 * i)) (omega arith)))
    ((λ e. absurd (cc)), ((λ e. absurd (cc)), tt))

by_polls : (dump : List ℕ) (h : Header) (retries polls : ℕ) → 1 ≤ polls → (trace : List LinkEvent) (end : Outcome)
    → Goes dump h (record { retries = retries; polls = polls }) (start (record { retries = retries; polls = polls }) (chunks dump)) trace end
    → IsComplete dump h (record { retries = retries; polls = polls }) trace end
by_polls dump h retries zero some trace end goes = absurd (omega arith)
by_polls dump h retries (suc n) some trace end goes =
    let count : ℕ = chunks dump in
    let later : List (List ℕ) = map (chunk_batch count) (numbers 0 ((count + 63) / 64)) ++ (((count + 2) ∷ []) ∷ ((count + 3) ∷ []) ∷ []) in
    complete_of dump h retries n end later refl (later_some count) trace goes

-- what the machine does is a complete trace
pub machine_completes : (dump : List ℕ) (h : Header) (patience : Patience) → 1 ≤ patience.polls → (trace : List LinkEvent) (end : Outcome)
    → Goes dump h patience (start patience (chunks dump)) trace end → IsComplete dump h patience trace end
machine_completes dump h patience some trace end goes = by_polls dump h patience.retries patience.polls some trace end goes
