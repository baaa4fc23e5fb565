-- Each datagram of a trace is one of the dump's, and a trace that is done has heard its last number.
use Rattle.std.proofs.Common.{◌≡◌, inl, inr, ◌⊎◌, ℕ, zero, suc, ◌+◌, ◌-◌, ◌*◌, ◌/◌, ◌<◌, ◌≤◌, min, Bool, cond, not, ◌==◌, List, [], ◌∷◌, ◌++◌, length, map, Option, Some, None}
use Rattle.std.proofs.Common.{refl, sym, ◌∙◌, ap, subst, arith, append_assoc}
use Rattle.std.proofs.lemmas.Bool.{cond_both, eqb-true, cases_Bool}
use Rattle.std.specs.Int.{w32, from_be_bytes}
use Rattle.fd_site.specs.Trace.{LinkEvent, Opening, Sent, Got, Silent}
use Rattle.fd_kdh.specs.declared.header.Header.{Header}
use Rattle.fd_netmsg.specs.Each.{Each, OneOf}
use Rattle.fd_netmsg.specs.Message.{read_ack}
use Rattle.fd_netclient.specs.Datagram.{chunks, datagram, batches, chunk_batch, numbers}
use Rattle.fd_netclient.specs.Heard.{IsNumber, Acks, IsSaid}
use Rattle.fd_netclient.specs.Trace.{Patience, Outcome, Done, TimedOut, counts, acknowledged, without, left, left_by, IsPolled, IsHeard, AreRounds, AreBatches, OnLeft}
use Rattle.fd_netclient.specs.Trace.{session_after, port_to, batch_trace, trace_of, IsComplete}

pub Each-append : {X : Type 0} (P : X → Type 0) (xs ys : List X) → Each P xs → Each P ys → Each P (xs ++ ys)
Each-append P [] ys all more = more
Each-append P (x ∷ xs) ys all more = (all.0, Each-append P xs ys all.1 more)

pub Each-map : {X Y : Type 0} (P : Y → Type 0) (f : X → Y) (xs : List X) → ((x : X) → P (f x)) → Each P (map f xs)
Each-map P f [] all = tt
Each-map P f (x ∷ xs) all = (all x, Each-map P f xs all)

pub Each-map_of : {X Y : Type 0} (Q : X → Type 0) (P : Y → Type 0) (f : X → Y) (xs : List X) → Each Q xs → ((x : X) → Q x → P (f x)) → Each P (map f xs)
Each-map_of Q P f [] all to = tt
Each-map_of Q P f (x ∷ xs) all to = (to x all.0, Each-map_of Q P f xs all.1 to)

Each-to : {X : Type 0} (Q P : X → Type 0) (xs : List X) → Each Q xs → ((x : X) → Q x → P x) → Each P xs
Each-to Q P [] all to = tt
Each-to Q P (x ∷ xs) all to = (to x all.0, Each-to Q P xs all.1 to)

OneOf-left : {X : Type 0} (P : X → Type 0) (xs ys : List X) → OneOf P xs → OneOf P (xs ++ ys)
OneOf-left P [] ys one = absurd one
OneOf-left P (x ∷ xs) ys one = elim one [ inl here ↦ inl here | inr later ↦ inr (OneOf-left P xs ys later) ]

OneOf-right : {X : Type 0} (P : X → Type 0) (xs ys : List X) → OneOf P ys → OneOf P (xs ++ ys)
OneOf-right P [] ys one = one
OneOf-right P (x ∷ xs) ys one = inr (OneOf-right P xs ys one)

pub in_numbers : (from n : ℕ) (P : ℕ → Type 0) → ((s : ℕ) → from ≤ s → s < from + n → P s) → Each P (numbers from n)
in_numbers from zero P all = tt
in_numbers from (suc n) P all = (all from (omega arith) (omega arith), in_numbers (from + 1) n P (λ s low high. all s (omega arith) (omega arith)))

in_batches : (count : ℕ) → Each (Each (IsNumber count)) (batches count)
in_batches count = (
  (record { least = omega arith; most = omega arith }, tt),
  Each-append (Each (IsNumber count)) (map (chunk_batch count) (numbers 0 ((count + 63) / 64))) (((count + 2) ∷ []) ∷ ((count + 3) ∷ []) ∷ [])
      (Each-map (Each (IsNumber count)) (chunk_batch count) (numbers 0 ((count + 63) / 64))
      (λ i. in_numbers (2 + 64 * i) (min 64 (count - 64 * i)) (IsNumber count) (λ s low high. record { least = omega arith; most = omega arith })))
      ((record { least = omega arith; most = omega arith }, tt), ((record { least = omega arith; most = omega arith }, tt), tt)),
)

-- what is left was there
without-keeps : (P : ℕ → Type 0) (found : Option ℕ) (u : List ℕ) → Each P u → Each P (without found u)
without-keeps P None u all = all
without-keeps P (Some s) [] all = tt
without-keeps P (Some s) (n ∷ u) all =
    cond_both (not (n == s)) (n ∷ without (Some s) u) (without (Some s) u) (Each P) (λ stays. (all.0, without-keeps P (Some s) u all.1)) (λ goes. without-keeps P (Some s) u all.1)

left-keeps : (P : ℕ → Type 0) (session : Option ℕ) (u : List ℕ) (heard : List LinkEvent) → Each P u → Each P (left session u heard)
left-keeps P session u [] all = all
left-keeps P session u (e ∷ heard) all = left-keeps P session (without (acknowledged session e) u) heard (without-keeps P (acknowledged session e) u all)

heard-polled : (polls : ℕ) (session : Option ℕ) (u : List ℕ) (heard : List LinkEvent) → IsHeard polls session u heard → Each IsPolled heard
heard-polled polls session [] heard is = subst (Each IsPolled) (sym is) tt
heard-polled zero session (s ∷ u) heard is = subst (Each IsPolled) (sym is) tt
heard-polled (suc polls) session (s ∷ u) [] is = tt
heard-polled (suc polls) session (s ∷ u) (e ∷ heard) is = (is.0, heard-polled polls session (without (acknowledged session e) (s ∷ u)) heard is.1)

acks_is : (session : Option ℕ) (e : LinkEvent) (s : ℕ) → acknowledged session e ≡ Some s → Acks s e
acks_is session (Got port bytes) s =
    cond_both (counts session port) (read_ack bytes) None (λ o. o ≡ Some s → Acks s (Got port bytes))
    (λ counted. cond_both (length bytes == 4) (Some (from_be_bytes w32 bytes)) None (λ o. o ≡ Some s → Acks s (Got port bytes))
    (λ four is. (eqb-true (length bytes) 4 four, (cc)))
    (λ other is. absurd (cc)))
    (λ other is. absurd (cc))
acks_is session (Opening server) s = λ is. absurd (cc)
acks_is session (Sent port bytes) s = λ is. absurd (cc)
acks_is session Silent s = λ is. absurd (cc)

one_event : (session : Option ℕ) (s : ℕ) (e : LinkEvent) (found : Option ℕ) → acknowledged session e ≡ found → (without found (s ∷ []) ≡ s ∷ []) ⊎ Acks s e
one_event session s e None is = inl refl
one_event session s e (Some n) is =
    elim (cases_Bool (s == n)) [
      | inl same ↦ inr (subst (λ m. Acks m e) (sym (eqb-true s n same)) (acks_is session e n is))
      | inr other ↦ inl (ap (λ (b : Bool). cond (not b) (s ∷ []) []) other)
    ]

one_left : (session : Option ℕ) (s : ℕ) (heard : List LinkEvent) → (left session (s ∷ []) heard ≡ s ∷ []) ⊎ OneOf (Acks s) heard
one_left session s [] = inl refl
one_left session s (e ∷ heard) =
    elim (one_event session s e (acknowledged session e) refl) [
      | inr acks ↦ inr (inl acks)
      | inl stays ↦ elim (one_left session s heard) [
        | inl still ↦ inl (ap (λ (u : List ℕ). left session u heard) stays ∙ still)
        | inr later ↦ inr (inr later)
      ]
    ]

module _ (dump : List ℕ) (h : Header) where
  polled_said : (e : LinkEvent) → IsPolled e → IsSaid dump h e
  polled_said (Got port bytes) is = tt
  polled_said Silent is = tt
  polled_said (Opening server) is = absurd is
  polled_said (Sent port bytes) is = absurd is

  abbrev IsOurs : ℕ → Type 0
  IsOurs = IsNumber (chunks dump)

  batch_said : (polls most : ℕ) (session : Option ℕ) (u : List ℕ) (rounds : List (List LinkEvent)) → AreRounds polls most session u rounds → Each IsOurs u
      → Each (IsSaid dump h) (batch_trace dump h session u rounds)
  batch_said polls most session u [] are ours = tt
  batch_said polls most session [] (heard ∷ rounds) are ours = absurd (cc)
  batch_said polls zero session (s ∷ u) (heard ∷ rounds) are ours = absurd (cc)
  batch_said polls (suc most) session (s ∷ u) (heard ∷ rounds) are ours =
      Each-append (IsSaid dump h) (map (λ n. Sent (port_to session) (datagram dump h n)) (s ∷ u)) (heard ++ batch_trace dump h session (left session (s ∷ u) heard) rounds)
      (Each-map_of IsOurs (IsSaid dump h) (λ n. Sent (port_to session) (datagram dump h n)) (s ∷ u) ours (λ n is. (n, is, refl)))
      (Each-append (IsSaid dump h) heard (batch_trace dump h session (left session (s ∷ u) heard) rounds)
      (Each-to IsPolled (IsSaid dump h) heard (heard-polled polls session (s ∷ u) heard are.0) polled_said)
      (batch_said polls most session (left session (s ∷ u) heard) rounds are.1 (left-keeps IsOurs session (s ∷ u) heard ours)))

  nothing_more : (session : Option ℕ) (later : List (List ℕ)) → trace_of dump h session later [] ≡ []
  nothing_more session [] = refl
  nothing_more session (u ∷ later) = refl

  all_said : (patience : Patience) (session : Option ℕ) (us : List (List ℕ)) (told : List (List (List LinkEvent))) (outcome : Outcome)
      → AreBatches patience session us told outcome → Each (Each IsOurs) us → Each (IsSaid dump h) (trace_of dump h session us told)
  all_said patience session [] told outcome are ours = tt
  all_said patience session (u ∷ later) [] outcome are ours = tt
  all_said patience session (u ∷ later) (rounds ∷ more) outcome are ours =
      Each-append (IsSaid dump h) (batch_trace dump h session u rounds) (trace_of dump h (session_after session rounds) later more)
      (batch_said patience.polls (suc patience.retries) session u rounds are.0 ours.0)
      (rest (left_by session u rounds) are.1 (λ goes_on. all_said patience (session_after session rounds) later more outcome goes_on ours.1))
    where
      rest : (left : List ℕ) → OnLeft left (AreBatches patience (session_after session rounds) later more outcome) (λ least. (more ≡ []) × (outcome ≡ TimedOut least))
          → (AreBatches patience (session_after session rounds) later more outcome → Each (IsSaid dump h) (trace_of dump h (session_after session rounds) later more))
          → Each (IsSaid dump h) (trace_of dump h (session_after session rounds) later more)
      rest [] on go = go on
      rest (s ∷ left) on go =
          subst (λ (l : List (List (List LinkEvent))). Each (IsSaid dump h) (trace_of dump h (session_after session rounds) later l)) (sym on.0)
          (subst (Each (IsSaid dump h)) (sym (nothing_more (session_after session rounds) later)) tt)

  -- each Sent of a complete trace
  pub each_said : (patience : Patience) (trace : List LinkEvent) (outcome : Outcome) → IsComplete dump h patience trace outcome → Each (IsSaid dump h) trace
  each_said patience trace outcome is = subst (Each (IsSaid dump h)) (sym is.is) (all_said patience None (batches (chunks dump)) is.heard outcome is.by_rules (in_batches (chunks dump)))

  -- a batch of one number
  one_batch : (session : Option ℕ) (s : ℕ) (rounds : List (List LinkEvent)) → (left_by session (s ∷ []) rounds ≡ s ∷ []) ⊎ OneOf (Acks s) (batch_trace dump h session (s ∷ []) rounds)
  one_batch session s [] = inl refl
  one_batch session s (heard ∷ rounds) =
      elim (one_left session s heard) [
        | inr acks ↦ inr (inr (OneOf-left (Acks s) heard (batch_trace dump h session (left session (s ∷ []) heard) rounds) acks))
        | inl stays ↦ elim (one_batch session s rounds) [
          | inl still ↦ inl (ap (λ (u : List ℕ). left_by session u rounds) stays ∙ still)
          | inr later ↦ inr (inr (OneOf-right (Acks s) heard (batch_trace dump h session (left session (s ∷ []) heard) rounds)
              (subst (λ (u : List ℕ). OneOf (Acks s) (batch_trace dump h session u rounds)) (sym stays) later)))
        ]
      ]

  done_left : (left : List ℕ) (P : Type 0) (more : List (List (List LinkEvent))) → OnLeft left P (λ least. (more ≡ []) × (Done ≡ TimedOut least)) → (left ≡ []) × P
  done_left [] P more on = (refl, on)
  done_left (s ∷ left) P more on = let e : Done ≡ TimedOut s = on.1 in absurd (cc)

  last_heard : (patience : Patience) (session : Option ℕ) (front : List (List ℕ)) (s : ℕ) (told : List (List (List LinkEvent)))
      → AreBatches patience session (front ++ (s ∷ []) ∷ []) told Done → OneOf (Acks s) (trace_of dump h session (front ++ (s ∷ []) ∷ []) told)
  last_heard patience session [] s [] are = absurd are
  last_heard patience session [] s (rounds ∷ more) are =
      let ends = done_left (left_by session (s ∷ []) rounds) _ more are.1 in
      elim (one_batch session s rounds) [
        | inl still ↦ let e : s ∷ [] ≡ [] = sym still ∙ ends.0 in absurd (cc)
        | inr acks ↦ OneOf-left (Acks s) (batch_trace dump h session (s ∷ []) rounds) _ acks
      ]
  last_heard patience session (u ∷ front) s [] are = absurd are
  last_heard patience session (u ∷ front) s (rounds ∷ more) are =
      let ends = done_left (left_by session u rounds) (AreBatches patience (session_after session rounds) (front ++ (s ∷ []) ∷ []) more Done) more are.1 in
      OneOf-right (Acks s) (batch_trace dump h session u rounds) (trace_of dump h (session_after session rounds) (front ++ (s ∷ []) ∷ []) more)
      (last_heard patience (session_after session rounds) front s more ends.1)

  -- the last number was acknowledged
  pub done_heard : (patience : Patience) (trace : List LinkEvent) → IsComplete dump h patience trace Done → OneOf (Acks (chunks dump + 3)) trace
  done_heard patience trace is =
      let count : ℕ = chunks dump in
      let data_ : List (List ℕ) = map (chunk_batch count) (numbers 0 ((count + 63) / 64)) in
      let front : List (List ℕ) = (1 ∷ []) ∷ (data_ ++ ((count + 2) ∷ []) ∷ []) in
      let same : batches count ≡ front ++ ((count + 3) ∷ []) ∷ [] = ap (λ l. (1 ∷ []) ∷ l) (sym (append_assoc data_ (((count + 2) ∷ []) ∷ []) (((count + 3) ∷ []) ∷ []))) in
      subst (OneOf (Acks (count + 3))) (sym (is.is ∙ ap (λ (us : List (List ℕ)). trace_of dump h None us is.heard) same))
      (last_heard patience None front (count + 3) is.heard (subst (λ (us : List (List ℕ)). AreBatches patience None us is.heard Done) same is.by_rules))
