-- Records and sessions in their places.
use Rattle.std.proofs.Common.{◌≡◌, inl, inr, ◌⊎◌, IfSome, slice_get, ℕ, zero, suc, ◌+◌, ◌-◌, ◌<◌, ◌≤◌, List, [], ◌∷◌, ◌++◌, length}
use Rattle.std.proofs.Common.{get_or, set, Option, Some, None, Result, Ok, Err, IfOk, IsSome, refl, sym, ◌∙◌, ap, subst, arith}
use Rattle.fd_site.specs.declared.ports.Peer.{Peer}
use Rattle.fd_site.specs.Contents.{Contents, Adds}
use Rattle.fd_site.proofs.Told.{with_entries-nil}
use Rattle.fd_netmsg.specs.Each.{Each}
use Rattle.fd_netmsg.specs.Message.{Message}
use Rattle.fd_netserver.specs.declared.record.Record.{Record}
use Rattle.fd_netserver.specs.declared.reply.Reply.{Reply}
use Rattle.fd_netserver.specs.declared.reply.Reply.TheVariants.{Ignored}
use Rattle.fd_netserver.specs.declared.reply.Skip.TheVariants as skip
use Rattle.fd_netserver.specs.Session.{Input, Session, Phase, Open, Done, Broken, nth, session_at, change_nth, change_at}
use Rattle.fd_netserver.specs.Table.{session_row}
use Rattle.fd_netserver.specs.Stands.{IsBrokenAt, dones, done_of, finishes, StandsIn, StandsFor, IsRowTurn, TurnOf, session_after}

-- the session of a record
pub record HasSession (r : Record) (ss : List Session) (k : ℕ) : Type 0 where
  pub s : Session
  pub there : nth ss k ≡ Some s
  pub stands : StandsIn r s

pub session_of : (rs : List Record) (ss : List Session) (k : ℕ) (d : Record) → StandsFor rs ss → k < length rs → HasSession (get_or rs k d) ss k
session_of [] ss k d stands within = absurd (omega arith)
session_of (r ∷ rs) [] k d stands within = absurd stands
session_of (r ∷ rs) (s ∷ ss) zero d stands within = record { s = s; there = refl; stands = stands.0 }
session_of (r ∷ rs) (s ∷ ss) (suc k) d stands within =
    let later = session_of rs ss k d stands.1 (omega arith) in
    record { s = later.s; there = later.there; stands = later.stands }

pub no_session : (rs : List Record) (ss : List Session) (k : ℕ) → StandsFor rs ss → length rs ≤ k → nth ss k ≡ None
no_session [] [] k stands past = refl
no_session [] (s ∷ ss) k stands past = absurd stands
no_session (r ∷ rs) [] k stands past = absurd stands
no_session (r ∷ rs) (s ∷ ss) zero stands past = absurd (omega arith)
no_session (r ∷ rs) (s ∷ ss) (suc k) stands past = no_session rs ss k stands.1 (omega arith)

pub same_sessions : (f : Session → Session) (ss : List Session) (k : ℕ) → nth ss k ≡ None → change_nth f ss k ≡ ss
same_sessions f [] k none = refl
same_sessions f (s ∷ ss) zero none = absurd (cc)
same_sessions f (s ∷ ss) (suc k) none = ap (λ l. s ∷ l) (same_sessions f ss k none)

pub stands_set : (f : Session → Session) (rs : List Record) (ss : List Session) (k : ℕ) (r : Record) → StandsFor rs ss →
    ((s : Session) → nth ss k ≡ Some s → StandsIn r (f s)) → StandsFor (set rs k r) (change_nth f ss k)
stands_set f [] [] k r stands new = tt
stands_set f [] (s ∷ ss) k r stands new = absurd stands
stands_set f (q ∷ rs) [] k r stands new = absurd stands
stands_set f (q ∷ rs) (s ∷ ss) zero r stands new = (new s refl, stands.1)
stands_set f (q ∷ rs) (s ∷ ss) (suc k) r stands new = (stands.0, stands_set f rs ss k r stands.1 new)

pub stands_more : (rs : List Record) (ss : List Session) (r : Record) (s : Session) → StandsFor rs ss → StandsIn r s → StandsFor (rs ++ r ∷ []) (ss ++ s ∷ [])
stands_more [] [] r s stands new = (new, tt)
stands_more [] (t ∷ ss) r s stands new = absurd stands
stands_more (q ∷ rs) [] r s stands new = absurd stands
stands_more (q ∷ rs) (t ∷ ss) r s stands new = (stands.0, stands_more rs ss r s stands.1 new)

pub stands_length : (rs : List Record) (ss : List Session) → StandsFor rs ss → length rs ≡ length ss
stands_length [] [] stands = refl
stands_length [] (s ∷ ss) stands = absurd stands
stands_length (r ∷ rs) [] stands = absurd stands
stands_length (r ∷ rs) (s ∷ ss) stands = ap suc (stands_length rs ss stands.1)

pub Each-get_or : (P : Record → Type 0) (rs : List Record) (k : ℕ) (d : Record) → Each P rs → k < length rs → P (get_or rs k d)
Each-get_or P [] k d all within = absurd (omega arith)
Each-get_or P (r ∷ rs) zero d all within = all.0
Each-get_or P (r ∷ rs) (suc k) d all within = Each-get_or P rs k d all.1 (omega arith)

-- a turn at a session's port
pub port_turn : {E : Type 0} (result : Result Reply E) (old new : Option Contents) (rs : List Record) (r : Record) (slot n : ℕ) (peer : Peer) (m : Message)
    → n ≡ slot → n - 1 < length rs → r ≡ get_or rs (n - 1) r
    → IfOk result (λ reply. (s : Session) (input : Input) → StandsIn r s → Adds (λ es. IsRowTurn (session_row slot peer m (Some s)) (TurnOf input reply es)) old new)
    → IfOk result (λ reply. (ss : List Session) (input : Input) → StandsFor rs ss → Adds (λ es. IsRowTurn (session_row slot peer m (session_at ss slot)) (TurnOf input reply es)) old new)
port_turn (Err e) old new rs r slot n peer m same within is turn = tt
port_turn (Ok reply) old new rs r slot n peer m same within is turn = λ ss input stands.
    let has = session_of rs ss (n - 1) r stands within in
    let there : session_at ss slot ≡ Some has.s = ap (λ i. nth ss (i - 1)) (sym same) ∙ has.there in
    subst (λ (found : Option Session). Adds (λ es. IsRowTurn (session_row slot peer m found) (TurnOf input reply es)) old new) (sym there)
    (turn has.s input (subst (λ (q : Record). StandsIn q has.s) (sym is) has.stands))

pub port_stands : {E : Type 0} (result : Result Reply E) (rs qs : List Record) → rs ≡ qs → (r now : Record) (slot n : ℕ) (m : Message)
    → n ≡ slot → n - 1 < length rs → r ≡ get_or rs (n - 1) r
    → IfOk result (λ reply. (s : Session) → StandsIn r s → StandsIn now (session_after m reply s))
    → IfOk result (λ reply. (ss : List Session) → StandsFor qs ss → StandsFor (set rs (n - 1) now) (change_at (session_after m reply) ss slot))
port_stands (Err e) rs qs view r now slot n m same within is new = tt
port_stands (Ok reply) rs qs view r now slot n m same within is new = λ ss stands_qs.
    let stands : StandsFor rs ss = subst (λ (l : List Record). StandsFor l ss) (sym view) stands_qs in
    let has = session_of rs ss (n - 1) r stands within in
    subst (λ i. StandsFor (set rs (n - 1) now) (change_nth (session_after m reply) ss (i - 1))) same
    (stands_set (session_after m reply) rs ss (n - 1) now stands
    (λ s there. let one : has.s ≡ s = by_some has.s s (sym has.there ∙ there) in
    new s (subst (StandsIn r) one (subst (λ (q : Record). StandsIn q has.s) (sym is) has.stands))))
  where
    by_some : (a b : Session) → Some a ≡ Some b → a ≡ b
    by_some a b e = cc

-- none at it
pub vain_turn : (told : Option Contents) (rs : List Record) (slot n : ℕ) (peer : Peer) (m : Message) → n ≡ slot → length rs ≤ n - 1 → (ss : List Session) (input : Input) → StandsFor rs ss
    → Adds (λ es. IsRowTurn (session_row slot peer m (session_at ss slot)) (TurnOf input (Ignored skip.NoSession) es)) told told
vain_turn told rs slot n peer m same past ss input stands =
    let none : session_at ss slot ≡ None = ap (λ i. nth ss (i - 1)) (sym same) ∙ no_session rs ss (n - 1) stands past in
    subst (λ (found : Option Session). Adds (λ es. IsRowTurn (session_row slot peer m found) (TurnOf input (Ignored skip.NoSession) es)) told told) (sym none)
    ([], inl (record { reply = refl; entries = refl }), with_entries-nil told)

pub vain_stands : (rs : List Record) (slot n : ℕ) (m : Message) → n ≡ slot → length rs ≤ n - 1 → (ss : List Session) → StandsFor rs ss
    → StandsFor rs (change_at (session_after m (Ignored skip.NoSession)) ss slot)
vain_stands rs slot n m same past ss stands =
    subst (StandsFor rs) (sym (same_sessions (session_after m (Ignored skip.NoSession)) ss (slot - 1) (ap (λ i. nth ss (i - 1)) (sym same) ∙ no_session rs ss (n - 1) stands past))) stands

-- how many are done
pub dones-set : (rs : List Record) (k : ℕ) (d r : Record) → k < length rs → dones (set rs k r) + done_of (get_or rs k d).phase ≡ dones rs + done_of r.phase
dones-set [] k d r within = absurd (omega arith)
dones-set (q ∷ rs) zero d r within = omega arith
dones-set (q ∷ rs) (suc k) d r within = omega (arith, dones-set rs k d r (omega arith))

one_done : (phase : Phase) → done_of phase ≤ 1
one_done Open = omega arith
one_done Done = omega arith
one_done Broken = omega arith

pub dones-most : (rs : List Record) → dones rs ≤ length rs
dones-most [] = omega arith
dones-most (r ∷ rs) = omega (arith, one_done r.phase, dones-most rs)

pub dones-append : (rs : List Record) (r : Record) → dones (rs ++ r ∷ []) ≡ dones rs + done_of r.phase
dones-append [] r = omega arith
dones-append (q ∷ rs) r = omega (arith, dones-append rs r)

pub port_done : {E : Type 0} (result : Result Reply E) (rs qs : List Record) → rs ≡ qs → (r now : Record) (k : ℕ) → k < length rs → r ≡ get_or rs k r
    → IfOk result (λ reply. done_of now.phase ≡ done_of r.phase + finishes reply) → IfOk result (λ reply. dones (set rs k now) ≡ dones qs + finishes reply)
port_done (Err e) rs qs view r now k within is done = tt
port_done (Ok reply) rs qs view r now k within is done =
    omega (arith, dones-set rs k r now within, ap (λ (q : Record). done_of q.phase) is, ap dones view, done)

pub port_cause : {E : Type 0} (result : Result Reply E) (P : Type 0) (rs qs : List Record) → rs ≡ qs → (r : Record) (slot n : ℕ) → n ≡ slot → 1 ≤ slot → n - 1 < length rs → r ≡ get_or rs (n - 1) r
    → IfOk result (λ reply. reply ≡ Ignored skip.Broken → P ⊎ (r.phase ≡ Broken)) → IfOk result (λ reply. reply ≡ Ignored skip.Broken → P ⊎ IsBrokenAt qs slot)
port_cause (Err e) P rs qs view r slot n same some within is cause = tt
port_cause (Ok reply) P rs qs view r slot n same some within is cause = λ broken.
    elim (cause broken) [
      | inl rose ↦ inl rose
      | inr was ↦
          let parts = at rs (n - 1) r within is was in
          let broken_n : IsBrokenAt rs n = record { session = subst (λ i. 1 ≤ i) (sym same) some; there = parts.1; broken = parts.0 } in
          inr (subst (λ (l : List Record). IsBrokenAt l slot) view (subst (λ i. IsBrokenAt rs i) same broken_n))
    ]
  where
    at : (rs : List Record) (k : ℕ) (r : Record) → k < length rs → r ≡ get_or rs k r → r.phase ≡ Broken → IfSome (slice_get rs k) (λ (q : Record). q.phase ≡ Broken) × IsSome (slice_get rs k)
    at [] k r within is was = absurd (omega arith)
    at (q ∷ rs) zero r within is was = (ap (λ (p : Record). p.phase) (sym is) ∙ was, refl)
    at (q ∷ rs) (suc k) r within is was = at rs k r (omega arith) is was
