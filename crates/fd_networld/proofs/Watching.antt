-- What a call that is watched tells of its site's count.
use Rattle.std.proofs.Common.{◌≡◌, inl, inr, ℕ, ◌+◌, ◌≤◌, Bool, true, false, if◌then◌else◌, Contains, List, [], ◌↔◌, IsErr, Result, Ok, Err, OnErr, OnOk, refl, sym, ◌∙◌, ap, subst, arith}
use Rattle.fd_fake.specs.Calls.{CallCount, IsDue, IsFailedCall, after_call, after_fault, risen}
use Rattle.fd_fake.specs.MemSite.{SiteInMemory}
use Rattle.fd_site.specs.Fault.{Rose}
use Rattle.fd_networld.specs.Watched.{IsWatched, one_if}

pub next_after : {T E : Type 0} (r : Result T E) (old new : CallCount) → OnOk r (new ≡ after_call old) → OnErr r (IsFailedCall old new) → new.next ≡ false
next_after (Ok x) old new ok err = ap (λ (c : CallCount). c.next) ok
next_after (Err e) old new ok err = elim err [ inl due ↦ ap (λ (c : CallCount). c.next) due.1 | inr want ↦ ap (λ (c : CallCount). c.next) want ]

pub next_after_read : {T E : Type 0} (r : Result T E) (old new : CallCount) → OnOk r (new ≡ after_call old) → OnErr r (new ≡ after_fault old) → new.next ≡ false
next_after_read (Ok x) old new ok err = ap (λ (c : CallCount). c.next) ok
next_after_read (Err e) old new ok err = ap (λ (c : CallCount). c.next) err

-- a call that was to fail was waited for
was_due : (most : ℕ) (old : CallCount) (waiting failed : Bool) → IsWatched most old waiting failed → IsDue old → waiting ≡ true
was_due most old waiting failed watched due =
    elim due [
      | inl next ↦ watched.calm.next next
      | inr listed ↦ absurd (none (risen old.made) (subst (λ (l : List ℕ). Contains l (risen old.made)) watched.calm.fails listed))
    ]
  where
    none : (n : ℕ) → Contains [] n → ⊥
    none n there = omega (arith, there.1)

-- what was waited for came, or didn't
pub came : (most : ℕ) (calls : CallCount) (waiting failed : Bool) → IsWatched most calls waiting failed → waiting ≡ true → calls.next ≡ false → IsWatched most calls false true
came most calls waiting failed watched is next =
    let one : one_if waiting ≡ 1 = ap one_if is in
    record { calm = record { fails = watched.calm.fails; next = λ e. sym next ∙ e }; few = omega (arith, watched.few); once = omega arith }

pub passed_by : (most : ℕ) (calls : CallCount) (waiting failed : Bool) → IsWatched most calls waiting failed → calls.next ≡ false → IsWatched most calls false failed
passed_by most calls waiting failed watched next =
    record { calm = record { fails = watched.calm.fails; next = λ e. sym next ∙ e }; few = omega (arith, watched.few); once = omega (arith, watched.once) }

least : (waiting failed now : Bool) → now ≡ (if waiting then true else failed) → one_if failed ≤ one_if now
least true true now is = let e : one_if now ≡ 1 = ap one_if is in omega arith
least true false now is = omega arith
least false failed now is = let e : one_if now ≡ one_if failed = ap one_if is in omega arith

pub cause_of : {T E : Type 0} (most : ℕ) (old new : CallCount) (waiting failed now : Bool) (r : Result T E) → IsWatched most old waiting failed
    → OnErr r (IsFailedCall old new) → OnErr r (now ≡ (if waiting then true else failed)) → OnErr r (Rose (old.starved + one_if failed) (new.starved + one_if now))
cause_of most old new waiting failed now (Ok x) watched failed_call noted = tt
cause_of most old new waiting failed now (Err e) watched failed_call noted =
    elim failed_call [
      | inl due ↦
          let wait : waiting ≡ true = was_due most old waiting failed watched due.0 in
          let one : one_if waiting ≡ 1 = ap one_if wait in
          let is : now ≡ true = noted ∙ ap (λ (b : Bool). if b then true else failed) wait in
          let now_one : one_if now ≡ 1 = ap one_if is in
          let starved : new.starved ≡ old.starved = ap (λ (c : CallCount). c.starved) due.1 in
          omega (arith, watched.once)
      | inr want ↦
          let starved : new.starved ≡ risen old.starved = ap (λ (c : CallCount). c.starved) want in
          let more : one_if failed ≤ one_if now = least waiting failed now noted in
          omega arith
    ]

pub cause_by : {T E : Type 0} (most : ℕ) (old : CallCount) (m after : SiteInMemory) (waiting failed now : Bool) (r answer : Result T E) → answer ≡ r → after ≡ m → IsWatched most old waiting failed
    → OnErr r (IsFailedCall old m.calls) → OnErr r (now ≡ (if waiting then true else failed)) → OnErr answer (Rose (old.starved + one_if failed) (after.calls.starved + one_if now))
cause_by {T = T} {E = E} most old m after waiting failed now r answer same is watched failed_call noted =
    subst (λ (a : Result T E). OnErr a (Rose (old.starved + one_if failed) (after.calls.starved + one_if now))) (sym same)
    (subst (λ (n : SiteInMemory). OnErr r (Rose (old.starved + one_if failed) (n.calls.starved + one_if now))) (sym is)
    (cause_of most old m.calls waiting failed now r watched failed_call noted))

-- a read that failed was to fail
pub failed_read : {T E : Type 0} (r : Result T E) (old new : CallCount) → IsErr r ↔ IsDue old → OnErr r (new ≡ after_fault old) → OnErr r (IsFailedCall old new)
failed_read (Ok x) old new due err = tt
failed_read (Err e) old new due err = inl (due.0 refl, err)
