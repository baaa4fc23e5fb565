-- Intervals in a vector, of which those that one meets are taken out.
use Rattle.std.proofs.Common.{◌≡◌, ℕ, suc, ◌+◌, ◌<◌, ◌≤◌, min, max, List, ◌∷◌, ◌++◌, length, take, drop, get_or, set, false, ◌||◌, Result, Ok, Err, OnOk, OnErr, sym, ◌∙◌, ap}
use Rattle.std.proofs.Common.{subst, arith}
use Rattle.std.specs.List.{insert}
use Rattle.std.proofs.lemmas.List.{drop_all, drop_more, length-take, set_split, take-append-drop, take-take}
use Rattle.fd_cover.specs.declared.interval.Interval.{Interval}
use Rattle.fd_cover.specs.Intervals.{AreBefore, AreRising, IsBeside, has, is_between, with_interval}
use Rattle.fd_cover.proofs.Adding.{has-apart, has-with_interval, rising-drop, rising-less, rising-with_interval, with_interval-behind, with_interval-front, with_interval-meets}

suc-at : (at : ℕ) → suc at ≡ at + 1
suc-at at = omega arith

-- an interval is joined with those from a place on, as far as a second one
pub record IsJoined (rs : List Interval) (at end : ℕ) (joint : Interval) (whole : List Interval) : Type 0 where
  pub past : at ≤ end
  pub inside : end ≤ length rs
  pub rising : AreRising joint.from (drop end rs)
  pub same : with_interval (drop end rs) joint.from joint.to ≡ whole

-- the next one, which it meets, is joined with it too
pub joined_more : (rs : List Interval) (at end : ℕ) (joint d : Interval) (whole : List Interval) → IsJoined rs at end joint whole → end < length rs → (get_or rs end d).from ≤ joint.to
    → IsJoined rs at (end + 1) (record { from = min joint.from (get_or rs end d).from; to = max joint.to (get_or rs end d).to }) whole
joined_more rs at end joint d whole joined inside meets =
    let next : Interval = get_or rs end d in
    let more = drop_more rs end d inside in
    let rises : AreRising joint.from (next ∷ drop (end + 1) rs) = subst (AreRising joint.from) more joined.rising in
    record {
      past = let le = joined.past in omega arith;
      inside = omega arith;
      rising = rising-less (drop (end + 1) rs) (next.to + 1) (min joint.from next.from) (omega (arith, rises.1)) rises.2;
      same =
          sym (with_interval-meets next (drop (end + 1) rs) joint.from joint.to meets (omega (arith, rises.0, rises.1)))
          ∙ ap (λ l. with_interval l joint.from joint.to) (sym more)
          ∙ joined.same;
    }

-- what lies behind one of rising intervals
pub rising_behind : (rs : List Interval) (at : ℕ) (d : Interval) (f : ℕ) → AreRising 0 rs → at < length rs → AreRising (min f (get_or rs at d).from) (drop (at + 1) rs)
rising_behind rs at d f rising inside =
    let rises : AreRising 0 (get_or rs at d ∷ drop (at + 1) rs) = subst (AreRising 0) (drop_more rs at d inside) (rising-drop rs 0 at rising) in
    rising-less (drop (at + 1) rs) ((get_or rs at d).to + 1) (min f (get_or rs at d).from) (omega (arith, rises.1)) rises.2

-- the intervals from a place on begin behind a number, since the first does, or there is none
pub rising_from : (rs : List Interval) (at : ℕ) (d : Interval) (t : ℕ) → AreRising 0 rs → at < length rs → t < (get_or rs at d).from → AreRising (t + 1) (drop at rs)
rising_from rs at d t rising inside apart =
    let rises : AreRising 0 (get_or rs at d ∷ drop (at + 1) rs) = subst (AreRising 0) (drop_more rs at d inside) (rising-drop rs 0 at rising) in
    subst (AreRising (t + 1)) (sym (drop_more rs at d inside)) (omega arith, rises.1, rises.2)

pub rising_none : (rs : List Interval) (at t : ℕ) → length rs ≤ at → AreRising (t + 1) (drop at rs)
rising_none rs at t past = subst (AreRising (t + 1)) (sym (drop_all at rs past)) tt

module _ (rs : List Interval) (at f t : ℕ) (rising : AreRising 0 rs) (before : AreBefore f (take at rs)) (some : f < t) where
  behind : with_interval rs f t ≡ take at rs ++ with_interval (drop at rs) f t
  behind =
      let split = take-append-drop at rs in
      ap (λ l. with_interval l f t) (sym split) ∙ with_interval-behind (take at rs) (drop at rs) 0 f t (subst (AreRising 0) (sym split) rising) before some

  -- an interval that meets none is put in
  pub put_in : AreRising (t + 1) (drop at rs) → insert rs at (record { from = f; to = t }) ≡ with_interval rs f t
  put_in apart = ap (λ l. take at rs ++ l) (sym (with_interval-front (drop at rs) f t apart)) ∙ sym behind

  pub none_beside : AreRising (t + 1) (drop at rs) → (i : ℕ) → IsBeside f t i → has rs i ≡ false
  none_beside apart i is = ap (λ l. has l i) (sym (take-append-drop at rs)) ∙ has-apart (take at rs) (drop at rs) f t i before apart is

  -- one that meets others becomes one with them
  pub put_over : (rest : List Interval) (d joint : Interval) → at < length rs → f ≤ (get_or rs at d).to → (get_or rs at d).from ≤ t → take (at + 1) rest ≡ take (at + 1) rs
      → joint ∷ drop (at + 1) rest ≡ with_interval (drop (at + 1) rs) (min f (get_or rs at d).from) (max t (get_or rs at d).to) → set rest at joint ≡ with_interval rs f t
  put_over rest d joint inside high low front joins =
      let r : Interval = get_or rs at d in
      let same : take at rest ≡ take at rs = sym (take-take at (at + 1) rest (omega arith)) ∙ ap (take at) front ∙ take-take at (at + 1) rs (omega arith) in
      set_split rest at joint (omega (arith, ap length front, length-take (at + 1) rest, length-take (at + 1) rs))
      ∙ ap (λ n. take at rest ++ joint ∷ drop n rest) (suc-at at)
      ∙ (λ i. same i ++ joins i)
      ∙ ap (λ l. take at rs ++ l) (sym (with_interval-meets r (drop (at + 1) rs) f t low high) ∙ ap (λ l. with_interval l f t) (sym (drop_more rs at d inside)))
      ∙ sym behind

-- whether the interval was added or not
pub added_rises : {T E : Type 0} (result : Result T E) (old new : List Interval) (f t : ℕ) → OnOk result (new ≡ with_interval old f t) → OnErr result (new ≡ old)
    → AreRising 0 old → f < t → AreRising 0 new
added_rises (Ok u) old new f t ok err rising some = subst (AreRising 0) (sym ok) (rising-with_interval old 0 f t rising (omega arith) some)
added_rises (Err e) old new f t ok err rising some = subst (AreRising 0) (sym err) rising

pub added_has : {T E : Type 0} (result : Result T E) (old new : List Interval) (f t : ℕ) → OnOk result (new ≡ with_interval old f t) → AreRising 0 old → f < t
    → OnOk result ((i : ℕ) → has new i ≡ (is_between f t i || has old i))
added_has (Ok u) old new f t ok rising some = λ i. ap (λ l. has l i) ok ∙ has-with_interval old 0 f t i rising some
added_has (Err e) old new f t ok rising some = tt
