-- The place of a number among rising intervals, by their ends.
use Rattle.std.proofs.Common.{ℕ, zero, suc, ◌+◌, ◌<◌, ◌≤◌, List, [], ◌∷◌, length, get_or, take, arith}
use Rattle.std.specs.List.Sorted.{IsNonDecreasingBy}
use Rattle.fd_cover.specs.declared.interval.Interval.{Interval}
use Rattle.fd_cover.specs.Intervals.{AreBefore, AreRising}

ends_above : (rs : List Interval) (least k : ℕ) (d : Interval) → AreRising least rs → k < length rs → least ≤ (get_or rs k d).to
ends_above [] least k d rising inside = absurd (omega arith)
ends_above (r ∷ rs) least zero d rising inside = omega (arith, rising.0, rising.1)
ends_above (r ∷ rs) least (suc k) d rising inside =
    let later = ends_above rs (r.to + 1) k d rising.2 (omega arith) in omega (arith, rising.0, rising.1)

-- rising intervals end in order
pub ends_rise : (rs : List Interval) (least : ℕ) → AreRising least rs → IsNonDecreasingBy (λ (r : Interval). r.to) rs
ends_rise [] least rising i j d le inside = absurd (omega arith)
ends_rise (r ∷ rs) least rising zero zero d le inside = omega arith
ends_rise (r ∷ rs) least rising zero (suc j) d le inside = let later = ends_above rs (r.to + 1) j d rising.2 (omega arith) in omega arith
ends_rise (r ∷ rs) least rising (suc i) zero d le inside = absurd (omega arith)
ends_rise (r ∷ rs) least rising (suc i) (suc j) d le inside = ends_rise rs (r.to + 1) rising.2 i j d (omega arith) (omega arith)

-- the intervals of which each ends before a number
pub each_before : (rs : List Interval) (n f : ℕ) → n ≤ length rs → ((k : ℕ) (d : Interval) → k < n → (get_or rs k d).to < f) → AreBefore f (take n rs)
each_before rs zero f inside ends = tt
each_before [] (suc n) f inside ends = tt
each_before (r ∷ rs) (suc n) f inside ends = (ends 0 r (omega arith), each_before rs n f (omega arith) (λ k d below. ends (suc k) d (omega arith)))
