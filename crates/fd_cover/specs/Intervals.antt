-- Sets of numbers, told by whether they have each, and kept as lists of intervals.
use Rattle.std.specs.Prelude.{◌≡◌, ℕ, ◌+◌, ◌<◌, ◌≤◌, nat_le, nat_lt, Bool, false, ◌&&◌, ◌||◌, min, max, List, [], ◌∷◌, if◌then◌else◌}
use Rattle.fd_cover.specs.declared.interval.Interval.{Interval}

-- from one number on, up to but not with another
abbrev pub is_between : (from to i : ℕ) → Bool
is_between from to i = nat_le from i && nat_lt i to

-- just the numbers below len, and no number
abbrev pub IsWhole : (ℕ → Bool) → ℕ → Type 0
IsWhole has len = (i : ℕ) → has i ≡ nat_lt i len

abbrev pub IsNone : (ℕ → Bool) → Type 0
IsNone has = (i : ℕ) → has i ≡ false

-- one of the numbers from one on, up to but not with another, or a number next to them
pub record IsBeside (from to i : ℕ) : Type 0 where
  pub low : from ≤ i + 1
  pub high : i ≤ to

-- a number is in one of these intervals
abbrev pub has : List Interval → ℕ → Bool
has [] i = false
has (r ∷ rs) i = is_between r.from r.to i || has rs i

-- the intervals rise from a number on, none is empty, and no two meet
abbrev pub AreRising : ℕ → List Interval → Type 0
AreRising least [] = Unit {0}
AreRising least (r ∷ rs) = (least ≤ r.from) × (r.from < r.to) × AreRising (r.to + 1) rs

-- they all end before a number
abbrev pub AreBefore : ℕ → List Interval → Type 0
AreBefore from [] = Unit {0}
AreBefore from (r ∷ rs) = (r.to < from) × AreBefore from rs

-- rising intervals with one more, which becomes one with those that it meets
abbrev pub with_interval : List Interval → (from to : ℕ) → List Interval
with_interval [] from to = record { from = from; to = to } ∷ []
with_interval (r ∷ rs) from to =
    if nat_lt to r.from then record { from = from; to = to } ∷ r ∷ rs
    else (if nat_lt r.to from then r ∷ with_interval rs from to else with_interval rs (min from r.from) (max to r.to))
