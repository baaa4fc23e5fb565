-- Calls that are numbered from 1, and which of them fail.
use Rattle.std.specs.Prelude.{◌≡◌, ◌⊎◌, ℕ, ◌+◌, ◌-◌, ◌^◌, min, Bool, false, IsTrue, Contains, List}

-- the numbers that fail, how many were made, whether the next one fails in any case, how many failed, and how many
-- of these found no memory
pub record CallCount : Type 0 where
  pub fails : List ℕ
  pub made : ℕ
  pub next : Bool
  pub faults : ℕ
  pub starved : ℕ

-- no call was made yet
abbrev pub no_calls : List ℕ → CallCount
no_calls fails = record { fails = fails; made = 0; next = false; faults = 0; starved = 0 }

-- one more, up to the end of 64 bits
abbrev pub risen : ℕ → ℕ
risen count = min (count + 1) (2 ^ 64 - 1)

-- the next call is one that fails
abbrev pub IsDue : CallCount → Type 0
IsDue c = IsTrue c.next ⊎ Contains c.fails (risen c.made)

-- one call more, which succeeded
abbrev pub after_call : CallCount → CallCount
after_call c = record c { made = risen c.made; next = false }

-- one call more, which was due
abbrev pub after_fault : CallCount → CallCount
after_fault c = record c { made = risen c.made; next = false; faults = risen c.faults }

-- one call more, which found no memory
abbrev pub after_want : CallCount → CallCount
after_want c = record c { made = risen c.made; next = false; faults = risen c.faults; starved = risen c.starved }

-- one call more, which failed: it was due, or found no memory
abbrev pub IsFailedCall : CallCount → CallCount → Type 0
IsFailedCall old new = (IsDue old × (new ≡ after_fault old)) ⊎ (new ≡ after_want old)
