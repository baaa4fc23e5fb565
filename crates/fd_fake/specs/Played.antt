-- A link or a set of ports in memory: a script that is played, and what was asked.
use Rattle.std.specs.Prelude.{◌≡◌, List, [], ◌∷◌, ◌++◌, drop, Some}
use Rattle.fd_site.specs.Seen.{Watched}
use Rattle.fd_fake.specs.Calls.{CallCount, IsFailedCall, after_call}

-- what each of the next looks brings, what was asked so far, and the calls so far
pub record Played (E : Type 0) : Type 0 where
  pub script : List E
  pub told : List E
  pub calls : CallCount

-- what is seen of it: all that was asked
abbrev pub seen_of : {E : Type 0} → Played E → Watched E
seen_of p = record { told = Some p.told; faults = p.calls.faults }

-- what the next look brings, which is nothing after the script
abbrev pub next_of : {E : Type 0} → E → List E → E
next_of nothing [] = nothing
next_of nothing (e ∷ es) = e

-- after a call that succeeded and added this
abbrev pub after_event : {E : Type 0} → Played E → E → Played E
after_event p e = record p { told = p.told ++ e ∷ []; calls = after_call p.calls }

-- after a look that succeeded, where this is nothing
abbrev pub after_look : {E : Type 0} → E → Played E → Played E
after_look nothing p = record (after_event p (next_of nothing p.script)) { script = drop 1 p.script }

-- a call that failed added nothing, and left the script where it was
pub record IsFailed {E : Type 0} (old new : Played E) : Type 0 where
  pub script : new.script ≡ old.script
  pub told : new.told ≡ old.told
  pub calls : IsFailedCall old.calls new.calls
