-- A site that stops after a number of sectors.
use Rattle.std.specs.Prelude.{◌≡◌, ℕ, zero, suc, ◌+◌, ◌-◌, ◌*◌, ◌/◌, ◌<◌, Bool, List, [], ◌∷◌, length, take, Option}
use Rattle.fd_site.specs.Contents.{Contents, whole_part, with_entries}
use Rattle.fd_site.specs.Journal.{Entry}
use Rattle.fd_site.specs.Seen.{Seen}
use Rattle.fd_fake.specs.Calls.{risen}
use Rattle.fd_fake.specs.declared.stop_site.StopSite.{StopSite}

-- the sectors that are still passed, how often it failed a write itself, and whether a call of the inner site
-- through it failed
pub record StopState : Type 0 where
  pub left : ℕ
  pub faults : ℕ
  pub inner_failed : Bool

abbrev pub state_of : {S : Type 0} → StopSite S → StopState
state_of s = record { left = s.left; faults = s.faults; inner_failed = s.inner_failed }

-- the site to which its calls are passed
abbrev pub inner_of : {S : Type 0} → StopSite S → S
inner_of s = s.inner.now

-- what is seen of it: the inner site, with its own faults
abbrev pub seen_of : {S : Type 0} → (S → Seen) → StopSite S → Seen
seen_of seen s = record (seen (inner_of s)) { faults = (seen (inner_of s)).faults + s.faults }

-- what it passes of the write in which it stops: the first sectors alone
abbrev pub first_sectors : ℕ → ℕ → List ℕ → List Entry
first_sectors zero at bytes = []
first_sectors (suc n) at bytes = whole_part at (take (suc n * 512) bytes) ∷ []

-- after a write that was passed whole
abbrev pub after_passing : StopState → List ℕ → StopState
after_passing s bytes = record s { left = s.left - length bytes / 512 }

-- a write in which it stops, or after which it has stopped: the sectors that were left are passed
pub record Stops (old new : StopState) (told_old told_new : Option Contents) (at : ℕ) (bytes : List ℕ) : Type 0 where
  pub used_up : old.left * 512 < length bytes
  pub state : new ≡ record old { left = 0; faults = risen old.faults }
  pub told : told_new ≡ with_entries told_old (first_sectors old.left at bytes)
