-- A site in memory that is watched.
use Rattle.std.specs.Prelude.{◌≡◌, ℕ, ◌+◌, ◌≤◌, Bool, true, false, []}
use Rattle.fd_fake.specs.Calls.{CallCount}
use Rattle.fd_fake.specs.MemSite.{SiteInMemory, seen_of}
use Rattle.fd_site.specs.Seen.{Seen}

-- no call is to fail by its number, and the next one only where that is waited for
pub record IsCalm (calls : CallCount) (waiting : Bool) : Type 0 where
  pub fails : calls.fails ≡ []
  pub next : calls.next ≡ true → waiting ≡ true

-- a call failed that was waited for, and none is waited for any more
pub record HasFailed (was now : Bool) : Type 0 where
  pub waited : was ≡ true
  pub over : now ≡ false

abbrev pub one_if : Bool → ℕ
one_if true = 1
one_if false = 0

-- Whether a call that fails is waited for, and whether it came: one of the two at most, and none where none may come.
pub record IsWatched (most : ℕ) (calls : CallCount) (waiting failed : Bool) : Type 0 where
  pub calm : IsCalm calls waiting
  pub few : one_if failed + one_if waiting ≤ most
  pub once : one_if failed + one_if waiting ≤ 1

-- what is seen of it: its faults are those for want of memory, and the one that was waited for
abbrev pub watched_seen : SiteInMemory → Bool → Seen
watched_seen m failed = record (seen_of m) { faults = m.calls.starved + one_if failed }
