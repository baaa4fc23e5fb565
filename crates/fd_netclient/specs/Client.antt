-- What the fields of a client mean.
use Rattle.std.specs.Prelude.{ℕ, ◌≤◌, ◌≡◌, List, [], slice_get, Option, Some}
use Rattle.fd_netclient.specs.declared.client.Ending.{Ending}
use Rattle.fd_netclient.specs.declared.client.Ending.TheVariants.{Running, AllDone, OutAt}
use Rattle.fd_netclient.specs.declared.limits.Limits.{Limits}
use Rattle.fd_netclient.specs.Trace.{Patience, Done, TimedOut}
use Rattle.fd_netclient.specs.Machine.{State, At, Ended, polling}

-- at most 1000 retries, and from 1 to 1,000,000 polls
pub record IsPatient (limits : Limits) : Type 0 where
  pub retries : limits.retries ≤ 1000
  pub some : 1 ≤ limits.polls
  pub polls : limits.polls ≤ 1000000

abbrev pub patience_of : Limits → Patience
patience_of limits = record { retries = limits.retries; polls = limits.polls }

-- the state by how a client goes on, its port, the numbers that are still to be sent in the round, those that weren't
-- acknowledged, the polls and rounds that are left, and the later batches
abbrev pub state_by : Ending → Option ℕ → (unsent unacknowledged : List ℕ) → (polls rounds : ℕ) → List (List ℕ) → State
state_by Running session unsent unacknowledged polls rounds later = At (record {
  session = session;
  unsent = unsent;
  unacknowledged = unacknowledged;
  polls = polls;
  rounds = rounds;
  later = later;
})
state_by AllDone session unsent unacknowledged polls rounds later = Ended session Done
state_by (OutAt s) session unsent unacknowledged polls rounds later = Ended session (TimedOut s)

-- a round whose datagrams were sent, when a number or a poll may be missing
abbrev pub settled : Patience → State → State
settled patience (At p) = polling patience p.session p.unacknowledged p.polls p.rounds p.later
settled patience (Ended session outcome) = Ended session outcome

-- all numbers of the batch were acknowledged; or some weren't, the least of them this one, and no poll is left
abbrev pub HasAll : State → Type 0
HasAll (At p) = p.unacknowledged ≡ []
HasAll (Ended session outcome) = ⊥

abbrev pub IsOver : ℕ → State → Type 0
IsOver least (At p) = (slice_get p.unacknowledged 0 ≡ Some least) × (p.polls ≡ 0)
IsOver least (Ended session outcome) = ⊥
