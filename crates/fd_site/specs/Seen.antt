-- What contracts see of the outside, and what each call on a site keeps of it.
use Rattle.std.specs.Prelude.{◌≡◌, ℕ, ◌≤◌, List, Option}
use Rattle.fd_site.specs.Contents.{Contents}

-- of a site: what it holds, where it tells that; the bytes of its partition and of one of its blocks; and how often a
-- call on it has failed
pub record Seen : Type 0 where
  pub told : Option Contents
  pub size : ℕ
  pub block : ℕ
  pub faults : ℕ

-- of a link, a set of ports or a sink: what was asked of it, in order, where it tells that; and how often a call failed
pub record Watched (A : Type 0) : Type 0 where
  pub told : Option (List A)
  pub faults : ℕ

-- what every call on a site keeps: its sizes stay, and its count of faults never falls
pub record Frame (old new : Seen) : Type 0 where
  pub size : new.size ≡ old.size
  pub block : new.block ≡ old.block
  pub count : old.faults ≤ new.faults

-- what a call keeps that only reads: also what the site holds
pub record Untouched (old new : Seen) : Type 0 where
  pub told : new.told ≡ old.told
  pub size : new.size ≡ old.size
  pub block : new.block ≡ old.block
  pub count : old.faults ≤ new.faults
