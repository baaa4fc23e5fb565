-- A site in memory.
use Rattle.std.specs.Prelude.{ℕ, length, Some}
use Rattle.fd_site.specs.Seen.{Seen}
use Rattle.fd_fake.specs.Calls.{CallCount}
use Rattle.fd_fake.specs.Disk.{DiskInMemory, contents_of, part_now}

-- a disk, the size of a block, and the calls so far
pub record SiteInMemory : Type 0 where
  pub disk : DiskInMemory
  pub block : ℕ
  pub calls : CallCount

-- what is seen of it: all
abbrev pub seen_of : SiteInMemory → Seen
seen_of m = record { told = Some (contents_of m.disk); size = length (part_now m.disk); block = m.block; faults = m.calls.faults }
