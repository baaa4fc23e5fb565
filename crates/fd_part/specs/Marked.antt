-- A dump over a partition that may hold another one, whose header is marked as cleared first.
use Rattle.std.specs.Prelude.{◌≡◌, ℕ, Bool, if◌then◌else◌, List, [], ◌++◌, length, take}
use Rattle.std.specs.Str.{bytes_eq}
use Rattle.fd_site.specs.Begun.{IsBegun}
use Rattle.fd_site.specs.Journal.{Entry}
use Rattle.fd_kdh.specs.Header.{live_magic}
use Rattle.fd_kdh.specs.declared.header.Header.{Header}
use Rattle.fd_part.specs.Clearing.{clearing}
use Rattle.fd_part.specs.Dump.{IsDumpJournal}
use Rattle.fd_part.specs.Partition.{trailing_sector}

-- whether a sector begins with the live magic (KERNELDUMPMAGIC)
abbrev pub is_live_sector : List ℕ → Bool
is_live_sector sector = bytes_eq live_magic (take 20 sector)

-- whether a live header stands on a partition
abbrev pub is_live : List ℕ → ℕ → Bool
is_live part block = is_live_sector (trailing_sector part block)

-- marking it: where a live header stands, its sector is written back as a cleared one, else nothing is written
abbrev pub marking : List ℕ → ℕ → List Entry
marking part block = if is_live part block then clearing (length part) block (trailing_sector part block) else []

-- a marked dump's journal over a partition: the marking, then a dump's journal
pub record IsMarkedJournal (part body : List ℕ) (h : Header) (block : ℕ) (journal : List Entry) : Type 0 where
  pub dump : List Entry
  pub is_dump : IsDumpJournal body h (length part) block dump
  pub is : journal ≡ marking part block ++ dump

-- what a marked dump began to add: the first of its writes, and what failing the next may add
pub record IsBegunMarked (part body : List ℕ) (h : Header) (block : ℕ) (added : List Entry) : Type 0 where
  pub planned : List Entry
  pub is_marked : IsMarkedJournal part body h block planned
  pub begun : IsBegun planned added
