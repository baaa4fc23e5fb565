-- Printed text in memory.
use Rattle.std.specs.Prelude.{ℕ, List, Some}
use Rattle.fd_site.specs.Seen.{Watched}
use Rattle.fd_fake.specs.Calls.{CallCount}

-- text that was printed, and the calls so far
pub record TextInMemory : Type 0 where
  pub bytes : List ℕ
  pub calls : CallCount

-- what is seen of it: all
abbrev pub seen_of : TextInMemory → Watched ℕ
seen_of s = record { told = Some s.bytes; faults = s.calls.faults }
