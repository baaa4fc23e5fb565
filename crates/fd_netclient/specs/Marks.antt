-- Marks on numbers in one word.
use Rattle.std.specs.Prelude.{ℕ, ◌-◌, ◌==◌, List, filter}
use Rattle.std.specs.Int.{bit_at}
use Rattle.fd_netclient.specs.Datagram.{numbers}

-- the numbers from one on whose bits are set, bit i being that of the i-th number after it
unfoldable pub marked : (first bits : ℕ) → List ℕ
marked first bits = filter (λ s. bit_at bits (s - first) == 1) (numbers first 64)
