-- What a `Region` ends as, once a `&mut` into it has ended.
use Rattle.std.specs.Prelude.{ℕ, List}
use Rattle.std.specs.Borrow.{Fml, MutBor, Array, Lends, u8}
use Rattle.fd_raw.specs.Written.{written}
use Rattle.fd_raw.specs.contracts.region.Region.{the_row}

-- the len bytes from the index at on are the last ones written through r
abbrev pub lends_view : MutBor (List ℕ) → ℕ → ℕ → MutBor (List ℕ) → Fml
lends_view region at len r = Lends the_row (Array u8 0) region r (written region.now at len)
