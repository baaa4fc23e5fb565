-- What a `Filling` ends as, once a `&mut` into it has ended.
use Rattle.std.specs.Prelude.{ℕ, List}
use Rattle.std.specs.Borrow.{Fml, MutBor, Array, Lends, u8}
use Rattle.fd_raw.specs.Filling.{Filled, filled}
use Rattle.fd_raw.specs.Written.{written}
use Rattle.fd_raw.specs.contracts.filling.Filling.{the_row}

-- the len bytes from the index at on are the last ones written through r
abbrev pub lends_part : MutBor Filled → ℕ → ℕ → MutBor (List ℕ) → Fml
lends_part f at len r = Lends the_row (Array u8 0) f r (λ ws. filled (written f.now.bytes at len ws) f.now.room)
