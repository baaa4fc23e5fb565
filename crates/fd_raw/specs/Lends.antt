-- What a block's bytes end as, once a `&mut` to some of them has ended.
use Rattle.std.specs.Prelude.{ℕ, List}
use Rattle.std.specs.Borrow.{Fml, MutBor, Array, Lends, u8}
use Rattle.fd_raw.specs.Written.{written}
use Rattle.fd_raw.specs.declared.cells.Cells.{Cells}
use Rattle.fd_raw.specs.contracts.cells.Cells.{the_row}

abbrev pub with_bytes : Cells → List ℕ → Cells
with_bytes c xs = record c { bytes = xs }

-- the len bytes from the index at on are the last ones written through r
abbrev pub lends_bytes : MutBor Cells → ℕ → ℕ → MutBor (List ℕ) → Fml
lends_bytes c at len r = Lends the_row (Array u8 0) c r (λ ws. with_bytes c.now (written c.now.bytes at len ws))
