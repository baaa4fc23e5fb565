-- What each size of a block has, and a header block of it.
use Rattle.std.proofs.Common.{◌≡◌, ◌⊎◌, inl, inr, ℕ, ◌-◌, ◌%◌, ◌≤◌, IsTrue, length, replicate, sym, subst, arith, length-append}
use Rattle.std.proofs.lemmas.Bool.Decides.{nat_tests}
use Rattle.std.proofs.lemmas.List.{length-replicate}
use Rattle.fd_kdh.specs.declared.header.Header.{Header}
use Rattle.fd_kdh.specs.Header.{FitsFields, dump_header}
use Rattle.fd_kdh.proofs.Headers.{length-dump_header}
use Rattle.fd_part.specs.Dump.{header_block}
use Rattle.fd_part.specs.Partition.{is_good}

pub record IsBlock (block : ℕ) : Type 0 where
  pub low : 512 ≤ block
  pub high : block ≤ 4096
  pub sectors : block % 512 ≡ 0
  pub pages : (n : ℕ) → n % 4096 ≡ 0 → n % block ≡ 0

block_sizes : (size block : ℕ) → IsTrue (is_good size block) → (block ≡ 512) ⊎ ((block ≡ 1024) ⊎ ((block ≡ 2048) ⊎ (block ≡ 4096)))
block_sizes size block good = grind (arith, nat_tests)

by_size : (block : ℕ) → (block ≡ 512) ⊎ ((block ≡ 1024) ⊎ ((block ≡ 2048) ⊎ (block ≡ 4096))) → IsBlock block
by_size block (inl is) =
    subst IsBlock (sym is) (record { low = omega arith; high = omega arith; sectors = omega arith; pages = λ n pages. omega arith })
by_size block (inr (inl is)) =
    subst IsBlock (sym is) (record { low = omega arith; high = omega arith; sectors = omega arith; pages = λ n pages. omega arith })
by_size block (inr (inr (inl is))) =
    subst IsBlock (sym is) (record { low = omega arith; high = omega arith; sectors = omega arith; pages = λ n pages. omega arith })
by_size block (inr (inr (inr is))) =
    subst IsBlock (sym is) (record { low = omega arith; high = omega arith; sectors = omega arith; pages = λ n pages. omega arith })

pub IsBlock-good : (size block : ℕ) → IsTrue (is_good size block) → IsBlock block
IsBlock-good size block good = by_size block (block_sizes size block good)

-- a header block has the size of a block
pub length-header_block : (h : Header) (block : ℕ) → FitsFields h → 512 ≤ block → length (header_block h block) ≡ block
length-header_block h block fits low =
    omega (
      arith,
      low,
      length-dump_header h fits,
      length-append (dump_header h) (replicate (block - 512) 0),
      length-replicate {A = ℕ} (block - 512) 0,
    )
