-- A segment of whole pages has the whole page of each of its addresses.
use Rattle.std.proofs.Common.{◌≡◌, ℕ, ◌+◌, ◌-◌, ◌%◌, ◌<◌, ◌≤◌, arith}

module _ (start len pa : ℕ) (start_aligned : start % 4096 ≡ 0) (len_aligned : len % 4096 ≡ 0) (from_start : start ≤ pa) (to_end : pa < start + len) where
  pub page_begins : start ≤ pa - pa % 4096
  page_begins = omega arith

  pub page_ends : pa - pa % 4096 - start + 4096 ≤ len
  page_ends = omega arith
