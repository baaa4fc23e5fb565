use Rattle.std.proofs.Common.{◌≡◌, ◌≤◌, ◌-◌, length, take}
use Rattle.fd_raw.proofs.tests.copied.Given as goal

abbrev pub invariant-loop-filling : goal.invariant-loop-filling
invariant-loop-filling l = (l.filling.room ≡ length l.bytes) × (length l.filling.bytes ≤ length l.bytes) × (l.filling.bytes ≡ take (length l.filling.bytes) l.bytes)

abbrev pub decreases-loop-filling : goal.decreases-loop-filling
decreases-loop-filling l = length l.bytes - length l.filling.bytes
