-- The pairs so far are within their type.
use Rattle.std.proofs.Common.{ℕ, ◌<◌, ◌^◌, get_or}
use Rattle.fd_image.proofs.typed.pairs_are_typed.Given as goal

abbrev pub invariant-loop-pair : goal.invariant-loop-pair
invariant-loop-pair l = (k : ℕ) → k < l.pair-index → (d : ℕ × ℕ) → ((get_or l.pairs k d).0 < 2 ^ 64) × ((get_or l.pairs k d).1 < 2 ^ 64)
