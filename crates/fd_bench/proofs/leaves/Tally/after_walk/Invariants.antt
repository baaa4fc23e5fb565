-- What was met so far and what is left come to the tally of the whole.
use Rattle.std.proofs.Common.{◌≡◌}
use Rattle.fd_bench.specs.Tally.{tally_after}
use Rattle.fd_bench.proofs.leaves.Tally.after_walk.Given as goal

abbrev pub invariant-loop-leaf : goal.invariant-loop-leaf
invariant-loop-leaf l = tally_after l.tally l.leaf-iterator ≡ tally_after l.fn.self l.initial.leaf-iterator
