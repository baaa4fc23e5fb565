-- What the leaves of a walk add up to.
use Rattle.std.specs.Prelude.{◌+◌, ◌%◌, ◌^◌, List, [], ◌∷◌}
use Rattle.fd_walk.specs.declared.leaf.Leaf.{Leaf}
use Rattle.fd_bench.specs.declared.leaves.Tally.{Tally}

-- one leaf more
abbrev pub tally_with : Tally → Leaf → Tally
tally_with tally leaf = record { leaves = (tally.leaves + 1) % 2 ^ 64; sum = (tally.sum + leaf.pa) % 2 ^ 64 }

-- so many leaves more
abbrev pub tally_after : Tally → List Leaf → Tally
tally_after tally [] = tally
tally_after tally (leaf ∷ leaves) = tally_after (tally_with tally leaf) leaves
