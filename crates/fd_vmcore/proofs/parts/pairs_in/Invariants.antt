-- The pairs so far and those of the rest are all pairs.
use Rattle.std.proofs.Common.{◌≡◌, ◌++◌, ◌/◌, length}
use Rattle.fd_vmcore.specs.Parts.{EndBelow}
use Rattle.fd_vmcore.specs.Ranges.{pairs_in}
use Rattle.fd_vmcore.proofs.Pairs.{rest}
use Rattle.fd_vmcore.proofs.parts.pairs_in.Given as goal

abbrev pub invariant-loop-index : goal.invariant-loop-index
invariant-loop-index l = record {
  pairs : l.pairs.items ++ rest l.section l.index (length l.section / 16) ≡ pairs_in l.section (length l.section);
  below : EndBelow l.pairs.items;
}
