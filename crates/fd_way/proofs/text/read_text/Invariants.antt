-- The text so far and that of the rest are the whole text.
use Rattle.std.proofs.Common.{◌≡◌, ◌+◌, ◌-◌, ◌++◌, length, drop}
use Rattle.fd_way.specs.ReadText.{read_text}
use Rattle.fd_way.proofs.text.read_text.Given as goal

abbrev pub invariant-loop-at : goal.invariant-loop-at
invariant-loop-at l = l.text.items ++ read_text (l.fn.va + l.at) (drop l.at l.fn.bytes) ≡ read_text l.fn.va l.fn.bytes

abbrev pub decreases-loop-at : goal.decreases-loop-at
decreases-loop-at l = length l.fn.bytes - l.at
