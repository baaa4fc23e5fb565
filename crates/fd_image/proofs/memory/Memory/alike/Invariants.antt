-- The words so far are like the first.
use Rattle.std.proofs.Common.{◌≡◌, ℕ, ◌+◌, ◌*◌, ◌<◌}
use Rattle.fd_image.proofs.memory.Memory.alike.Given as goal

abbrev pub invariant-loop-count : goal.invariant-loop-count
invariant-loop-count g l = record {
  first : l.first ≡ g.Self.Memory.word_at l.self l.pa;
  alike : (k : ℕ) → k < l.count → g.Self.Memory.word_at l.self (l.pa + 8 * k) ≡ g.Self.Memory.word_at l.self l.pa;
}
