-- The words so far are like the first.
use Rattle.std.proofs.Common.{◌≡◌, ℕ, ◌+◌, ◌*◌, ◌<◌}
use Rattle.fd_image.specs.Physical.{word_in}
use Rattle.fd_image.proofs.image.words_alike.Given as goal

abbrev pub invariant-loop-count : goal.invariant-loop-count
invariant-loop-count l = record {
  first : l.first ≡ word_in l.seg l.pa;
  alike : (k : ℕ) → k < l.count → word_in l.seg (l.pa + 8 * k) ≡ word_in l.seg l.pa;
}
