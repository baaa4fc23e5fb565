-- What is left of the limit is what the segments so far left of it.
use Rattle.std.proofs.Common.{◌≡◌, ◌+◌, length, sum_by, take}
use Rattle.fd_image.proofs.rules.has_bytes_within.Given as goal

abbrev pub invariant-loop-seg : goal.invariant-loop-seg
invariant-loop-seg l = l.left + sum_by (λ seg. length seg.bytes) (take l.seg-index l.segs) ≡ l.limit
