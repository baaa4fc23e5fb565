-- The segments so far are in order.
use Rattle.fd_image.specs.Image.{begins_at_or_after, end_of}
use Rattle.fd_image.proofs.Places.{InOrder}
use Rattle.fd_image.proofs.rules.segment_out_of_order.Given as goal

abbrev pub invariant-loop-i : goal.invariant-loop-i
invariant-loop-i l = InOrder begins_at_or_after end_of l.segs l.i l.before
