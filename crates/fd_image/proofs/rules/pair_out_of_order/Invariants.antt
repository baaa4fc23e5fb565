-- The pairs so far are in order.
use Rattle.fd_image.specs.Image.{pair_begins_at_or_after, pair_end}
use Rattle.fd_image.proofs.Places.{InOrder}
use Rattle.fd_image.proofs.rules.pair_out_of_order.Given as goal

abbrev pub invariant-loop-i : goal.invariant-loop-i
invariant-loop-i l = InOrder pair_begins_at_or_after pair_end l.avail l.i l.before
