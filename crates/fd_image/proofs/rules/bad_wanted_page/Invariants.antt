-- The pages so far are in order.
use Rattle.fd_image.specs.Image.{is_page_at_or_after, next_address}
use Rattle.fd_image.proofs.Places.{InOrder}
use Rattle.fd_image.proofs.rules.bad_wanted_page.Given as goal

abbrev pub invariant-loop-i : goal.invariant-loop-i
invariant-loop-i l = InOrder is_page_at_or_after next_address l.wanted l.i l.least
