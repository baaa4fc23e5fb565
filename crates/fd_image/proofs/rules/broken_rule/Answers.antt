-- The places are those of the rules, in their order.
use Rattle.std.proofs.Common.{refl}
use Rattle.fd_image.specs.Image.{broken_rule, breaches}
use Rattle.fd_image.proofs.rules.broken_rule.Goals as goal

pub returns : goal.returns
unfolding broken_rule breaches
returns c =
    rw (c.first_breach.ensures, c.missing_segment.ensures, c.ragged_segment.ensures, c.segment_out_of_order.ensures)
    (rw (c.segment_past_end.ensures, c.unless.ensures, c.is_within_limits.ensures, c.ragged_pair.ensures)
    (rw (c.pair_out_of_order.ensures, c.pair_outside.ensures, c.bad_wanted_page.ensures, c.unless-2.ensures, c.unless-3.ensures)
    (rw (c.is_kernel_window.ensures, c.unless-4.ensures, c.is_in_kernel_space.ensures, c.unless-5.ensures, c.is_direct_map.ensures)
    (rw (c.unless-6.ensures, c.are_apart.ensures, c.unless-7.ensures, c.is_known_paging.ensures, c.as_slice-segs.ensures, c.as_slice-avail.ensures, c.as_slice.ensures) refl))))
