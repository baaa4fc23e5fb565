-- The segments of a valid image are in order, and the one that is found has the address.
use Rattle.std.proofs.Common.{◌∙◌, ap, find}
use Rattle.fd_image.specs.Image.{segment_out_of_order}
use Rattle.fd_image.specs.Physical.{has_address}
use Rattle.fd_image.proofs.Valid.{rules_kept, segment_lent-has, segment_lent-whole}
use Rattle.fd_image.proofs.image.Image.segment_of.Goals as goal

pub find_segment-requires : goal.find_segment-requires
find_segment-requires c =
    ap segment_out_of_order c.segs.ensures.value ∙ (rules_kept c.args.self.now c.segs.ensures.valid.unbroken).segments_in_order

pub returns-clause-within : goal.returns-clause-within
returns-clause-within c =
    let m = c.args.self.now in
    segment_lent-has m c.args.pa c.find_segment.result c.segs.ensures.valid
    (c.find_segment.ensures ∙ ap (find (has_address c.args.pa)) c.segs.ensures.value)

pub returns-clause-whole : goal.returns-clause-whole
returns-clause-whole c =
    let m = c.args.self.now in
    segment_lent-whole m c.args.pa c.find_segment.result c.segs.ensures.valid
    (c.find_segment.ensures ∙ ap (find (has_address c.args.pa)) c.segs.ensures.value)
