-- Segment by segment the order is kept, or the first that breaks it is found.
use Rattle.std.proofs.Common.{sym, arith}
use Rattle.std.proofs.lemmas.Bool.Decides.{nat_tests}
use Rattle.fd_image.specs.Image.{begins_at_or_after, end_of}
use Rattle.fd_image.proofs.Places.{InOrder-more, InOrder-fails, InOrder-end}
use Rattle.fd_image.proofs.rules.segment_out_of_order.Goals as goal

pub returns-then-from-before : goal.returns-then-from-before
returns-then-from-before c =
    let seg = c.index-segs-i.result in
    sym (InOrder-fails begins_at_or_after end_of c.args.segs.now c.loop-i.i c.loop-i.before seg seg c.loop-i.invariant (omega arith) c.index-segs-i.is (grind (arith, nat_tests)))

pub loop-i-preserved : goal.loop-i-preserved
loop-i-preserved c =
    let seg = c.index-segs-i.result in
    rw c.end_of-before.ensures (InOrder-more begins_at_or_after end_of c.args.segs.now c.loop-i.i c.loop-i.before seg seg c.loop-i.invariant (omega arith) c.index-segs-i.is (grind (arith, nat_tests)))

pub returns : goal.returns
returns c = sym (InOrder-end begins_at_or_after end_of c.args.segs.now _ _ c.loop-i.invariant (omega arith))
