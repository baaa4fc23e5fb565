-- Pair by pair the order is kept, or the first that breaks it is found.
use Rattle.std.proofs.Common.{ℕ, get_or, sym, refl, arith}
use Rattle.std.proofs.lemmas.Bool.Decides.{nat_tests}
use Rattle.fd_image.specs.Image.{pair_begins_at_or_after, pair_end}
use Rattle.fd_image.proofs.Places.{InOrder-more, InOrder-fails, InOrder-end}
use Rattle.fd_image.proofs.rules.pair_out_of_order.Goals as goal

pub returns-then-pair-before : goal.returns-then-pair-before
returns-then-pair-before c =
    let pair : ℕ × ℕ = get_or c.args.avail.now c.loop-i.i (0, 0) in
    sym (InOrder-fails pair_begins_at_or_after pair_end c.args.avail.now c.loop-i.i c.loop-i.before pair (0, 0) c.loop-i.invariant (omega arith) refl (grind (arith, nat_tests)))

pub loop-i-preserved : goal.loop-i-preserved
loop-i-preserved c =
    let pair : ℕ × ℕ = get_or c.args.avail.now c.loop-i.i (0, 0) in
    InOrder-more pair_begins_at_or_after pair_end c.args.avail.now c.loop-i.i c.loop-i.before pair (0, 0) c.loop-i.invariant (omega arith) refl (grind (arith, nat_tests))

pub returns : goal.returns
returns c = sym (InOrder-end pair_begins_at_or_after pair_end c.args.avail.now _ _ c.loop-i.invariant (omega arith))
