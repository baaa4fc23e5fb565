use Rattle.std.proofs.Common.{◌+◌, ◌≤◌, sym, subst, ◌∙◌, min, max, drop, arith}
use Rattle.std.proofs.lemmas.List.{get_or_default}
use Rattle.fd_cover.specs.declared.interval.Interval.{Interval}
use Rattle.fd_cover.specs.Intervals.{with_interval}
use Rattle.fd_cover.proofs.Joining.{IsJoined, joined_more}
use Rattle.fd_cover.proofs.interval.join_behind.Goals as goal

pub loop-end-preserved : goal.loop-end-preserved
loop-end-preserved c =
    let rs = c.args.intervals.now.items in
    let at = c.args.at in
    let end = c.loop-end.end in
    let joint = c.loop-end.joint in
    let whole = with_interval (drop at rs) c.args.new.from c.args.new.to in
    let next = c.index-in-loop-end.result.now in
    let same = c.index.ensures ∙ get_or_default rs end c.index.result.now next (omega arith) in
    let meets = subst (λ (met : Interval). met.from ≤ joint.to) same c.if-index-joint.true in
    subst (λ (joined : Interval). IsJoined rs at (end + 1) joined whole) (sym c.joined-joint.ensures)
    (subst (λ (met : Interval). IsJoined rs at (end + 1) (record { from = min joint.from met.from; to = max joint.to met.to }) whole)
    (sym c.index-in-loop-end.ensures)
    (joined_more rs at end joint next whole c.loop-end.invariant (omega arith) meets))
