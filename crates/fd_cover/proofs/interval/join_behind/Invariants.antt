use Rattle.std.proofs.Common.{length, drop, ◌-◌}
use Rattle.fd_cover.specs.Intervals.{with_interval}
use Rattle.fd_cover.proofs.Joining.{IsJoined}
use Rattle.fd_cover.proofs.interval.join_behind.Given as goal

abbrev pub invariant-loop-end : goal.invariant-loop-end
invariant-loop-end l = IsJoined l.intervals.items l.at l.end l.joint (with_interval (drop l.at l.intervals.items) l.fn.new.from l.fn.new.to)

abbrev pub decreases-loop-end : goal.decreases-loop-end
decreases-loop-end l = length l.intervals.items - l.end
