-- The greatest end so far, with those of the rest, is that of all.
use Rattle.std.proofs.Common.{◌≡◌, drop, max}
use Rattle.fd_elfcore.specs.Opening.{greatest_end}
use Rattle.fd_elfcore.proofs.segment.greatest_end.Given as goal

abbrev pub invariant-loop-segment : goal.invariant-loop-segment
invariant-loop-segment l = max l.end (greatest_end (drop l.segment-index l.segments)) ≡ greatest_end l.segments
