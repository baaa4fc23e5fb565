use Rattle.std.proofs.Common.{◌≡◌, map, take}
use Rattle.fd_gen.specs.Generated.{extent_of}
use Rattle.fd_gen.proofs.ranges.extents.Given as goal

abbrev pub invariant-loop-seg : goal.invariant-loop-seg
invariant-loop-seg l = l.pairs.items ≡ map extent_of (take l.seg-index l.segs)
