-- The segments so far were written.
use Rattle.std.proofs.Common.{◌≡◌, ◌+◌, length, take}
use Rattle.std.specs.List.{flat_map}
use Rattle.fd_site.specs.Seen.{Frame}
use Rattle.fd_site.specs.Writing.{WritesOn}
use Rattle.fd_imgfile.proofs.write.write_segments.Given as goal

abbrev pub invariant-loop-seg : goal.invariant-loop-seg
invariant-loop-seg g l = record {
  next : l.next ≡ l.at + length (flat_map (λ seg. seg.bytes) (take l.seg-index l.segs));
  written : WritesOn l.name l.at (flat_map (λ seg. seg.bytes) (take l.seg-index l.segs)) (g.S.Site.seen l.fn.site).told (g.S.Site.seen l.site).told;
  frame : Frame (g.S.Site.seen l.fn.site) (g.S.Site.seen l.site);
}
