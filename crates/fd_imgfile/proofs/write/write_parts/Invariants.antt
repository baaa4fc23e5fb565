-- The parts so far were written.
use Rattle.std.proofs.Common.{◌≡◌, ◌+◌, length, take}
use Rattle.std.specs.List.{flat_map}
use Rattle.fd_site.specs.Seen.{Frame}
use Rattle.fd_site.specs.Writing.{WritesOn}
use Rattle.fd_imgfile.proofs.write.write_parts.Given as goal

abbrev pub invariant-loop-part : goal.invariant-loop-part
invariant-loop-part g l = record {
  next : l.next ≡ l.at + length (flat_map (λ part. part.now) (take l.part-index l.parts));
  written : WritesOn l.name l.at (flat_map (λ part. part.now) (take l.part-index l.parts)) (g.S.Site.seen l.fn.site).told (g.S.Site.seen l.site).told;
  frame : Frame (g.S.Site.seen l.fn.site) (g.S.Site.seen l.site);
}
