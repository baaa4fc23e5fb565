-- The bytes so far were written.
use Rattle.std.proofs.Common.{◌-◌, ◌≤◌, length, take}
use Rattle.fd_site.specs.Seen.{Frame}
use Rattle.fd_site.specs.Writing.{WritesOn}
use Rattle.fd_imgfile.proofs.write.write_bytes.Given as goal

abbrev pub invariant-loop-done : goal.invariant-loop-done
invariant-loop-done g l = record {
  within : l.done ≤ length l.bytes;
  written : WritesOn l.name l.at (take l.done l.bytes) (g.S.Site.seen l.fn.site).told (g.S.Site.seen l.site).told;
  frame : Frame (g.S.Site.seen l.fn.site) (g.S.Site.seen l.site);
}

abbrev pub decreases-loop-done : goal.decreases-loop-done
decreases-loop-done g l = length l.bytes - l.done
