-- The wanted pages so far were written.
use Rattle.std.proofs.Common.{◌≡◌, ◌+◌, ◌-◌, ◌*◌, ◌≤◌, length, take}
use Rattle.std.specs.List.{flat_map}
use Rattle.fd_site.specs.Seen.{Frame}
use Rattle.fd_imgfile.specs.Spelling.{u64}
use Rattle.fd_site.specs.Writing.{WritesOn}
use Rattle.fd_imgfile.proofs.write.write_wanted.Given as goal

abbrev pub invariant-loop-done : goal.invariant-loop-done
invariant-loop-done g l = record {
  within : l.done ≤ length l.wanted;
  next : l.next ≡ l.at + 8 * l.done;
  written : WritesOn l.name l.at (flat_map u64 (take l.done l.wanted)) (g.S.Site.seen l.fn.site).told (g.S.Site.seen l.site).told;
  frame : Frame (g.S.Site.seen l.fn.site) (g.S.Site.seen l.site);
}

abbrev pub decreases-loop-done : goal.decreases-loop-done
decreases-loop-done g l = length l.wanted - l.done
