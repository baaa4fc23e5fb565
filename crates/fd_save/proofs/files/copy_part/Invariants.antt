use Rattle.std.proofs.Common.{◌≡◌, ◌-◌, ◌%◌, ◌≤◌}
use Rattle.fd_site.specs.Seen.{Frame}
use Rattle.fd_save.proofs.Copying.{Copied}
use Rattle.fd_save.proofs.files.copy_part.Given as goal

abbrev pub invariant-loop-done : goal.invariant-loop-done
invariant-loop-done g l = record {
  copied : Copied l.name l.at l.done (g.S.Site.seen l.fn.site).told (g.S.Site.seen l.site).told;
  frame : Frame (g.S.Site.seen l.fn.site) (g.S.Site.seen l.site);
  sectors : l.done % 512 ≡ 0;
  inside : l.done ≤ l.len;
}

abbrev pub decreases-loop-done : goal.decreases-loop-done
decreases-loop-done g l = l.len - l.done
