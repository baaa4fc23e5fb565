-- What was read so far.
use Rattle.std.proofs.Common.{◌≡◌, ◌+◌, ◌-◌, ◌≤◌, length, slice_range}
use Rattle.fd_site.specs.Seen.{Untouched}
use Rattle.fd_imgfile.specs.File.{OfFile}
use Rattle.fd_imgfile.proofs.read.read_region.Given as goal

abbrev pub invariant-loop-filling : goal.invariant-loop-filling
invariant-loop-filling g l = record {
  room : l.filling.room ≡ l.len;
  within : length l.filling.bytes ≤ l.len;
  bytes : OfFile (g.S.Site.seen l.fn.site).told l.name (λ file. l.filling.bytes ≡ slice_range file l.at (l.at + length l.filling.bytes));
  untouched : Untouched (g.S.Site.seen l.fn.site) (g.S.Site.seen l.site);
}

abbrev pub decreases-loop-filling : goal.decreases-loop-filling
decreases-loop-filling g l = l.len - length l.filling.bytes
