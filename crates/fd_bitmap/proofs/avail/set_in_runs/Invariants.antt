-- The bits are set of the runs so far.
use Rattle.std.proofs.Common.{◌≡◌, length, take}
use Rattle.fd_bitmap.specs.Pages.{is_among, joined}
use Rattle.fd_bitmap.specs.Runs.{run_pages}
use Rattle.fd_bitmap.proofs.avail.set_in_runs.Given as goal

abbrev pub invariant-loop-index : goal.invariant-loop-index
invariant-loop-index l = record {
  bits : l.map ≡ joined (is_among l.first l.end) (run_pages (take l.index l.runs)) l.fn.map;
  len : length l.map ≡ length l.fn.map;
}
