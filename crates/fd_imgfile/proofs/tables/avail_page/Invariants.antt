-- The table so far.
use Rattle.std.proofs.Common.{◌≡◌, ◌*◌, length, take}
use Rattle.std.specs.List.{flat_map}
use Rattle.fd_imgfile.specs.Spelling.{avail_bytes}
use Rattle.fd_imgfile.proofs.tables.avail_page.Given as goal

abbrev pub invariant-loop-pair : goal.invariant-loop-pair
invariant-loop-pair l = record {
  put : l.page ≡ flat_map avail_bytes (take l.pair-index l.avail);
  len : length l.page ≡ 16 * l.pair-index;
}
