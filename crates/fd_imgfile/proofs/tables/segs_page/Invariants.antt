-- The table so far.
use Rattle.std.proofs.Common.{◌≡◌, ◌*◌, length, take}
use Rattle.std.specs.List.{flat_map}
use Rattle.fd_imgfile.specs.Spelling.{seg_bytes}
use Rattle.fd_imgfile.proofs.tables.segs_page.Given as goal

abbrev pub invariant-loop-seg : goal.invariant-loop-seg
invariant-loop-seg l = record {
  put : l.page ≡ flat_map seg_bytes (take l.seg-index l.segs);
  len : length l.page ≡ 16 * l.seg-index;
}
