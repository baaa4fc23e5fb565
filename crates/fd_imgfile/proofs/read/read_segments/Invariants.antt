-- The segments so far spell the table and the memory so far.
use Rattle.std.proofs.Common.{◌≡◌, ◌+◌, ◌<◌, ◌^◌, All, length, map, slice_range, take}
use Rattle.std.specs.List.{concat, flat_map, sum_by}
use Rattle.fd_site.specs.Seen.{Untouched}
use Rattle.fd_imgfile.specs.File.{OfFile}
use Rattle.fd_imgfile.specs.Front.{second}
use Rattle.fd_imgfile.specs.Spelling.{avail_bytes, seg_bytes}
use Rattle.fd_imgfile.proofs.read.read_segments.Given as goal

abbrev pub invariant-loop-pair : goal.invariant-loop-pair
invariant-loop-pair g l = record {
  next : l.next ≡ l.at + sum_by second (take l.pair-index l.table);
  places : length l.segs.items ≡ l.pair-index;
  table_so_far : flat_map seg_bytes l.segs.items ≡ flat_map avail_bytes (take l.pair-index l.table);
  memory : OfFile (g.S.Site.seen l.fn.site).told l.name (λ file. concat (map (λ seg. seg.bytes) l.segs.items) ≡ slice_range file l.at l.next);
  sizes : All (λ seg. length seg.bytes < 2 ^ 64) l.segs.items;
  untouched : Untouched (g.S.Site.seen l.fn.site) (g.S.Site.seen l.site);
}
