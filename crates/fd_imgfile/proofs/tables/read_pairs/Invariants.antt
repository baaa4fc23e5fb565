-- The pairs so far spell the bytes so far.
use Rattle.std.proofs.Common.{◌≡◌, ◌*◌, length, map, slice_range}
use Rattle.std.specs.List.{flat_map}
use Rattle.fd_imgfile.specs.Front.{lengths_in, second}
use Rattle.fd_imgfile.specs.Spelling.{avail_bytes}
use Rattle.fd_imgfile.proofs.tables.read_pairs.Given as goal

abbrev pub invariant-loop-i : goal.invariant-loop-i
invariant-loop-i l = record {
  count : length l.pairs.items ≡ l.i;
  spelling : flat_map avail_bytes l.pairs.items ≡ slice_range l.bytes 0 (16 * l.i);
  seconds : map second l.pairs.items ≡ lengths_in l.bytes l.i;
}
