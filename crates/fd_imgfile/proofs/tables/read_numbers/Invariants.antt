-- The numbers so far spell the bytes so far.
use Rattle.std.proofs.Common.{◌≡◌, ◌*◌, length, slice_range}
use Rattle.std.specs.List.{flat_map}
use Rattle.fd_imgfile.specs.Spelling.{u64}
use Rattle.fd_imgfile.proofs.tables.read_numbers.Given as goal

abbrev pub invariant-loop-i : goal.invariant-loop-i
invariant-loop-i l = record {
  count : length l.numbers.items ≡ l.i;
  spelling : flat_map u64 l.numbers.items ≡ slice_range l.bytes 0 (8 * l.i);
}
