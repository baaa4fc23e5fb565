-- The lengths of the segments so far are added.
use Rattle.std.proofs.Common.{◌≡◌, ◌+◌, ◌*◌, ◌≤◌, ◌^◌, sum}
use Rattle.fd_imgfile.specs.Front.{lengths_in, tables_length, texts_length}
use Rattle.fd_imgfile.proofs.tables.whole_length.Given as goal

abbrev pub invariant-loop-i : goal.invariant-loop-i
invariant-loop-i l = record {
  len : l.len ≡ 112 + tables_length l.front + texts_length l.front + sum (lengths_in l.table l.i);
  bound : l.len ≤ 2 ^ 66 + l.i * 2 ^ 64;
}
