-- The leaves that are left are still to be marked.
use Rattle.std.proofs.Common.{◌≡◌, length}
use Rattle.std.specs.List.{list_any}
use Rattle.fd_dump.specs.Dumped.{is_under_leaf, is_mapped}
use Rattle.fd_dump.specs.Marks.{marked}
use Rattle.fd_dump.proofs.dumped.mark_mapped.Given as goal

abbrev pub invariant-loop-leaf : goal.invariant-loop-leaf
invariant-loop-leaf g l = record {
  marks : marked l.windows (λ address. list_any (is_under_leaf address) l.leaf-iterator) l.avail l.map ≡ marked l.windows (is_mapped l.image) l.avail l.fn.map;
  bits : length l.map ≡ length l.fn.map;
}
