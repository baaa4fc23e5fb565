-- The tables that are left are still to be marked.
use Rattle.std.proofs.Common.{◌≡◌, length}
use Rattle.std.specs.Prelude.{◌==◌}
use Rattle.std.specs.List.{list_any}
use Rattle.fd_dump.specs.Dumped.{is_last_table}
use Rattle.fd_dump.specs.Marks.{marked}
use Rattle.fd_dump.proofs.dumped.mark_last_tables.Given as goal

abbrev pub invariant-loop-table : goal.invariant-loop-table
invariant-loop-table g l = record {
  marks : marked l.windows (λ address. list_any (λ table. table == address) l.table-iterator) l.avail l.map ≡ marked l.windows (is_last_table l.image) l.avail l.fn.map;
  bits : length l.map ≡ length l.fn.map;
}
