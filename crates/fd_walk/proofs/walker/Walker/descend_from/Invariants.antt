-- The walk goes down one height at a time, from entry to entry.
use Rattle.std.proofs.Common.{ℕ, ◌≤◌, ◌-◌, ◌+◌, ◌%◌, ◌^◌, ◌≡◌}
use Rattle.fd_walk.specs.PageTables.{tables_of}
use Rattle.fd_walk.specs.Descent.{IsOnWay, IsInTable}
use Rattle.fd_walk.proofs.walker.Walker.descend_from.Given as goal

abbrev pub invariant-loop-height : goal.invariant-loop-height
invariant-loop-height g l = record {
  low : l.lowest ≤ l.height;
  high : l.height ≤ 3;
  way : (root : ℕ) → let t = tables_of (g.M.Memory.word_at l.mem) g.E.Entry.kind_of g.row.LEVELS root in
      IsInTable t l.va l.fn.place.height l.fn.place.table → IsOnWay t l.va l.height l.table l.entry;
  aligned : l.table % 4096 ≡ 0;
  room : l.table + 4096 ≤ 2 ^ 64;
}

abbrev pub decreases-loop-height : goal.decreases-loop-height
decreases-loop-height g l = l.height - l.lowest
