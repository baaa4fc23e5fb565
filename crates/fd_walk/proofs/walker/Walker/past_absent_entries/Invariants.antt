-- The entries so far are absent.
use Rattle.std.proofs.Common.{◌≡◌, ℕ, ◌+◌, ◌-◌, ◌*◌, ◌<◌, ◌≤◌}
use Rattle.fd_pte.specs.declared.entry.Kind.TheVariants.{Absent}
use Rattle.fd_walk.specs.PageTables.{kind_of_entry}
use Rattle.fd_walk.proofs.walker.Walker.past_absent_entries.Given as goal

abbrev pub invariant-loop-index : goal.invariant-loop-index
invariant-loop-index g l = record {
  from : l.first ≤ l.index;
  to : l.index ≤ 512;
  absent : (k : ℕ) → l.first ≤ k → k < l.index
      → kind_of_entry g.E.Entry.kind_of l.place.height (g.M.Memory.word_at l.mem (l.place.table + 8 * k)) ≡ Absent;
}

abbrev pub decreases-loop-index : goal.decreases-loop-index
decreases-loop-index g l = 512 - l.index
