-- The walk starts in the given table, and goes on in the table that an entry names.
use Rattle.std.proofs.Common.{◌∙◌, ◌+◌, ◌-◌, ◌*◌, sym, ap, arith}
use Rattle.fd_walk.specs.PageTables.{tables_of}
use Rattle.fd_walk.proofs.Spans.{way_in_table}
use Rattle.fd_walk.proofs.Ways.{way_down}
use Rattle.fd_walk.proofs.walker.Walker.descend_from.Goals as goal

pub loop-height-init : goal.loop-height-init
loop-height-init g c = record {
  low = c.requires.low;
  high = c.requires.high;
  way = λ root begins.
      let t = tables_of (g.M.Memory.word_at c.args.mem.now) g.E.Entry.kind_of g.row.LEVELS root in
      way_in_table t c.args.va c.args.place.height c.args.place.table c.word_near-entry.result begins
      (c.word_near-entry.ensures ∙ ap (λ index. g.M.Memory.word_at c.args.mem.now (c.args.place.table + 8 * index)) c.index_at.ensures);
  aligned = c.requires.aligned;
  room = c.requires.room;
}

pub loop-height-preserved : goal.loop-height-preserved
loop-height-preserved g c = record {
  low = omega arith;
  high = omega arith;
  way = λ root begins.
      let t = tables_of (g.M.Memory.word_at c.args.mem.now) g.E.Entry.kind_of g.row.LEVELS root in
      way_down t c.args.va c.loop-height.height c.loop-height.table c.in-Table.below (c.loop-height.height - 1)
      c.loop-height.entry c.word_near-entry-in-Table.result (c.loop-height.invariant.way root begins)
      (sym c.in-Table.ensures.kind) (omega arith)
      (c.word_near-entry-in-Table.ensures
      ∙ ap (λ index. g.M.Memory.word_at c.args.mem.now (c.in-Table.below + 8 * index)) c.index_at-in-Table.ensures);
  aligned = c.in-Table.ensures.placed.1.aligned;
  room = omega (arith, c.in-Table.ensures.placed.1.short);
}
