-- The walk for every address begins in the topmost table.
use Rattle.fd_walk.specs.PageTables.{tables_of}
use Rattle.fd_walk.proofs.Ways.{topmost_table}
use Rattle.fd_walk.proofs.walker.Walker.descend.Goals as goal

pub returns-clause-reached : goal.returns-clause-reached
returns-clause-reached g c =
    let t = tables_of (g.M.Memory.word_at c.args.mem.now) g.E.Entry.kind_of g.row.LEVELS c.args.root in
    c.descend_from.ensures.reached c.args.root
    (topmost_table t c.args.va c.topmost.result.height c.topmost.result.table c.topmost.ensures.height c.topmost.ensures.table)
