-- The walk for the first address that is left goes on in a table that it comes to.
use Rattle.std.proofs.Common.{◌+◌, ◌-◌, ◌%◌, ◌^◌, arith}
use Rattle.fd_walk.specs.PageTables.{tables_of}
use Rattle.fd_walk.proofs.Rests.{IsRest-after}
use Rattle.fd_walk.proofs.walker.Walker.part.Goals as goal

pub returns-clause-rest : goal.returns-clause-rest
returns-clause-rest g c =
    let t = tables_of (g.M.Memory.word_at c.args.mem.now) g.E.Entry.kind_of g.row.LEVELS c.args.root in
    let before = c.requires.rest in
    let walk = c.descend_from-reached in
    let reached = walk.ensures.reached c.args.root before.table in
    IsRest-after t c.args.lowest c.args.rest.at ((c.args.rest.at + c.min-bytes.result) % 2 ^ 64) (c.args.rest.left - c.min-bytes.result)
    (record { height = walk.result.height; table = walk.result.table; near = walk.result.near }) c.place_after.result walk.result.entry
    before.aligned c.ranges.root.fits before.some_levels before.most_levels c.requires.low
    (omega (arith, before.within)) reached.way walk.ensures.aligned reached.low walk.ensures.room c.place_after.ensures
