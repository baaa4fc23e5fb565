-- The absent entries have nothing, and the walk goes on in their table or from the topmost.
use Rattle.std.proofs.Common.{◌∙◌, ℕ, ◌+◌, ◌-◌, ◌*◌, ◌%◌, ◌^◌, min, refl, ap, arith}
use Rattle.fd_walk.specs.PageTables.{tables_of}
use Rattle.fd_walk.specs.Ranges.{leaves_in, last_tables_in, leaves_in-none, last_tables_in-none}
use Rattle.fd_walk.proofs.Rests.{IsRest-after}
use Rattle.fd_walk.proofs.RangeParts.{goes_on}
use Rattle.fd_walk.proofs.AbsentEntries.{leaves_in-absent, last_tables_in-absent}
use Rattle.fd_walk.proofs.walker.Walker.past_absent.Goals as goal

pub returns-clause-rest : goal.returns-clause-rest
returns-clause-rest g c =
    let t = tables_of (g.M.Memory.word_at c.args.mem.now) g.E.Entry.kind_of g.row.LEVELS c.args.root in
    let before = c.requires.rest in
    let rest = c.args.rest in
    IsRest-after t c.args.lowest rest.at ((rest.at + c.min-bytes.result) % 2 ^ 64) (rest.left - c.min-bytes.result)
    rest.place c.place_after.result _ before.aligned c.ranges.root.fits before.some_levels before.most_levels c.requires.low
    (omega (arith, before.within)) before.table before.table_aligned before.low before.room c.place_after.ensures

pub returns-clause-leaves : goal.returns-clause-leaves
returns-clause-leaves g c =
    let t = tables_of (g.M.Memory.word_at c.args.mem.now) g.E.Entry.kind_of g.row.LEVELS c.args.root in
    let rest = c.args.rest in
    let place = rest.place in
    let passed = c.past_absent_entries-end in
    let count : ℕ = passed.result - c.index_at-first.result in
    let index = c.index_at-first.ensures in
    let bytes : ℕ = c.min-bytes.result in
    leaves_in-absent t place.height place.table count rest.at rest.left c.requires.rest.table (omega (arith, passed.ensures.to))
    (λ k from to. passed.ensures.absent k (omega arith) (omega arith)) bytes
    (c.min-bytes.ensures ∙ ap (λ size. min rest.left (count * size - rest.at % size)) c.bytes_under-size.ensures)
    ∙ goes_on (leaves_in t) (leaves_in-none t) (rest.at + bytes) (rest.left - bytes) ((rest.at + bytes) % 2 ^ 64) (rest.left - bytes)
    (omega (arith, c.requires.rest.within)) refl refl

pub returns-clause-tables : goal.returns-clause-tables
returns-clause-tables g c one =
    let t = tables_of (g.M.Memory.word_at c.args.mem.now) g.E.Entry.kind_of g.row.LEVELS c.args.root in
    let rest = c.args.rest in
    let place = rest.place in
    let passed = c.past_absent_entries-end in
    let count : ℕ = passed.result - c.index_at-first.result in
    let index = c.index_at-first.ensures in
    let bytes : ℕ = c.min-bytes.result in
    last_tables_in-absent t place.height place.table count rest.at rest.left (omega (arith, c.requires.rest.low)) c.requires.rest.table (omega (arith, passed.ensures.to))
    (λ k from to. passed.ensures.absent k (omega arith) (omega arith)) bytes
    (c.min-bytes.ensures ∙ ap (λ size. min rest.left (count * size - rest.at % size)) c.bytes_under-size.ensures)
    ∙ goes_on (last_tables_in t) (last_tables_in-none t) (rest.at + bytes) (rest.left - bytes) ((rest.at + bytes) % 2 ^ 64) (rest.left - bytes)
    (omega (arith, c.requires.rest.within)) refl refl
