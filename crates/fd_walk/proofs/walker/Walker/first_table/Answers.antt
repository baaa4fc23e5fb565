-- What the walk ended at is all that the first part of the range gives.
use Rattle.std.proofs.Common.{◌∙◌, ◌∷◌, ◌+◌, ◌-◌, Some, None, refl, ap, arith}
use Rattle.fd_walk.specs.PageTables.{tables_of}
use Rattle.fd_walk.specs.Leaf.{table_of_kind}
use Rattle.fd_walk.specs.Ranges.{last_tables_in, last_tables_in-none}
use Rattle.fd_walk.proofs.RangeParts.{last_tables_in-parts, goes_on}
use Rattle.fd_walk.proofs.walker.Walker.first_table.Goals as goal

pub returns-in-Some-clause-tables : goal.returns-in-Some-clause-tables
returns-in-Some-clause-tables g c =
    let t = tables_of (g.M.Memory.word_at c.args.mem.now) g.E.Entry.kind_of g.row.LEVELS c.args.root in
    let at = c.args.rest.at in
    let left = c.args.rest.left in
    let part = c.part-part.result in
    let known = c.part-part.ensures in
    last_tables_in-parts t at left part.height known.reached.0 part.bytes part.entry (Some c.in-Some.table) known.reached.1
    c.requires.some known.bytes (c.in-Some.ensures ∙ ap table_of_kind c.kind.ensures.kind)
    ∙ ap (λ rest. c.in-Some.table ∷ rest)
    (goes_on (last_tables_in t) (last_tables_in-none t) (at + part.bytes) (left - part.bytes) part.rest.at part.rest.left
    (omega (arith, c.requires.rest.within)) known.at known.left)

pub returns-in-None-clause-tables : goal.returns-in-None-clause-tables
returns-in-None-clause-tables g c =
    let t = tables_of (g.M.Memory.word_at c.args.mem.now) g.E.Entry.kind_of g.row.LEVELS c.args.root in
    let at = c.args.rest.at in
    let left = c.args.rest.left in
    let part = c.part-part.result in
    let known = c.part-part.ensures in
    last_tables_in-parts t at left part.height known.reached.0 part.bytes part.entry None known.reached.1
    c.requires.some known.bytes (c.in-None.ensures ∙ ap table_of_kind c.kind.ensures.kind)
    ∙ goes_on (last_tables_in t) (last_tables_in-none t) (at + part.bytes) (left - part.bytes) part.rest.at part.rest.left
    (omega (arith, c.requires.rest.within)) known.at known.left
    ∙ c.past_absent.ensures.tables refl
