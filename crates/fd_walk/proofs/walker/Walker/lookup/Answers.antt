-- What the walk came to is the leaf of the address, or shows that it has none.
use Rattle.std.proofs.Common.{◌∙◌, ◌-◌, ◌%◌, sym, ap}
use Rattle.fd_walk.specs.declared.step.Step.TheVariants.{Leaf}
use Rattle.fd_walk.specs.PageTables.{tables_of}
use Rattle.fd_walk.specs.Step.{step_of}
use Rattle.fd_walk.proofs.Ways.{step_at-told}
use Rattle.fd_walk.proofs.walker.Walker.lookup.Goals as goal

pub returns-in-Some : goal.returns-in-Some
returns-in-Some g c =
    let t = tables_of (g.M.Memory.word_at c.args.mem.now) g.E.Entry.kind_of g.row.LEVELS c.args.root in
    let walk = c.descend-reached in
    sym (step_at-told t c.args.va walk.result.height walk.result.table walk.result.entry c.then_some-table.result
    c.requires.some_levels walk.ensures.reached c.then_some-table.ensures
    ∙ ap (λ leaf. step_of c.args.va c.then_some-table.result leaf) c.in-Some.ensures.leaf
    ∙ ap (λ size. Leaf (c.args.va - c.args.va % size) c.in-Some.leaf.address size c.in-Some.leaf.bits c.then_some-table.result)
    (sym c.bytes_under-size.ensures))

pub returns-in-None : goal.returns-in-None
returns-in-None g c =
    let t = tables_of (g.M.Memory.word_at c.args.mem.now) g.E.Entry.kind_of g.row.LEVELS c.args.root in
    let walk = c.descend-reached in
    sym (step_at-told t c.args.va walk.result.height walk.result.table walk.result.entry c.then_some-table.result
    c.requires.some_levels walk.ensures.reached c.then_some-table.ensures
    ∙ ap (λ leaf. step_of c.args.va c.then_some-table.result leaf) c.in-None.ensures.leaf)
