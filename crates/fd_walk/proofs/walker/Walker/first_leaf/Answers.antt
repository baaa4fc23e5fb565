-- What the walk ended at is all that the first part of the range gives.
use Rattle.std.proofs.Common.{◌∙◌, ◌∷◌, ◌+◌, ◌-◌, ap, sym, arith}
use Rattle.fd_walk.specs.PageTables.{tables_of}
use Rattle.fd_walk.specs.Ranges.{leaves_in, leaves_in-none}
use Rattle.fd_walk.proofs.RangeParts.{part_at, leaves_in-leaf, leaves_in-no_leaf, goes_on}
use Rattle.fd_walk.proofs.walker.Walker.first_leaf.Goals as goal

pub returns-in-Some-clause-leaves : goal.returns-in-Some-clause-leaves
returns-in-Some-clause-leaves g c =
    let t = tables_of (g.M.Memory.word_at c.args.mem.now) g.E.Entry.kind_of g.row.LEVELS c.args.root in
    let at = c.args.rest.at in
    let left = c.args.rest.left in
    let part = c.part-part.result in
    let known = c.part-part.ensures in
    let found = c.in-Some.found in
    leaves_in-leaf t at left part.height known.reached.0 found.bits found.address part.bytes part.entry known.reached.1 c.requires.some
    known.bytes c.in-Some.ensures.leaf
    ∙ ap (λ size. part_at at size part.bytes found.bits found.address ∷ leaves_in t (at + part.bytes) (left - part.bytes))
    (sym c.bytes_under.ensures)
    ∙ ap (λ rest. part_at at c.bytes_under.result part.bytes found.bits found.address ∷ rest)
    (goes_on (leaves_in t) (leaves_in-none t) (at + part.bytes) (left - part.bytes) part.rest.at part.rest.left
    (omega (arith, c.requires.rest.within)) known.at known.left)

pub returns-in-None-clause-leaves : goal.returns-in-None-clause-leaves
returns-in-None-clause-leaves g c =
    let t = tables_of (g.M.Memory.word_at c.args.mem.now) g.E.Entry.kind_of g.row.LEVELS c.args.root in
    let at = c.args.rest.at in
    let left = c.args.rest.left in
    let part = c.part-part.result in
    let known = c.part-part.ensures in
    leaves_in-no_leaf t at left part.height known.reached.0 part.bytes part.entry known.reached.1 c.requires.some known.bytes
    c.in-None.ensures.leaf
    ∙ goes_on (leaves_in t) (leaves_in-none t) (at + part.bytes) (left - part.bytes) part.rest.at part.rest.left
    (omega (arith, c.requires.rest.within)) known.at known.left
    ∙ c.past_absent.ensures.leaves
