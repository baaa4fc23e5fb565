-- The walk ends in the table that has the entry, or at the leaf that is expanded.
use Rattle.std.proofs.Common.{◌∙◌, ℕ, ◌+◌, ◌*◌, ◌%◌, ◌/◌, ap, arith}
use Rattle.fd_pte.specs.Entry.{bytes_under}
use Rattle.fd_walk.specs.PageTables.{tables_of, index_at}
use Rattle.fd_walk.specs.Directory.{directory_form}
use Rattle.fd_walk.proofs.DirectoryEntries.{entry_stands, leaf_stands, unit_index_within}
use Rattle.fd_walk.proofs.walker.Walker.directory_entry.Goals as goal

pub returns-then-reached-DIRECTORY_HEIGHT : goal.returns-then-reached-DIRECTORY_HEIGHT
returns-then-reached-DIRECTORY_HEIGHT g c root walked reached same =
    let t = tables_of (g.M.Memory.word_at c.args.mem.now) g.E.Entry.kind_of g.row.LEVELS root in
    let form = directory_form g.E.Entry.DIRECTORY_HEIGHT g.E.Entry.expansion in
    let table = c.args.reached.table in
    let index = c.index_at.ensures ∙ ap (λ height. index_at height c.args.va) c.DIRECTORY_HEIGHT-then-reached-DIRECTORY_HEIGHT.ensures in
    c.unwrap_or.ensures
    ∙ entry_stands t form walked c.args.va c.args.reached.height table c.args.reached.entry c.word_near.result
    (c.if-reached-DIRECTORY_HEIGHT.true ∙ c.DIRECTORY_HEIGHT.ensures) reached.way same
    (c.word_near.ensures ∙ ap (λ i. t.word_at (table + 8 * i)) index)

pub expand-requires-clause-index : goal.expand-requires-clause-index
expand-requires-clause-index g c =
    unit_index_within c.args.va g.E.Entry.DIRECTORY_HEIGHT c.args.reached.height c.bytes_under-in-Some.result c.bytes_under.result
    (c.bytes_under-in-Some.ensures ∙ ap bytes_under c.DIRECTORY_HEIGHT-in-Some.ensures) c.bytes_under.ensures (omega arith)

pub returns-in-Some : goal.returns-in-Some
returns-in-Some g c root walked reached same =
    let t = tables_of (g.M.Memory.word_at c.args.mem.now) g.E.Entry.kind_of g.row.LEVELS root in
    let form = directory_form g.E.Entry.DIRECTORY_HEIGHT g.E.Entry.expansion in
    let height = c.args.reached.height in
    let expanded = λ (large : ℕ) (small : ℕ). g.E.Entry.expansion c.in-Some.leaf.bits height (c.args.va % large / small) in
    c.expand.ensures
    ∙ ap (λ large. expanded large c.bytes_under-in-Some.result) c.bytes_under.ensures
    ∙ ap (λ small. expanded (bytes_under height) small)
    (c.bytes_under-in-Some.ensures ∙ ap bytes_under c.DIRECTORY_HEIGHT-in-Some.ensures)
    ∙ leaf_stands t form walked c.args.va height c.args.reached.table c.args.reached.entry _ reached (omega arith) same
    c.in-Some.ensures.leaf

pub returns-in-None : goal.returns-in-None
returns-in-None g c root walked reached same =
    let t = tables_of (g.M.Memory.word_at c.args.mem.now) g.E.Entry.kind_of g.row.LEVELS root in
    let form = directory_form g.E.Entry.DIRECTORY_HEIGHT g.E.Entry.expansion in
    leaf_stands t form walked c.args.va c.args.reached.height c.args.reached.table c.args.reached.entry _ reached (omega arith) same
    c.in-None.ensures.leaf
