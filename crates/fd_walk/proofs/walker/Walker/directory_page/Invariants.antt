-- The page holds the entries so far.
use Rattle.std.proofs.Common.{◌≡◌, ◌*◌, take, length}
use Rattle.fd_walk.specs.PageTables.{tables_of}
use Rattle.fd_walk.specs.Directory.{directory_form, directory_bytes}
use Rattle.fd_walk.proofs.walker.Walker.directory_page.Given as goal

abbrev pub invariant-loop-unit : goal.invariant-loop-unit
invariant-loop-unit g l =
    let tables = tables_of (g.M.Memory.word_at l.mem) g.E.Entry.kind_of g.row.LEVELS l.root in
    let form = directory_form g.E.Entry.DIRECTORY_HEIGHT g.E.Entry.expansion in
    record { long : length l.out ≡ 4096; so_far : take (8 * l.unit) l.out ≡ directory_bytes tables form l.first l.unit }
