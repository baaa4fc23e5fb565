-- Entry by entry the page becomes the directory's.
use Rattle.std.proofs.Common.{◌∙◌, ◌+◌, ◌*◌, ap, sym, subst, arith}
use Rattle.fd_pte.specs.Entry.{bytes_under}
use Rattle.fd_walk.specs.PageTables.{tables_of}
use Rattle.fd_walk.specs.Descent.{IsReached}
use Rattle.fd_walk.specs.Directory.{directory_form, directory_entry, directory_bytes}
use Rattle.fd_walk.proofs.DirectoryEntries.{page_grows, page_whole, directory_bytes-none}
use Rattle.fd_walk.proofs.Spans.{same_page}
use Rattle.fd_walk.proofs.walker.Walker.directory_page.Goals as goal

pub loop-unit-init : goal.loop-unit-init
loop-unit-init g c =
    let t = tables_of (g.M.Memory.word_at c.args.mem.now) g.E.Entry.kind_of g.row.LEVELS c.args.root in
    let form = directory_form g.E.Entry.DIRECTORY_HEIGHT g.E.Entry.expansion in
    let first = c.args.kernbase + c.args.index * (512 * c.bytes_under-size.result) in
    record { long = c.told-out; so_far = sym (directory_bytes-none t form first) }

pub loop-unit-preserved : goal.loop-unit-preserved
loop-unit-preserved g c =
    let t = tables_of (g.M.Memory.word_at c.args.mem.now) g.E.Entry.kind_of g.row.LEVELS c.args.root in
    let form = directory_form g.E.Entry.DIRECTORY_HEIGHT g.E.Entry.expansion in
    let first = c.args.kernbase + c.args.index * (512 * c.bytes_under-size.result) in
    let size = c.bytes_under-size.ensures ∙ ap bytes_under c.DIRECTORY_HEIGHT.ensures in
    let reached = c.descend-reached.result in
    let walk = subst (λ height. IsReached t height first reached.height reached.table reached.entry) c.DIRECTORY_HEIGHT-2.ensures
    c.descend-reached.ensures.reached in
    let same = same_page c.args.kernbase c.args.index c.loop-unit.unit c.bytes_under-size.result g.E.Entry.DIRECTORY_HEIGHT size
    c.requires.window (omega arith) in
    record {
      long = c.put_entry.array_long;
      so_far = page_grows t form first c.loop-unit.unit c.directory_entry-entry.result c.loop-unit.out c.put_entry.new.out
          c.loop-unit.invariant.so_far c.put_entry.ensures
          (c.directory_entry-entry.ensures c.args.root first walk same
          ∙ ap (λ s. directory_entry t form (first + c.loop-unit.unit * s)) size);
    }

pub returns : goal.returns
returns g c =
    let t = tables_of (g.M.Memory.word_at c.args.mem.now) g.E.Entry.kind_of g.row.LEVELS c.args.root in
    let form = directory_form g.E.Entry.DIRECTORY_HEIGHT g.E.Entry.expansion in
    let size = c.bytes_under-size.ensures ∙ ap bytes_under c.DIRECTORY_HEIGHT.ensures in
    page_whole t form (c.args.kernbase + c.args.index * (512 * c.bytes_under-size.result)) c.loop-unit.unit c.loop-unit.out
    (omega arith) c.loop-unit.invariant.long c.loop-unit.invariant.so_far
    ∙ ap (λ s. directory_bytes t form (c.args.kernbase + c.args.index * (512 * s)) 512) size
