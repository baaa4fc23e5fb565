use Rattle.std.proofs.Common.{sym, ◌∙◌}
use Rattle.fd_part.proofs.Marking.{begun_live, begun_nothing, done_clear, done_live}
use Rattle.fd_part.proofs.Progress.{on_err}
use Rattle.fd_part.proofs.marked.mark.Goals as goal

pub returns-in_err-read_part-clause-err : goal.returns-in_err-read_part-clause-err
returns-in_err-read_part-clause-err g c =
    on_err c.from_residual.result (begun_nothing (g.S.Site.seen c.args.site.now).told (g.S.Site.seen c.args.site.now).block _ c.in_err-read_part.ensures.untouched.told)

pub returns-in_err-clear_sector-clause-err : goal.returns-in_err-clear_sector-clause-err
returns-in_err-clear_sector-clause-err g c =
    on_err c.from_residual-in_err-clear_sector.result
    (begun_live (g.S.Site.seen c.args.site.now) (g.S.Site.seen c.read_part.new.self) _ _ c.read_part.new.out c.size.ensures (c.from.ensures ∙ c.block.ensures)
    (g.met.S.Site.told_size _) c.in_ok-read_part.ensures.untouched c.in_ok-read_part.ensures.bytes _ (sym c.if-is_live.ensures) c.in_err-clear_sector.ensures.err)

pub returns-else-is_live-clause-ok : goal.returns-else-is_live-clause-ok
returns-else-is_live-clause-ok g c =
    done_clear (g.S.Site.seen c.args.site.now) (g.S.Site.seen c.read_part.new.self) _ _ c.read_part.new.out c.size.ensures (c.from.ensures ∙ c.block.ensures)
    (g.met.S.Site.told_size _) c.in_ok-read_part.ensures.untouched c.in_ok-read_part.ensures.bytes (sym c.if-is_live.ensures)
