use Rattle.fd_part.proofs.Marking.{all_written, begun_behind, begun_marking, same_err, whole_behind}
use Rattle.fd_part.specs.declared.outcome.PartFault.TheVariants.{SiteFault}
use Rattle.fd_part.proofs.marked.write_marked.Goals as goal

pub returns-in_err-mark-clause-fault : goal.returns-in_err-mark-clause-fault
returns-in_err-mark-clause-fault g c _ =
    begun_marking _ _ (g.P.Pieces.to_come c.args.pieces.now) c.args.header.now (g.S.Site.seen c.args.site.now).block c.requires.pages c.in_err-mark.ensures.err

pub returns-in-Err-clause-fault : goal.returns-in-Err-clause-fault
returns-in-Err-clause-fault g c is =
    begun_behind (g.S.Site.seen c.args.site.now) (g.S.Site.seen c.mark.new.site) _ (g.P.Pieces.to_come c.args.pieces.now) c.args.header.now
    (g.met.S.Site.told_size _) c.in_ok-mark.ensures.frame c.in_ok-mark.ensures.ok (c.in-Err.ensures.fault (same_err c.in-Err.fault SiteFault is))

pub returns-in-Ok-clause-marked : goal.returns-in-Ok-clause-marked
returns-in-Ok-clause-marked g c =
    whole_behind (g.S.Site.seen c.args.site.now) (g.S.Site.seen c.mark.new.site) _ (g.P.Pieces.to_come c.args.pieces.now) c.args.header.now
    (g.met.S.Site.told_size _) c.in_ok-mark.ensures.frame c.in_ok-mark.ensures.ok
    (all_written c.in-Ok.field-0 c.in-Ok.ensures.whole c.in-Ok.ensures.stopped)
