use Rattle.fd_part.specs.declared.outcome.PartFault.TheVariants.{SiteFault}
use Rattle.fd_cli.proofs.Dumps.{all_written, marked_begun, marked_over, on_lacking, on_ok, plain_begun, plain_over, same_fault}
use Rattle.fd_cli.proofs.dump_image.write_over.Goals as goal

pub returns-then-mark-clause-whole : goal.returns-then-mark-clause-whole
returns-then-mark-clause-whole g c = on_ok c.write_marked.result _ _ (marked_over c.args.mark (g.S.Site.seen c.args.site.now) _ _ _ c.if-mark.true) c.write_marked.ensures.marked

pub returns-then-mark-clause-fault : goal.returns-then-mark-clause-fault
returns-then-mark-clause-fault g c is = marked_begun c.args.mark (g.S.Site.seen c.args.site.now) _ _ _ c.if-mark.true (c.write_marked.ensures.fault is)

pub returns-in-Ok-clause-whole : goal.returns-in-Ok-clause-whole
returns-in-Ok-clause-whole g c =
    plain_over c.args.mark (g.S.Site.seen c.args.site.now) _ _ _ c.if-mark.false (all_written c.in-Ok.field-0 _ c.in-Ok.ensures.whole c.in-Ok.ensures.stopped)

pub returns-in-Err-clause-no_room : goal.returns-in-Err-clause-no_room
returns-in-Err-clause-no_room g c = on_lacking c.in-Err.fault _ c.in-Err.ensures.no_room

pub returns-in-Err-clause-untouched : goal.returns-in-Err-clause-untouched
returns-in-Err-clause-untouched g c = on_lacking c.in-Err.fault _ c.in-Err.ensures.untouched

pub returns-in-Err-clause-fault : goal.returns-in-Err-clause-fault
returns-in-Err-clause-fault g c is =
    plain_begun c.args.mark (g.S.Site.seen c.args.site.now) _ _ _ c.if-mark.false (c.in-Err.ensures.fault (same_fault c.in-Err.fault SiteFault is))
