use Rattle.std.proofs.Common.{Some, Err, ap, refl}
use Rattle.fd_cli.specs.Row.{reach}
use Rattle.fd_cli.specs.Rows.Drill.{drill_row}
use Rattle.fd_words.specs.declared.command.Command.TheVariants as command
use Rattle.fd_cli.proofs.Calls.{worked_on_site}
use Rattle.fd_cli.proofs.Drills.{drill_done, drill_ended, drill_on_bad, image_not_drilled}
use Rattle.fd_cli.proofs.Good.{good_of}
use Rattle.fd_cli.proofs.Reading.{framed, unmoved}
use Rattle.fd_cli.proofs.drill_image.drill_image.Goals as goal

pub returns-then-not-good_partition : goal.returns-then-not-good_partition
returns-then-not-good_partition g c link ports =
    c.print_reply.ensures (Some (command.Drill c.args.source.now c.args.stop c.args.address c.args.count)) (reach (g.S.Site.seen c.args.site.now) link ports) _
    (worked_on_site (drill_row c.args.source.now c.args.stop c.args.address c.args.count) _ _ link ports _
    (drill_on_bad c.args.source.now c.args.stop c.args.address c.args.count _ _ _ _ c.size-size.ensures c.block-block.ensures
    (good_of _ _ _ _ _ _ c.size-size.ensures c.block-block.ensures c.good_partition.ensures c.if-not-good_partition.true) c.refuse_partition.ensures.reply
    c.refuse_partition.ensures.no_fault)
    (unmoved _) (λ is. absurd (c.refuse_partition.ensures.no_fault is)) refl)

pub returns-in-Err : goal.returns-in-Err
returns-in-Err g c link ports =
    c.print_reply-in-Err.ensures (Some (command.Drill c.args.source.now c.args.stop c.args.address c.args.count)) (reach (g.S.Site.seen c.args.site.now) link ports) _
    (worked_on_site (drill_row c.args.source.now c.args.stop c.args.address c.args.count) _ _ link ports _
    (image_not_drilled c.args.source.now c.args.stop c.args.address c.args.count _ _ c.in-Err.fault _
    (good_of _ _ _ _ _ _ c.size-size.ensures c.block-block.ensures c.good_partition.ensures c.if-not-good_partition.false) c.in-Err.ensures.given
    c.refuse_image.ensures.answer c.in-Err.ensures.untouched.told)
    (framed _ _ c.in-Err.ensures.untouched) (λ is. c.in-Err.ensures.cause (ap (λ f. Err f) (c.refuse_image.ensures.cause is))) refl)

pub returns-in-Ok-drill : goal.returns-in-Ok-drill
returns-in-Ok-drill g c =
    drill_done c.args.source.now c.args.stop c.args.address c.args.count _ _ _ _ _ c.in-Ok.image c.in-Ok-drill.done _ c.in-Ok.ensures.given
    (good_of _ _ _ _ _ _ c.size-size.ensures c.block-block.ensures c.good_partition.ensures c.if-not-good_partition.false) c.in-Ok.ensures.untouched
    c.drill.ensures.frame c.drill.ensures.count c.in-Ok-drill.ensures.drills c.drilled_status.ensures

pub returns : goal.returns
returns g c =
    drill_ended c.args.source.now c.args.stop c.args.address c.args.count _ _ _ _ _ _ c.in-Ok.image c.in-Err-drill.why _ c.in-Ok.ensures.given
    (good_of _ _ _ _ _ _ c.size-size.ensures c.block-block.ensures c.good_partition.ensures c.if-not-good_partition.false) c.in-Ok.ensures.untouched
    c.drill.ensures.frame c.drill.ensures.count c.print_end.ensures.count c.in-Err-drill.ensures.cause c.in-Err-drill.ensures.sink_cause c.in-Err-drill.ensures.drills
    c.print_end.ensures.ends
