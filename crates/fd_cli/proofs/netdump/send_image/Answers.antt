use Rattle.fd_cli.proofs.Sendings.{image_not_sent, image_sent, image_unsent, plan_starved}
use Rattle.fd_cli.proofs.netdump.send_image.Goals as goal

pub returns-in-Err : goal.returns-in-Err
returns-in-Err g c ports =
    image_not_sent _ _ _ ports c.args.source.now c.args.server c.in-Err.fault _ c.in-Err.ensures.given c.refuse_image.ensures.answer
    c.in-Err.ensures.untouched c.refuse_image.ensures.cause c.in-Err.ensures.cause

pub returns-in-Ok-send_plan : goal.returns-in-Ok-send_plan
returns-in-Ok-send_plan g c ports =
    image_sent _ _ _ _ ports c.args.source.now c.args.server c.in-Ok.image _ c.in-Ok.ensures.given c.in-Ok.ensures.untouched
    c.in-Ok-send_plan.ensures.sends c.in-Ok-send_plan.ensures.count

pub returns : goal.returns
returns g c ports =
    image_unsent _ _ _ _ ports c.args.source.now c.args.server c.in-Ok.image c.in-Ok.ensures.given c.in-Ok.ensures.untouched
    c.in-Err-send_plan.ensures.sends c.in-Err-send_plan.ensures.count c.in-Err-send_plan.ensures.cause

pub returns-in_err-plan : goal.returns-in_err-plan
returns-in_err-plan g c ports =
    plan_starved _ _ _ ports c.args.source.now c.args.server _ c.from_residual.ensures.1 c.in-Ok.ensures.untouched
