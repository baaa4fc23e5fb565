use Rattle.fd_cli.proofs.Sendings.{all_sent, broken_off, none_answered, not_opened}
use Rattle.fd_cli.proofs.netdump.send_plan.Goals as goal

pub returns-in_err-open-clause-sends : goal.returns-in_err-open-clause-sends
returns-in_err-open-clause-sends g c = not_opened c.args.server c.args.image.now _ _ _ c.from_residual.ensures.0 c.in_err-open.ensures.err

pub returns-in-Ok-clause-sends : goal.returns-in-Ok-clause-sends
returns-in-Ok-clause-sends g c =
    all_sent c.args.server c.args.image.now _ _ _ _ c.length.result c.in-Ok.last _ _ c.usual.ensures c.in_ok-open.ensures.ok c.in-Ok.ensures.sends
    (c.length.ensures c.args.image.now c.requires) c.done.ensures.status c.done.ensures.text c.sent_line.ensures

pub returns-in-Err-TimedOut-clause-sends : goal.returns-in-Err-TimedOut-clause-sends
returns-in-Err-TimedOut-clause-sends g c =
    none_answered c.args.server c.args.image.now _ _ _ _ c.in-Err-TimedOut.field-0 c.in-Err-TimedOut.number _ _ c.in-Err-TimedOut.field-0-is
    c.usual.ensures c.in_ok-open.ensures.ok c.in-Err-TimedOut.ensures.sends c.of_line.ensures.status c.of_line.ensures.text c.no_answer_line.ensures

pub returns-in-Err-LinkFault-clause-sends : goal.returns-in-Err-LinkFault-clause-sends
returns-in-Err-LinkFault-clause-sends g c =
    broken_off c.args.server c.args.image.now _ _ _ _ c.in-Err-LinkFault.field-0 c.in-Err-LinkFault.field-0-is c.usual.ensures
    c.in_ok-open.ensures.ok c.in-Err-LinkFault.ensures.sends
