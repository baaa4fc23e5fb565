use Rattle.fd_netserver.proofs.Going.{opened_only}
use Rattle.fd_netserver.proofs.serving.respond.Goals as goal

pub returns-in_ok-open_slot-in-Opened-clause-err : goal.returns-in_ok-open_slot-in-Opened-clause-err
returns-in_ok-open_slot-in-Opened-clause-err g c =
    opened_only c.answer.result _ _ _ c.args.peer c.args.reply c.in-Opened.slot c.in-Opened.seqno c.in-Opened.number c.in-Opened.is c.in_ok-open_slot-in-Opened.ensures.ok c.answer.ensures.err
