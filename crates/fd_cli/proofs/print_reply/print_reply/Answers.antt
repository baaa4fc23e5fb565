use Rattle.std.proofs.Common.{ap, ◌∙◌}
use Rattle.fd_site.specs.Trace.{grown}
use Rattle.fd_cli.specs.Rows.{row_of}
use Rattle.fd_cli.proofs.Calls.{answered, by_reply, ended_so, unprinted}
use Rattle.fd_cli.proofs.Sound.{may_be_silent}
use Rattle.fd_cli.proofs.print_reply.print_reply.Goals as goal

pub returns-in-Err : goal.returns-in-Err
returns-in-Err g c command old new worked = ended_so (row_of command) _ _ c.in-Err.trouble _ c.status.ensures (may_be_silent command _) (by_reply _ _ _ _ _ c.in-Err.is worked)

pub returns-in-Ok-put : goal.returns-in-Ok-put
returns-in-Ok-put g c command old new worked =
    answered (row_of command) _ _ c.in-Ok.reply (by_reply _ _ _ _ _ c.in-Ok.is worked)
    (c.in-Ok-put.ensures.ok ∙ ap (grown (g.O.Sink.seen c.args.out.now).told) c.as_slice.ensures) c.put.ensures.count

pub returns : goal.returns
returns g c command old new worked =
    unprinted (row_of command) _ _ c.in-Ok.reply (by_reply _ _ _ _ _ c.in-Ok.is worked) _ c.as_slice.ensures c.in-Err-put.ensures.err c.put.ensures.count
    c.in-Err-put.ensures.cause
