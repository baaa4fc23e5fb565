use Rattle.std.proofs.Common.{refl}
use Rattle.fd_netserver.specs.Turning.{BreaksInput}
use Rattle.fd_netserver.specs.declared.limits.ServeFault.TheVariants.{NoMemory, PortsFault}
use Rattle.fd_netserver.proofs.Going.{breaks_at_answer, breaks_at_reply, goes_on, passed}
use Rattle.fd_netserver.proofs.serving.take_input.Goals as goal

pub returns-clause-ok : goal.returns-clause-ok
returns-clause-ok g c =
    let taken = c.in_ok-reply.ensures in
    goes_on _ _ _ _ _ (record { slot = c.args.slot; peer = c.args.peer; bytes = c.args.bytes.now }) _ c.in_ok-reply.reply taken.turn taken.frame.count taken.cause _ _ taken.stands
    c.note.ensures c.in_ok-respond.ensures.ok

pub returns-in_err-reply-clause-err : goal.returns-in_err-reply-clause-err
returns-in_err-reply-clause-err g c =
    passed c.from_residual.result NoMemory (BreaksInput _ _ _ _ _ _ _ _) c.from_residual.ensures.1
    (breaks_at_reply _ _ _ _ _ _ _ c.in_err-reply.ensures.memory refl)

pub returns-in_err-respond-clause-err : goal.returns-in_err-respond-clause-err
returns-in_err-respond-clause-err g c =
    let taken = c.in_ok-reply.ensures in
    passed c.from_residual-in_err-respond.result PortsFault (BreaksInput _ _ _ _ _ _ _ _) c.from_residual-in_err-respond.ensures.1
    (breaks_at_answer _ _ _ _ _ _ _ c.in_ok-reply.reply taken.turn taken.frame.count taken.cause _ c.note.ensures c.in_err-respond.ensures.err)
