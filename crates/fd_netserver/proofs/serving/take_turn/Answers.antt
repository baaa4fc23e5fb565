use Rattle.std.proofs.Common.{[], ◌∷◌, ◌∙◌, ap}
use Rattle.fd_site.specs.Trace.{grown, taken_event}
use Rattle.fd_netserver.specs.Turning.{BreaksTurn}
use Rattle.fd_netserver.specs.declared.limits.ServeFault.TheVariants.{PortsFault}
use Rattle.fd_netserver.proofs.Going.{breaks_at_look, breaks_on, if_err, on_ok, passed, turns_on, turns_silent}
use Rattle.fd_netserver.proofs.serving.take_turn.Goals as goal

pub returns-in-Silent-clause-ok : goal.returns-in-Silent-clause-ok
returns-in-Silent-clause-ok g c =
    turns_silent _ _ _ _ _ (c.in_ok-take.ensures.ok ∙ ap (λ e. grown (g.P.Ports.seen c.args.ports.now).told (taken_event e c.take.new.out ∷ [])) c.in-Silent.is)

pub returns-in_err-take-clause-err : goal.returns-in_err-take-clause-err
returns-in_err-take-clause-err g c =
    passed c.from_residual.result PortsFault (BreaksTurn _ _ _ _ _ _ _) c.from_residual.ensures.1 (breaks_at_look _ _ _ _ _ c.in_err-take.ensures.err)

pub returns-in-Got-clause-ok : goal.returns-in-Got-clause-ok
returns-in-Got-clause-ok g c =
    on_ok c.take_input.result _ _ c.take_input.ensures.ok
    (turns_on _ _ _ _ _ _ _ _ _ _ (c.in_ok-take.ensures.ok ∙ ap (λ e. grown (g.P.Ports.seen c.args.ports.now).told (taken_event e c.take.new.out ∷ [])) c.in-Got.is))

pub returns-in-Got-clause-err : goal.returns-in-Got-clause-err
returns-in-Got-clause-err g c =
    if_err c.take_input.result _ (BreaksTurn _ _ _ _ _ _ _) c.take_input.ensures.err
    (λ why. breaks_on _ _ _ _ _ _ _ _ _ why (c.in_ok-take.ensures.ok ∙ ap (λ e. grown (g.P.Ports.seen c.args.ports.now).told (taken_event e c.take.new.out ∷ [])) c.in-Got.is))
