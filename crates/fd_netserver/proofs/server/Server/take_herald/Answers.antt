use Rattle.std.proofs.Common.{length, sym, ◌∙◌, ap, subst, arith}
use Rattle.fd_netmsg.specs.Message.{meant}
use Rattle.fd_site.specs.Contents.{file_of}
use Rattle.fd_netserver.specs.declared.reply.Skip.TheVariants as skip
use Rattle.fd_netserver.specs.Table.{herald_row}
use Rattle.fd_netserver.specs.Stands.{StandsFor}
use Rattle.fd_netserver.proofs.Heralds.{full_row, skip_turn, new_turn}
use Rattle.fd_netserver.proofs.server.Server.take_herald.Goals as goal

pub returns-then-as_slice-ge16-clause-turn : goal.returns-then-as_slice-ge16-clause-turn
returns-then-as_slice-ge16-clause-turn g c ss input stands =
    let e = ap length (c.as_slice-2.ensures.value ∙ c.self.view_is) in
    skip_turn (λ d. herald_row ss (file_of d) c.args.peer (meant c.args.m.now)) _ input skip.Full
    (λ d. full_row c.args.self.now ss (file_of d) c.args.peer (meant c.args.m.now) stands c.if-m-ne-HERALD.false
    (c.in_default.ensures ss (subst (λ l. StandsFor l ss) (sym (c.as_slice.ensures.value ∙ c.self.view_is)) stands)) (omega (arith, c.if-as_slice-ge16.true)))

pub returns-clause-turn : goal.returns-clause-turn
returns-clause-turn g c =
    let e = ap length (c.as_slice-2.ensures.value ∙ c.self.view_is) in
    new_turn c.open.result _ _ c.args.self.now c.args.peer (meant c.args.m.now) c.if-m-ne-HERALD.false
    (λ ss stands. c.in_default.ensures ss (subst (λ l. StandsFor l ss) (sym (c.as_slice.ensures.value ∙ c.self.view_is)) stands)) (omega (arith, c.if-as_slice-ge16.false)) c.open.ensures.turn
