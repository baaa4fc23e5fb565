use Rattle.std.proofs.Common.{◌-◌, length, get_or, ◌∙◌, ap, arith}
use Rattle.fd_netmsg.specs.Message.{meant}
use Rattle.fd_netserver.proofs.Places.{port_done, port_cause, port_turn, port_stands, vain_turn, vain_stands}
use Rattle.fd_netserver.proofs.server.Server.take_session.Goals as goal

pub returns-then-index-as_slice-clause-turn : goal.returns-then-index-as_slice-clause-turn
returns-then-index-as_slice-clause-turn g c =
    vain_turn _ c.args.self.now c.args.slot c.from-index.result c.args.peer (meant c.args.m.now) c.from-index.ensures
    (let e = ap length (c.as_slice.ensures.value ∙ c.self.view_is) in let l = c.if-index-as_slice.true in omega arith)

pub returns-then-index-as_slice-clause-stands : goal.returns-then-index-as_slice-clause-stands
returns-then-index-as_slice-clause-stands g c =
    vain_stands c.args.self.now c.args.slot c.from-index.result (meant c.args.m.now) c.from-index.ensures
    (let e = ap length (c.as_slice.ensures.value ∙ c.self.view_is) in let l = c.if-index-as_slice.true in omega arith)

pub returns-clause-turn : goal.returns-clause-turn
returns-clause-turn g c =
    port_turn c.take.result _ _ c.args.self.now c.index_mut.result.now c.args.slot c.from-index.result c.args.peer (meant c.args.m.now) c.from-index.ensures
    (let e = ap length (c.as_slice.ensures.value ∙ c.self.view_is) in let l = c.if-index-as_slice.false in omega arith)
    (c.index_mut.ensures.value ∙ ap (λ l. get_or l (c.from-index.result - 1) c.index_mut.result.now) c.self.view_is)
    c.take.ensures.turn

pub returns-clause-stands : goal.returns-clause-stands
returns-clause-stands g c =
    let e = ap length (c.as_slice.ensures.value ∙ c.self.view_is) in let l = c.if-index-as_slice.false in
    port_stands c.take.result c.self.inside.sessions.items c.args.self.now c.self.view_is c.index_mut.result.now c.take.new.self
    c.args.slot c.from-index.result (meant c.args.m.now) c.from-index.ensures
    (omega (arith, ap length c.self.view_is)) c.index_mut.ensures.value c.take.ensures.stands

pub returns-clause-done : goal.returns-clause-done
returns-clause-done g c =
    let e = ap length (c.as_slice.ensures.value ∙ c.self.view_is) in let l = c.if-index-as_slice.false in
    port_done c.take.result c.self.inside.sessions.items c.args.self.now c.self.view_is c.index_mut.result.now c.take.new.self (c.from-index.result - 1)
    (omega (arith, ap length c.self.view_is)) c.index_mut.ensures.value c.take.ensures.done

pub returns-clause-cause : goal.returns-clause-cause
returns-clause-cause g c =
    let e = ap length (c.as_slice.ensures.value ∙ c.self.view_is) in let l = c.if-index-as_slice.false in
    port_cause c.take.result _ c.self.inside.sessions.items c.args.self.now c.self.view_is c.index_mut.result.now c.args.slot c.from-index.result c.from-index.ensures c.requires.slot
    (omega (arith, ap length c.self.view_is)) c.index_mut.ensures.value c.take.ensures.cause
