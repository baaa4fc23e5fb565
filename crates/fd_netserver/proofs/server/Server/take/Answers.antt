use Rattle.fd_netmsg.specs.Message.{meant}
use Rattle.fd_netserver.proofs.Turns.{no_message, herald_turn, session_turn, session_stands}
use Rattle.fd_netserver.proofs.server.Server.take.Goals as goal

pub returns-in-None-clause-turn : goal.returns-in-None-clause-turn
returns-in-None-clause-turn g c = no_message _ c.args.self.now (record { slot = c.args.slot; peer = c.args.peer; bytes = c.args.bytes.now }) c.in-None.ensures

pub returns-then-slot-eq0-clause-turn : goal.returns-then-slot-eq0-clause-turn
returns-then-slot-eq0-clause-turn g c =
    herald_turn c.take_herald.result _ _ c.args.self.now (record { slot = c.args.slot; peer = c.args.peer; bytes = c.args.bytes.now }) (meant c.in-Some.m) c.in-Some.ensures c.if-slot-eq0.true
    c.take_herald.ensures.turn

pub returns-else-slot-eq0-clause-turn : goal.returns-else-slot-eq0-clause-turn
returns-else-slot-eq0-clause-turn g c =
    session_turn c.take_session.result _ _ c.args.self.now (record { slot = c.args.slot; peer = c.args.peer; bytes = c.args.bytes.now }) (meant c.in-Some.m) c.in-Some.ensures c.if-slot-eq0.false
    c.take_session.ensures.turn

pub returns-else-slot-eq0-clause-stands : goal.returns-else-slot-eq0-clause-stands
returns-else-slot-eq0-clause-stands g c =
    session_stands c.take_session.result c.args.self.now _ (record { slot = c.args.slot; peer = c.args.peer; bytes = c.args.bytes.now }) (meant c.in-Some.m) c.in-Some.ensures c.if-slot-eq0.false
    c.take_session.ensures.own c.take_session.ensures.stands
