use Rattle.std.proofs.Common.{sym, Some}
use Rattle.fd_netserver.specs.declared.step.Step.TheVariants as step
use Rattle.fd_netmsg.specs.Message.{meant}
use Rattle.fd_netserver.specs.Table.{session_row}
use Rattle.fd_netserver.proofs.Taking.{at_row, turn_at, turn_by}
use Rattle.fd_netserver.proofs.record.Record.take.Goals as goal

pub returns-in-Writes-clause-turn : goal.returns-in-Writes-clause-turn
returns-in-Writes-clause-turn g c =
    turn_by c.take_piece.result _ _ _ c.args.self.now (λ s. session_row c.args.slot c.args.peer (meant c.args.m.now) (Some s)) c.take_piece.ensures.turn
    (λ s stands. at_row c.args.peer c.args.self.now s c.args.slot (meant c.args.m.now) step.Writes
    (sym c.if-not-same_peer.ensures) stands c.in-Writes.ensures.open_.open_ (c.in-Writes.ensures.row c.args.slot s stands))

pub returns-in-Ends-clause-turn : goal.returns-in-Ends-clause-turn
returns-in-Ends-clause-turn g c =
    turn_at c.take_end.result _ _ _ c.args.self.now (λ s. session_row c.args.slot c.args.peer (meant c.args.m.now) (Some s)) c.take_end.ensures.turn
    (λ s stands. at_row c.args.peer c.args.self.now s c.args.slot (meant c.args.m.now)
    (step.Ends c.in-Ends.header c.in-Ends.parity) (sym c.if-not-same_peer.ensures) stands c.in-Ends.ensures.open_.open_
    (c.in-Ends.ensures.row c.args.slot s stands))
