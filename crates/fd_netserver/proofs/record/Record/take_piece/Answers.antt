use Rattle.fd_netmsg.specs.Message.{meant}
use Rattle.fd_netserver.proofs.Taking.{piece_stands}
use Rattle.fd_netserver.proofs.record.Record.take_piece.Goals as goal

pub returns-clause-stands : goal.returns-clause-stands
returns-clause-stands g c =
    piece_stands c.args.self.now _ (meant c.args.m.now) c.requires.piece c.in_ok-add.ensures.ok c.args.slot c.write_vmcore-done.result c.settle.new.self c.settle.result
    c.settle.ensures.answer c.settle.ensures.state
