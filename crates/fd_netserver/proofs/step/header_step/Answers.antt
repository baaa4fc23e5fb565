use Rattle.std.proofs.Common.{ap}
use Rattle.fd_netserver.specs.Table.{header_row}
use Rattle.fd_netserver.proofs.Standing.{accepted-other}
use Rattle.fd_netserver.proofs.step.header_step.Goals as goal

pub returns-then-m-ne512-clause-row : goal.returns-then-m-ne512-clause-row
returns-then-m-ne512-clause-row c slot number = ap (header_row slot c.args.m.now.seqno) (accepted-other c.args.m.now.body.now c.if-m-ne512.true)
