use Rattle.std.proofs.Common.{ap, arith}
use Rattle.fd_netserver.specs.Stands.{finishes}
use Rattle.fd_netserver.proofs.Places.{dones-most}
use Rattle.fd_netserver.proofs.serving.note.Goals as goal

pub push-requires : goal.push-requires
push-requires c = (omega arith, omega (arith, dones-most c.args.server.now, c.has_few.ensures, c.requires, ap finishes c.in-Finished.is))
