use Rattle.std.proofs.Common.{arith}
use Rattle.fd_netclient.proofs.Chunks.{chunks_few, chunks_some}
use Rattle.fd_netclient.proofs.datagrams.Datagrams.chunks.Goals as goal

pub returns-clause-some : goal.returns-clause-some
returns-clause-some c = omega (arith, c.args.self.now.counted, chunks_some c.args.self.now.image.now c.args.self.now.made.valid)

pub returns-clause-few : goal.returns-clause-few
returns-clause-few c = omega (arith, c.args.self.now.counted, chunks_few c.args.self.now.image.now c.args.self.now.made.valid)
