use Rattle.std.proofs.Common.{arith}
use Rattle.fd_netclient.proofs.Chunks.{chunks_few}
use Rattle.fd_netclient.proofs.datagrams.Datagrams.put.Goals as goal

pub overflow_add-self : goal.overflow_add-self
overflow_add-self c = omega (arith, c.args.self.now.counted, chunks_few c.args.self.now.image.now c.args.self.now.made.valid)
