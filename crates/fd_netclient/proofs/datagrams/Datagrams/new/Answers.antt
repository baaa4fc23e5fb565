use Rattle.std.proofs.Common.{arith}
use Rattle.fd_netclient.proofs.Chunks.{chunks_few}
use Rattle.fd_netclient.proofs.datagrams.Datagrams.new.Goals as goal

pub overflow_cast-result : goal.overflow_cast-result
overflow_cast-result c = omega (arith, c.length.ensures c.args.image.now c.requires, chunks_few c.args.image.now c.requires.valid)
