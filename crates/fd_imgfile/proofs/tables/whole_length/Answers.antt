-- One more length is added.
use Rattle.std.proofs.Common.{arith}
use Rattle.fd_imgfile.proofs.Lengths.{sum-more}
use Rattle.fd_imgfile.proofs.tables.whole_length.Goals as goal

pub loop-i-preserved : goal.loop-i-preserved
loop-i-preserved c = grind (arith, sum-more c.args.table.now c.loop-i.i)
