-- The pages from the first to the last that the leaf maps and the direct map reaches.
use Rattle.std.proofs.Common.{◌∙◌, arith}
use Rattle.fd_dump.proofs.Marking.{marked-leaf}
use Rattle.fd_dump.proofs.dumped.mark_leaf.Goals as goal

pub returns-clause-marks : goal.returns-clause-marks
returns-clause-marks c =
    c.set_pages.ensures.bits
    ∙ marked-leaf c.args.windows.now c.args.leaf.now c.max-start.result c.min-end.result c.div_ceil.result c.div_ceil-2.result c.args.avail.now c.args.map.now
    (omega arith) (omega arith) c.requires.low (omega arith) (omega arith)
