-- The page numbers under an aligned leaf fit their 44 bits, so the three parts of the entry do not overlap.
use Rattle.std.proofs.Common.{arith}
use Rattle.fd_pte.specs.RiscvLaws.{riscv_room}
use Rattle.fd_pte.proofs.riscv.RiscvEntry.expand.Goals as goal

pub overflow_add-result : goal.overflow_add-result
overflow_add-result c =
    let room = riscv_room c.args.bits c.args._height c.args.index _ c.requires.height c.requires.larger c.requires.index c.requires.leaf.1 in
    omega arith

pub overflow_add-result-2 : goal.overflow_add-result-2
overflow_add-result-2 c =
    let room = riscv_room c.args.bits c.args._height c.args.index _ c.requires.height c.requires.larger c.requires.index c.requires.leaf.1 in
    omega arith
