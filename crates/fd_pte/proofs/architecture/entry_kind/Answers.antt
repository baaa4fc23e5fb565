-- What RISC-V's entries stand for is placed.
use Rattle.std.proofs.Common.{subst, sym}
use Rattle.fd_pte.specs.Entry.{IsPlaced}
use Rattle.fd_pte.specs.RiscvLaws.{riscv_placed}
use Rattle.fd_pte.proofs.architecture.entry_kind.Goals as goal

pub returns-in-Riscv-clause-placed : goal.returns-in-Riscv-clause-placed
returns-in-Riscv-clause-placed c =
    subst (IsPlaced c.args.height) (sym c.kind-in-Riscv.ensures) (riscv_placed c.args.bits c.args.height c.ranges.bits.fits c.requires)
