-- Each machine is tried.
use Rattle.std.proofs.Common.{refl}
use Rattle.fd_bytes.specs.declared.arch.Arch.TheVariants.{Amd64, Arm64, Riscv}
use Rattle.fd_elf.proofs.machine.each_machine_is_read_back.Goals as goal

pub returns : goal.returns
returns c Amd64 = refl
returns c Arm64 = refl
returns c Riscv = refl
