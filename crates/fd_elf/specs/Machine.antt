-- The machines of ELF files: e_machine of Elf64_Ehdr (sys/elf64.h), EM_X86_64, EM_AARCH64 and EM_RISCV (sys/elf_common.h).
use Rattle.std.specs.Prelude.{ℕ, Bool, ◌==◌, [], ◌∷◌, Option, find}
use Rattle.fd_bytes.specs.Profile.{profile_of}
use Rattle.fd_bytes.specs.declared.arch.Arch.{Arch}
use Rattle.fd_bytes.specs.declared.arch.Arch.TheVariants.{Amd64, Arm64, Riscv}

-- an architecture has this machine
abbrev pub has_machine : ℕ → Arch → Bool
has_machine machine arch = (profile_of arch).elf_machine == machine

-- the architecture that has this machine, where there is one
abbrev pub arch_of_machine : ℕ → Option Arch
arch_of_machine machine = find (has_machine machine) (Amd64 ∷ Arm64 ∷ Riscv ∷ [])
