-- The architectures as dump headers name them.
use Rattle.std.specs.Prelude.{ℕ, Bool, ◌&&◌, ◌==◌, List, [], ◌∷◌, Option, find, codes}
use Rattle.std.specs.Str.{bytes_eq}
use Rattle.fd_bytes.specs.declared.arch.Arch.{Arch}
use Rattle.fd_bytes.specs.declared.arch.Arch.TheVariants.{Amd64, Arm64, Riscv}

-- the kernel's MACHINE_ARCH (arch(7))
abbrev pub name_of : Arch → List ℕ
name_of Amd64 = codes "amd64"
name_of Arm64 = codes "aarch64"
name_of Riscv = codes "riscv64"

-- KERNELDUMP_AMD64_VERSION, KERNELDUMP_AARCH64_VERSION and KERNELDUMP_RISCV_VERSION (sys/kerneldump.h)
abbrev pub header_version_of : Arch → ℕ
header_version_of Amd64 = 2
header_version_of Arm64 = 1
header_version_of Riscv = 1

-- a header with this name and this version is the architecture's
abbrev pub has_header : List ℕ → ℕ → Arch → Bool
has_header name version arch = bytes_eq (name_of arch) name && (header_version_of arch == version)

-- the architecture with this name and this version, where there is one
abbrev pub arch_of_header : List ℕ → ℕ → Option Arch
arch_of_header name version = find (has_header name version) (Amd64 ∷ Arm64 ∷ Riscv ∷ [])
