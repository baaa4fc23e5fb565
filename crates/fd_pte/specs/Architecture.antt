-- The page tables of each architecture, by its name.
use Rattle.std.specs.Prelude.{ℕ}
use Rattle.fd_bytes.specs.declared.arch.Arch.{Arch}
use Rattle.fd_bytes.specs.declared.arch.Arch.TheVariants.{Amd64, Arm64, Riscv}
use Rattle.fd_bytes.specs.Profile.{profile_of}
use Rattle.fd_pte.specs.declared.entry.Kind.{Kind}
use Rattle.fd_pte.specs.Amd64.{amd64_kind, amd64_expansion}
use Rattle.fd_pte.specs.Arm64.{arm64_kind, arm64_expansion}
use Rattle.fd_pte.specs.Riscv.{riscv_kind, riscv_expansion}

-- the kind of an entry: its bits and its height
abbrev pub kind_of : Arch → ℕ → ℕ → Kind
kind_of Amd64 = amd64_kind
kind_of Arm64 = arm64_kind
kind_of Riscv = riscv_kind

-- the height of the entries of a minidump's page directory
abbrev pub directory_height_of : Arch → ℕ
directory_height_of arch = (profile_of arch).directory_height

-- the entry of directory height for one unit of a larger leaf: its bits, its height, the index of the unit
abbrev pub expansion_of : Arch → ℕ → ℕ → ℕ → ℕ
expansion_of Amd64 = amd64_expansion
expansion_of Arm64 = arm64_expansion
expansion_of Riscv = riscv_expansion
