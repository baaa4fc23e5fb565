-- What differs between the header pages of the architectures and of their versions: MINIDUMP_MAGIC, MINIDUMP_VERSION and
-- struct minidumphdr (sys/amd64/include, sys/arm64/include and sys/riscv/include, minidump.h).
use Rattle.std.specs.Prelude.{ℕ, ◌+◌, ◌*◌, ◌^◌, Bool, true, false, ◌==◌, ◌&&◌, nat_le, if◌then◌else◌, List, [], ◌∷◌, ◌++◌, Option, find, codes}
use Rattle.std.specs.Str.{bytes_eq}
use Rattle.fd_bytes.specs.Profile.{profile_of}
use Rattle.fd_bytes.specs.declared.arch.Arch.{Arch}
use Rattle.fd_bytes.specs.declared.arch.Arch.TheVariants.{Amd64, Arm64, Riscv}
use Rattle.fd_mini.specs.declared.header.MiniHeader.{MiniHeader}
use Rattle.fd_mini.specs.declared.layout.Layout.{Layout}

-- a version that is read: from the first one to the current one
abbrev pub has_version : Arch → (version : ℕ) → Bool
has_version arch version = nat_le 1 version && nat_le version (profile_of arch).minidump_version

-- the version that is written: the current one
abbrev pub is_current : Arch → (version : ℕ) → Bool
is_current arch version = version == (profile_of arch).minidump_version

-- whether the page of a version has the fields dmapphys, dumpavailsize and flags
abbrev pub layout_of : Arch → (version : ℕ) → Layout
layout_of Amd64 version = record { has_dmapphys = false; has_dumpavailsize = nat_le 3 version; has_flags = false }
layout_of Arm64 version = record { has_dmapphys = true; has_dumpavailsize = nat_le 2 version; has_flags = nat_le 3 version }
layout_of Riscv version = record { has_dmapphys = true; has_dumpavailsize = nat_le 2 version; has_flags = false }

-- the height of the entries of the page directory: in version 1 they are of height 0 everywhere, with one for each page of
-- 4096 bytes (lib/libkvm, kvm_minidump_amd64.c)
abbrev pub entry_height_of : MiniHeader → ℕ
entry_height_of h = if nat_le 2 h.version then (profile_of h.arch).directory_height else 0

-- how many bytes of addresses an entry of the page directory maps: 4096 at height 0, 512 times as many at each height above
abbrev pub unit_of : MiniHeader → ℕ
unit_of h = 2 ^ (12 + 9 * entry_height_of h)

-- the magic, with zeros to 24 bytes
abbrev pub magic_of : Arch → List ℕ
magic_of Amd64 = codes "minidump FreeBSD/amd64" ++ (0 ∷ 0 ∷ [])
magic_of Arm64 = codes "minidump FreeBSD/arm64" ++ (0 ∷ 0 ∷ [])
magic_of Riscv = codes "minidump FreeBSD/riscv" ++ (0 ∷ 0 ∷ [])

-- the architecture of a magic, if it is one
abbrev pub arch_of_magic : List ℕ → Option Arch
arch_of_magic magic = find (λ arch. bytes_eq magic (magic_of arch)) (Amd64 ∷ Arm64 ∷ Riscv ∷ [])
