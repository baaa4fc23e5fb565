-- What is the same of the header pages of each architecture.
use Rattle.std.proofs.Common.{◌≡◌, ℕ, ◌-◌, ◌≤◌, Bool, true, false, List, length, replicate, IsTrue, refl, arith, length-append}
use Rattle.std.specs.Int.{w32, w64, to_le_bytes}
use Rattle.std.proofs.lemmas.List.{length-replicate}
use Rattle.fd_bytes.specs.Profile.{profile_of}
use Rattle.fd_bytes.specs.declared.arch.Arch.{Arch}
use Rattle.fd_bytes.specs.declared.arch.Arch.TheVariants.{Amd64, Arm64, Riscv}
use Rattle.fd_mini.specs.Layout.{has_version, is_current, layout_of, magic_of}
use Rattle.fd_mini.specs.Page.{page_of, front_by, when}
use Rattle.fd_mini.specs.declared.header.MiniHeader.{MiniHeader}

-- the current version is read and written, and its page has dumpavailsize
pub current_is_known : (arch : Arch) → IsTrue (has_version arch (profile_of arch).minidump_version)
current_is_known Amd64 = refl
current_is_known Arm64 = refl
current_is_known Riscv = refl

pub current_is_current : (arch : Arch) → IsTrue (is_current arch (profile_of arch).minidump_version)
current_is_current Amd64 = refl
current_is_current Arm64 = refl
current_is_current Riscv = refl

pub current_has_dumpavailsize : (arch : Arch) → (layout_of arch (profile_of arch).minidump_version).has_dumpavailsize ≡ true
current_has_dumpavailsize Amd64 = refl
current_has_dumpavailsize Arm64 = refl
current_has_dumpavailsize Riscv = refl

magic_short : (arch : Arch) → length (magic_of arch) ≡ 24
magic_short Amd64 = refl
magic_short Arm64 = refl
magic_short Riscv = refl

when_short : (has_field : Bool) (bytes : List ℕ) → length (when has_field bytes) ≤ length bytes
when_short true bytes = omega arith
when_short false bytes = omega arith

-- a header page is a page
pub length-page_of : (h : MiniHeader) → length (page_of h) ≡ 4096
unfolding page_of
length-page_of h =
    let layout = layout_of h.arch h.version in
    let dmapphys = when_short layout.has_dmapphys (to_le_bytes w64 h.dmapphys) in
    let dumpavailsize = when_short layout.has_dumpavailsize (to_le_bytes w32 h.dumpavailsize) in
    let flags = when_short layout.has_flags (to_le_bytes w32 h.flags) in
    let front = front_by layout h in
    let short : length front ≤ 4096 = simp length-append (omega (arith, magic_short h.arch, dmapphys, dumpavailsize, flags)) in
    let count : ℕ = 4096 - length front in
    omega (arith, length-append front (replicate count 0), length-replicate {A = ℕ} count 0)
