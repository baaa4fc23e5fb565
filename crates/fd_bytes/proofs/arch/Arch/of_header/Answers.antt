use Rattle.std.proofs.Common.{◌≡◌, ◌<◌, ℕ, false, List, [], ◌∷◌, get_or, sym, ◌∙◌, arith}
use Rattle.fd_bytes.specs.Arch.{has_header}
use Rattle.fd_bytes.specs.declared.arch.Arch.{Arch}
use Rattle.fd_bytes.specs.declared.arch.Arch.TheVariants.{Amd64, Arm64, Riscv}
use Rattle.fd_bytes.proofs.Archs.{find-drop, has_header-name, has_header-version}
use Rattle.fd_bytes.proofs.arch.Arch.of_header.Goals as goal
use Rattle.fd_bytes.proofs.arch.Arch.of_header.Goals.{else-eq-via-then-eq+else-header_version-version, else-eq-via-else-eq}

pub loop-arch-preserved : goal.loop-arch-preserved
loop-arch-preserved c =
    let all : List Arch = Amd64 ∷ Arm64 ∷ Riscv ∷ [] in
    let name : List ℕ = c.args.name.now in
    let here : Arch = get_or all c.loop-arch.arch-index Amd64 in
    let inside : c.loop-arch.arch-index < 3 = omega arith in
    let other : has_header name c.args.version here ≡ false = elim c.else-eq.branch [
      | else-eq-via-then-eq+else-header_version-version w ↦ has_header-version name c.args.version w.header_version.result here w.header_version.ensures w.if-header_version-version.false
      | else-eq-via-else-eq w ↦ has_header-name name c.name.result.now c.args.version here c.name.ensures (sym c.eq.ensures ∙ w.if-eq.false)
    ] in
    find-drop (has_header name c.args.version) all c.loop-arch.arch-index Amd64 inside other ∙ c.loop-arch.invariant
