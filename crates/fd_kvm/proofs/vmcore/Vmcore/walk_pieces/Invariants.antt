-- The pages of the pieces so far were given, and marked.
use Rattle.std.proofs.Common.{◌≡◌, ◌-◌, true}
use Rattle.fd_kvm.specs.Parts.{IsPart, pages_by_kind}
use Rattle.fd_kvm.proofs.vmcore.Vmcore.walk_pieces.Given as goal

abbrev pub invariant-loop-piece : goal.invariant-loop-piece
invariant-loop-piece g l =
    IsPart g.V.Visit.took l.self.sections l.fn.visit l.visit l.fn.walked l.walked true
    (λ pages. pages ≡ pages_by_kind l.self.sections l.bits l.table l.kind l.first (l.piece - l.first))
