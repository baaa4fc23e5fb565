-- The pages that have a bit are below 2^52.
use Rattle.std.proofs.Common.{ℕ, ◌*◌, List, sym, subst, arith}
use Rattle.fd_vmcore.specs.Kept.{AreBelow}
use Rattle.fd_vmcore.specs.Parts.{EndBelow}
use Rattle.fd_vmcore.proofs.Below.{consecutive_below, pages_below}
use Rattle.fd_vmcore.proofs.parts.read_avail.Goals as goal

pub returns-then-header-eq0-clause-below : goal.returns-then-header-eq0-clause-below
returns-then-header-eq0-clause-below g c =
    subst (λ (l : List ℕ). AreBelow l) (sym c.identity.ensures) (consecutive_below 0 (8 * c.from.result) (λ some. omega arith))

pub returns-in-Ok-clause-below : goal.returns-in-Ok-clause-below
returns-in-Ok-clause-below g c =
    subst (λ (l : List ℕ). AreBelow l) (sym c.in-Ok.ensures.pages)
    (pages_below c.as_slice-2.result.now (subst (λ (l : List (ℕ × ℕ)). EndBelow l) (sym c.as_slice-2.ensures.value) c.in_ok-pairs.ensures.below))
