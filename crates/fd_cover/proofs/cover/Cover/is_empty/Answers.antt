use Rattle.std.proofs.Common.{subst, sym, ◌∙◌, ◌↔◌, IsTrue, refl}
use Rattle.fd_cover.specs.Intervals.{has, IsNone, AreRising}
use Rattle.fd_cover.proofs.Wholes.{is_zero}
use Rattle.fd_cover.proofs.cover.Cover.is_empty.Goals as goal

pub returns : goal.returns
returns c =
    subst (λ l. IsTrue c.is_empty.result ↔ IsNone (has l)) (c.as_slice.ensures.value ∙ c.self.view_is)
    (is_zero c.as_slice.result.now c.is_empty.result _ (subst (AreRising 0) (sym c.as_slice.ensures.value) c.self.invariant) c.is_empty.ensures refl)
