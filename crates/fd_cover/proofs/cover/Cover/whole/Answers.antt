use Rattle.std.proofs.Common.{subst, sym, ◌∙◌, ◌↔◌, IsTrue, nat_eq, get_or, false}
use Rattle.fd_cover.specs.Intervals.{has, IsWhole, AreRising}
use Rattle.fd_cover.proofs.Wholes.{one_from, one_later, two-not-whole}
use Rattle.fd_cover.proofs.cover.Cover.whole.Goals as goal

pub returns-then-all-eq0 : goal.returns-then-all-eq0
returns-then-all-eq0 c =
    subst (λ l. IsTrue (nat_eq (get_or c.as_slice.result.now 0 (record { from = 0; to = 0 })).to c.args.len) ↔ IsWhole (has l) c.args.len) (c.as_slice.ensures.value ∙ c.self.view_is)
    (one_from c.as_slice.result.now _ c.args.len (subst (AreRising 0) (sym c.as_slice.ensures.value) c.self.invariant) c.in-len1.len_at_least c.in-len1.len_below c.if-all-eq0.true)

pub returns-else-all-eq0 : goal.returns-else-all-eq0
returns-else-all-eq0 c =
    subst (λ l. IsTrue (nat_eq (get_or c.as_slice.result.now 0 (record { from = 0; to = 0 })).from 0) ↔ IsWhole (has l) c.args.len) (c.as_slice.ensures.value ∙ c.self.view_is)
    (one_later c.as_slice.result.now _ c.args.len (subst (AreRising 0) (sym c.as_slice.ensures.value) c.self.invariant) c.in-len1.len_at_least c.in-len1.len_below c.if-all-eq0.false)

pub returns-in_default : goal.returns-in_default
returns-in_default c =
    subst (λ l. IsTrue false ↔ IsWhole (has l) c.args.len) (c.as_slice.ensures.value ∙ c.self.view_is)
    ((λ is. absurd (cc)), (λ whole. absurd (two-not-whole c.as_slice.result.now c.args.len (subst (AreRising 0) (sym c.as_slice.ensures.value) c.self.invariant) c.in_default.len_at_least whole)))
