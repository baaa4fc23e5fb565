use Rattle.std.proofs.Common.{slice_get, sym, ◌∙◌, ap, arith}
use Rattle.fd_netclient.proofs.Marking.{marked-zero, marked-least, some}
use Rattle.fd_netclient.proofs.marks.Marks.least.Goals as goal

pub returns-then-self-eq0 : goal.returns-then-self-eq0
returns-then-self-eq0 c =
    ap (λ l. slice_get l 0) (sym (marked-zero c.self.inside.first c.self.inside.bits c.if-self-eq0.true) ∙ c.self.view_is)

pub returns : goal.returns
returns c =
    ap (λ l. slice_get l 0) (sym (marked-least c.self.inside.first c.self.inside.bits (some c.self.inside.bits c.if-self-eq0.false) (omega arith)) ∙ c.self.view_is)
