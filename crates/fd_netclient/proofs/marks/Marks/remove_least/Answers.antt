use Rattle.std.proofs.Common.{drop, sym, ◌∙◌, ap, arith}
use Rattle.fd_netclient.proofs.Marking.{marked-zero, marked-least, some}
use Rattle.fd_netclient.proofs.marks.Marks.remove_least.Goals as goal

pub returns-then-self-ne0 : goal.returns-then-self-ne0
returns-then-self-ne0 c =
    ap (drop 1) (sym (marked-least c.self.inside.first c.self.inside.bits (some c.self.inside.bits c.if-self-ne0.true) (omega arith)) ∙ c.self.view_is)

pub returns-else-self-ne0 : goal.returns-else-self-ne0
returns-else-self-ne0 c =
    let none = sym c.self.view_is ∙ marked-zero c.self.inside.first c.self.inside.bits c.if-self-ne0.false in
    none ∙ sym (ap (drop 1) none)
