use Rattle.std.proofs.Common.{◌⊎◌, inl, inr, ◌-◌, ◌<◌, ◌≤◌, Some, sym, ◌∙◌, ap}
use Rattle.fd_netclient.specs.Trace.{without}
use Rattle.fd_netclient.proofs.Marking.{marked-without, marked-outside}
use Rattle.fd_netclient.proofs.marks.Marks.remove.Goals as goal
use Rattle.fd_netclient.proofs.marks.Marks.remove.Goals.{then-number-self-via-then-number-self, then-number-self-via-else-number-self+then-number-self-ge64}

pub returns-then-number-self : goal.returns-then-number-self
returns-then-number-self c =
    let outside : (c.args.number < c.self.inside.first) ⊎ (64 ≤ c.args.number - c.self.inside.first) =
    elim c.then-number-self.branch [
      | then-number-self-via-then-number-self w ↦ inl w.if-number-self.true
      | then-number-self-via-else-number-self+then-number-self-ge64 w ↦ inr w.if-number-self-ge64.true
    ] in
    sym (ap (without (Some c.args.number)) (sym c.self.view_is) ∙ marked-outside c.self.inside.first c.self.inside.bits c.args.number outside ∙ c.self.view_is)

pub returns : goal.returns
returns c =
    sym (marked-without c.self.inside.first c.self.inside.bits c.args.number c.if-number-self.false c.if-number-self-ge64.false)
    ∙ ap (without (Some c.args.number)) c.self.view_is
