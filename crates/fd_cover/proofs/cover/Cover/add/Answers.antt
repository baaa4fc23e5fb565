use Rattle.std.proofs.Common.{◌≡◌, ◌+◌, ℕ, List, OnOk, ◌||◌, subst, arith}
use Rattle.fd_cover.specs.declared.interval.Interval.{Interval}
use Rattle.fd_cover.specs.Intervals.{has, is_between}
use Rattle.fd_cover.proofs.Joining.{added_rises, added_has}
use Rattle.fd_cover.proofs.cover.Cover.add.Goals as goal

pub invariant_of-self : goal.invariant_of-self
invariant_of-self c =
    let added = c.add_interval.ensures in
    added_rises c.add_interval.result c.self.inside.intervals.items c.add_interval.new.intervals.items c.args.from (c.args.from + c.args.len)
    added.ok added.err c.self.invariant (omega arith)

pub returns-clause-ok : goal.returns-clause-ok
returns-clause-ok c =
    let from = c.args.from in
    let to = c.args.from + c.args.len in
    let new = c.add_interval.new.intervals.items in
    subst (λ (old : List Interval). OnOk c.add_interval.result ((i : ℕ) → has new i ≡ (is_between from to i || has old i))) c.self.view_is
    (added_has c.add_interval.result c.self.inside.intervals.items new from to c.add_interval.ensures.ok c.self.invariant (omega arith))
