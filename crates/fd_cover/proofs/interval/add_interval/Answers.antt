use Rattle.std.proofs.Common.{◌+◌, List, take, drop, subst, sym, ◌∙◌, ap, arith}
use Rattle.std.specs.List.{insert}
use Rattle.fd_cover.specs.declared.interval.Interval.{Interval}
use Rattle.fd_cover.specs.Intervals.{AreRising, with_interval}
use Rattle.fd_cover.proofs.Joining.{rising_behind, rising_from, rising_none, put_in, none_beside, put_over}
use Rattle.fd_cover.proofs.interval.add_interval.Goals as goal
use Rattle.fd_cover.proofs.interval.add_interval.Goals.{then-at-old-via-then-at-old, then-at-old-via-else-at-old+then-new-old}

abbrev nothing : Interval
nothing = record { from = 0; to = 0 }

pub returns-in_err-insert-clause-beside : goal.returns-in_err-insert-clause-beside
returns-in_err-insert-clause-beside c i is here =
    let at = c.first_reaching-at.result in
    let new = c.args.new in
    let rs = c.as_slice-old.result.now in
    let rising = subst (AreRising 0) (sym c.as_slice-old.ensures.value) c.requires.rising in
    let apart : AreRising (new.to + 1) (drop at rs) =
    elim c.then-at-old.branch [
      | then-at-old-via-then-at-old w ↦ rising_none rs at new.to (omega arith)
      | then-at-old-via-else-at-old+then-new-old w ↦ rising_from rs at nothing new.to rising (omega arith) w.if-new-old.true
    ] in
    let none = none_beside rs at new.from new.to rising c.first_reaching-at.ensures.before c.requires.some apart i is in
    absurd (cc)

pub returns-then-at-old-clause-ok : goal.returns-then-at-old-clause-ok
returns-then-at-old-clause-ok c =
    let at = c.first_reaching-at.result in
    let new = c.args.new in
    let rs = c.as_slice-old.result.now in
    let same = c.as_slice-old.ensures.value in
    let rising = subst (AreRising 0) (sym same) c.requires.rising in
    let apart : AreRising (new.to + 1) (drop at rs) =
    elim c.then-at-old.branch [
      | then-at-old-via-then-at-old w ↦ rising_none rs at new.to (omega arith)
      | then-at-old-via-else-at-old+then-new-old w ↦ rising_from rs at nothing new.to rising (omega arith) w.if-new-old.true
    ] in
    c.in_ok-insert.ensures.items
    ∙ ap (λ l. insert l at new) (sym same)
    ∙ put_in rs at new.from new.to rising c.first_reaching-at.ensures.before c.requires.some apart
    ∙ ap (λ l. with_interval l new.from new.to) same

pub join_behind-requires-clause-rising : goal.join_behind-requires-clause-rising
join_behind-requires-clause-rising c =
    let at = c.first_reaching-at.result in
    let rs = c.as_slice-old.result.now in
    let same = c.as_slice-old.ensures.value in
    let rising = subst (AreRising 0) (sym same) c.requires.rising in
    subst (λ (l : List Interval). AreRising c.joined-joint.result.from (drop (at + 1) l)) same
    (subst (λ (met : Interval). AreRising met.from (drop (at + 1) rs)) (sym c.joined-joint.ensures) (rising_behind rs at nothing c.args.new.from rising (omega arith)))

pub returns-clause-ok : goal.returns-clause-ok
returns-clause-ok c =
    let at = c.first_reaching-at.result in
    let new = c.args.new in
    let rs = c.as_slice-old.result.now in
    let same = c.as_slice-old.ensures.value in
    let met = c.joined-joint.ensures in
    let rising = subst (AreRising 0) (sym same) c.requires.rising in
    let front = c.join_behind.ensures.before ∙ sym (ap (take (at + 1)) same) in
    let joins = c.join_behind.ensures.joined ∙ (λ i. with_interval (drop (at + 1) (sym same i)) (met i).from (met i).to) in
    put_over rs at new.from new.to rising c.first_reaching-at.ensures.before c.requires.some c.join_behind.new.intervals.items nothing c.join_behind.result
    (omega arith) (c.first_reaching-at.ensures.reaches (omega arith)) c.if-new-old.false front joins
    ∙ ap (λ l. with_interval l new.from new.to) same
