use Rattle.std.proofs.Common.{ltb, ltb-true, ltb-false, arith, rules}
use Rattle.std.proofs.lemmas.List.Sorted.{IsPartitionPoint-from_clause, IsPartitionedBy-ltb}
use Rattle.fd_cover.specs.declared.interval.Interval.{Interval}
use Rattle.fd_cover.proofs.Searching.{each_before, ends_rise}
use Rattle.fd_cover.proofs.interval.first_reaching.Goals as goal

pub returns-clause-before : goal.returns-clause-before
returns-clause-before c =
    let rs = c.args.intervals.now in
    let parted = IsPartitionedBy-ltb (λ (r : Interval). r.to) rs c.args.from (ends_rise rs 0 c.requires) in
    let point = IsPartitionPoint-from_clause (λ (r : Interval). ltb r.to c.args.from) rs _ c.partition_point.ensures.partitioned parted (λ a r q k. search rules) in
    each_before rs c.partition_point.result c.args.from c.partition_point.ensures.bound (λ k d below. ltb-true _ _ (point.0 k d (omega arith) below))

pub returns-clause-reaches : goal.returns-clause-reaches
returns-clause-reaches c inside =
    let rs = c.args.intervals.now in
    let parted = IsPartitionedBy-ltb (λ (r : Interval). r.to) rs c.args.from (ends_rise rs 0 c.requires) in
    let point = IsPartitionPoint-from_clause (λ (r : Interval). ltb r.to c.args.from) rs _ c.partition_point.ensures.partitioned parted (λ a r q k. search rules) in
    ltb-false _ _ (point.1 c.partition_point.result _ (omega arith) inside)
