-- `partition_point` finds the last segment that begins at or below the address.
use Rattle.std.proofs.Common.{IfSome, leb, subst, sym, ◌∙◌, rules}
use Rattle.std.proofs.lemmas.List.Sorted.{IsPartitionPoint-from_clause, IsPartitionedBy-leb}
use Rattle.fd_elfcore.specs.ElfParts.{HasAddress}
use Rattle.fd_elfcore.specs.declared.segment.Segment.{Segment}
use Rattle.fd_elfcore.proofs.Found.{Splits, first, last_below, last_has, none_below, ordered}
use Rattle.fd_elfcore.proofs.segment.find.Goals as goal

pub returns-then-behind-eq0-clause-segment : goal.returns-then-behind-eq0-clause-segment
returns-then-behind-eq0-clause-segment c =
    let segments = c.args.segments.now in
    let va = c.args.va in
    let point : Splits va segments c.partition_point-behind.result =
    IsPartitionPoint-from_clause (λ (s : Segment). leb (first s) va) segments c.partition_point-behind.result c.partition_point-behind.ensures.partitioned
    (IsPartitionedBy-leb first segments va (ordered segments c.requires)) (λ a r q k. search rules) in
    none_below va segments c.requires (subst (λ n. Splits va segments n) c.if-behind-eq0.true point)

pub returns-clause-segment : goal.returns-clause-segment
returns-clause-segment c =
    let segments = c.args.segments.now in
    let va = c.args.va in
    let count = c.partition_point-behind.result in
    let point : Splits va segments count =
    IsPartitionPoint-from_clause (λ (s : Segment). leb (first s) va) segments count c.partition_point-behind.ensures.partitioned
    (IsPartitionedBy-leb first segments va (ordered segments c.requires)) (λ a r q k. search rules) in
    c.then_some.ensures ∙ last_below va count _ c.has.result segments c.requires c.partition_point-behind.ensures.bound c.if-behind-eq0.false point c.has.ensures.0 c.has.ensures.1

pub returns-clause-inside : goal.returns-clause-inside
returns-clause-inside c =
    let segments = c.args.segments.now in
    let va = c.args.va in
    let count = c.partition_point-behind.result in
    subst (λ o. IfSome o (HasAddress va)) (sym c.then_some.ensures)
    (last_has va count _ c.has.result segments c.requires c.partition_point-behind.ensures.bound c.if-behind-eq0.false c.has.ensures.0)
