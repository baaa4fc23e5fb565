-- The last segment that begins at or before the address is the only one that may have it.
use Rattle.std.proofs.Common.{◌≡◌, ◌∙◌, ℕ, List, [], false, true, Some, ap, sym, arith, rules}
use Rattle.fd_image.specs.declared.parts.Seg.{Seg}
use Rattle.fd_image.specs.Physical.{has_address}
use Rattle.fd_image.proofs.Segments.{Splits, Splits-from_search, no_segment, last_segment, not_last_segment}
use Rattle.fd_image.proofs.image.search_segment.Goals as goal

pub returns-then-count-eq0 : goal.returns-then-count-eq0
returns-then-count-eq0 c =
    let segs : List Seg = c.args.segs.now in
    let count : ℕ = c.partition_point-count.result in
    let splits : Splits c.args.pa segs count = Splits-from_search c.args.pa segs count c.partition_point-count.ensures.partitioned c.requires (λ a r f k. search rules) in
    sym (no_segment c.args.pa segs count c.requires splits (record { start = 0; bytes = [] }) (omega arith))

pub returns-then-has_address : goal.returns-then-has_address
returns-then-has_address c =
    let segs : List Seg = c.args.segs.now in
    let count : ℕ = c.partition_point-count.result in
    let seg = c.index-segs-count.result in
    let splits : Splits c.args.pa segs count = Splits-from_search c.args.pa segs count c.partition_point-count.ensures.partitioned c.requires (λ a r f k. search rules) in
    let has : has_address c.args.pa seg ≡ true = sym c.has_address.ensures ∙ c.if-has_address.true in
    ap Some c.index-segs-count.is
    ∙ sym (last_segment c.args.pa segs count c.requires splits seg (omega arith) (omega arith)
    (ap (has_address c.args.pa) (sym c.index-segs-count.is) ∙ has))

pub returns-else-has_address : goal.returns-else-has_address
returns-else-has_address c =
    let segs : List Seg = c.args.segs.now in
    let count : ℕ = c.partition_point-count.result in
    let seg = c.index-segs-count.result in
    let splits : Splits c.args.pa segs count = Splits-from_search c.args.pa segs count c.partition_point-count.ensures.partitioned c.requires (λ a r f k. search rules) in
    let has_not : has_address c.args.pa seg ≡ false = sym c.has_address.ensures ∙ c.if-has_address.false in
    sym (not_last_segment c.args.pa segs count c.requires splits seg (omega arith) (omega arith)
    (ap (has_address c.args.pa) (sym c.index-segs-count.is) ∙ has_not))
