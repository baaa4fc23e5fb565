-- The pairs end at the first whose end is 0, or go on.
use Rattle.std.proofs.Common.{◌≡◌, ◌+◌, ◌/◌, ◌≢◌, ◌∷◌, [], length, append_assoc, rules}
use Rattle.std.proofs.lemmas.List.{append-nil}
use Rattle.fd_vmcore.specs.Ranges.{pair_at}
use Rattle.fd_vmcore.proofs.Pairs.{rest, rest_ends, rest_more}
use Rattle.fd_vmcore.proofs.parts.pairs_in.Goals as goal

pub returns-then-pair-eq0-clause-pairs : goal.returns-then-pair-eq0-clause-pairs
returns-then-pair-eq0-clause-pairs c =
    let s = c.args.section.now in
    let ends = rest_ends s c.loop-index.index (length s / 16) c.loop-index-test.true (let e : (pair_at s c.loop-index.index).1 ≡ 0 = (let r = c.pair_at-pair.ensures.pair in cc) in e) in
    let end = append-nil c.loop-index.pairs.items in
    let so_far = c.loop-index.invariant.pairs in
    cc

pub loop-index-preserved : goal.loop-index-preserved
loop-index-preserved c =
    let s = c.args.section.now in
    let i = c.loop-index.index in
    let n = length s / 16 in
    let some : (pair_at s i).1 ≢ 0 = (λ e. c.if-pair-eq0.false (let r = c.pair_at-pair.ensures.pair in cc)) in
    let more = rest_more s i n c.loop-index-test.true some in
    let so_far = c.loop-index.invariant.pairs in
    let assoc = append_assoc c.loop-index.pairs.items (pair_at s i ∷ []) (rest s (i + 1) n) in
    let pushed = c.in_ok-push.ensures.items in
    let same = c.pair_at-pair.ensures.pair in
    record { pairs = cc; below = search rules }
