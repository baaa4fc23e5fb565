-- Behind the pages before them, the dumped pages come as they are lent.
use Rattle.std.proofs.Common.{◌≡◌, ◌∙◌, ◌+◌, ◌-◌, ◌*◌, ◌/◌, ◌++◌, length, drop, slice_range, ap, sym, arith}
use Rattle.fd_dump.specs.Minidump.{minidump_of}
use Rattle.fd_dump.proofs.PlanPages.{memory-range}
use Rattle.fd_dump.proofs.Sizes.{minidump_small}
use Rattle.fd_dump.proofs.Streaming.{next_pages, rank_within}
use Rattle.fd_dump.proofs.stream.StreamPieces.advance.Goals as goal

pub run_at-run-requires-clause-rank : goal.run_at-run-requires-clause-rank
run_at-run-requires-clause-rank c =
    let stream = c.args.self.now in
    rank_within stream.plan.now stream.image.now c.front_pages-front.result stream.next stream.end stream.made c.front_pages-front.ensures stream.whole c.if-self-front.false c.if-self.false

pub overflow_add-self-2 : goal.overflow_add-self-2
overflow_add-self-2 c =
    let stream = c.args.self.now in
    omega (arith, c.if-self.false, stream.whole, minidump_small stream.image.now stream.made.valid, c.run_at-run.ensures.most)

pub returns-clause-more : goal.returns-clause-more
returns-clause-more c =
    let stream = c.args.self.now in
    let whole = minidump_of stream.image.now in
    let size = length c.run_at-run.result.now in
    let pages : 4096 * (size / 4096) ≡ size = omega (arith, c.run_at-run.ensures.whole) in
    next_pages whole stream.next (size / 4096)
    ∙ ap (λ l. l ++ drop (4096 * (stream.next + size / 4096)) whole)
    (ap (λ n. slice_range whole (4096 * stream.next) (4096 * stream.next + n)) pages
    ∙ memory-range stream.plan.now stream.image.now (4096 * stream.next) (stream.next - c.front_pages-front.result) size stream.made (omega (arith, c.front_pages-front.ensures, c.if-self-front.false))
    (c.run_at-run.ensures.within)
    ∙ sym c.run_at-run.ensures.bytes)
