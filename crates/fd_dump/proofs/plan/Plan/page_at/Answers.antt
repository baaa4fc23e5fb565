-- A page behind those before the dumped ones is a dumped one.
use Rattle.std.proofs.Common.{◌≡◌, ◌∙◌, ◌+◌, ◌-◌, ◌*◌, ◌/◌, length, slice_range, ap, sym, arith}
use Rattle.fd_dump.specs.Minidump.{memory_of, minidump_of}
use Rattle.fd_dump.proofs.PlanPages.{memory-range}
use Rattle.fd_dump.proofs.Sizes.{minidump_pages}
use Rattle.fd_dump.proofs.Streaming.{rank_within}
use Rattle.fd_dump.proofs.plan.Plan.page_at.Goals as goal

pub run_at-requires-clause-rank : goal.run_at-requires-clause-rank
run_at-requires-clause-rank c =
    rank_within c.args.self.now c.args.image.now c.front_pages-front.result c.args.index (length (minidump_of c.args.image.now) / 4096) c.requires.plan c.front_pages-front.ensures
    (omega (arith, minidump_pages c.args.image.now c.requires.plan.valid)) c.if-index-front.false c.requires.within

pub returns-else-index-front : goal.returns-else-index-front
returns-else-index-front c =
    let rank = c.args.index - c.front_pages-front.result in
    let long : length c.run_at.result.now ≡ 4096 = omega (arith, c.run_at.ensures.whole, c.run_at.ensures.some, c.run_at.ensures.most) in
    c.copy_from_slice.ensures.after
    ∙ c.run_at.ensures.bytes
    ∙ ap (λ n. slice_range (memory_of c.args.image.now) (4096 * rank) (4096 * rank + n)) long
    ∙ sym (memory-range c.args.self.now c.args.image.now (4096 * c.args.index) rank 4096 c.requires.plan (omega (arith, c.front_pages-front.ensures)) (omega (arith, c.run_at.ensures.within)))
