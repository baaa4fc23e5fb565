-- The dumped pages are as many as the bits that are set.
use Rattle.std.proofs.Common.{ap, arith}
use Rattle.fd_bitmap.specs.Bits.{set_count}
use Rattle.fd_mini.specs.Places.{places_of}
use Rattle.fd_dump.proofs.PlanPages.{length-planned}
use Rattle.fd_dump.proofs.plan.Plan.length.Goals as goal

pub overflow_add-result : goal.overflow_add-result
overflow_add-result c =
    omega (arith, c.self.invariant.low, c.self.invariant.few, ap (λ plan. (places_of plan.header).pages) c.self.view_is, ap (λ places. places.pages) c.places.ensures)

pub returns : goal.returns
returns c =
    λ m is_plan.
    omega (arith, c.self.invariant.count, ap (λ plan. set_count plan.bits) c.self.view_is, ap (λ places. places.pages) c.places.ensures, length-planned c.args.self.now m is_plan)
