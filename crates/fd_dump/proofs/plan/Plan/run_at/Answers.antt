-- The image lends the bytes of a run.
use Rattle.std.proofs.Common.{◌≡◌, ◌∙◌, ℕ, ◌<◌, List, length, take, slice_get, ap, sym, refl, arith}
use Rattle.fd_bitmap.specs.Bits.{set_count}
use Rattle.fd_bitmap.specs.Pages as ranges
use Rattle.fd_image.specs.Image.{MachineImage}
use Rattle.fd_image.specs.Physical.{pages_from}
use Rattle.fd_dump.specs.Minidump.{memory_of}
use Rattle.fd_dump.specs.Plan.{Planned, IsPlanOf}
use Rattle.fd_dump.specs.Sections.{IsRun}
use Rattle.fd_dump.proofs.DumpedPages.{IsLent, has_page, run_first, run_lent, run_low}
use Rattle.fd_dump.proofs.Stands.{range-Stands, end-Stands}
use Rattle.fd_dump.proofs.plan.Plan.run_at.Goals as goal

pub run_length-requires-clause-address : goal.run_length-requires-clause-address
run_length-requires-clause-address c =
    let bit = c.select-bit.result in
    (run_low c.args.self.now c.args.image.now bit c.in-Some.pa c.requires.plan
    (run_first c.args.self.now bit c.in-Some.pa
    (ap (λ plan. slice_get plan.bits bit) (sym c.self.view_is) ∙ c.select-bit.ensures.bit)
    (ap (λ plan. ranges.page_of plan.pages bit) (sym c.self.view_is) ∙ sym c.page_of.ensures ∙ c.in-Some.is))).pa

pub unreachable-requires : goal.unreachable-requires
unreachable-requires c =
    let bit = c.select-bit.result in
    has_page c.args.self.now c.args.image.now bit c.requires.plan
    (ap (λ plan. slice_get plan.bits bit) (sym c.self.view_is) ∙ c.select-bit.ensures.bit)
    (ap (λ plan. ranges.page_of plan.pages bit) (sym c.self.view_is) ∙ sym c.page_of.ensures ∙ c.in-None.is)

-- what it lends, by what the plan's fields are
lent : (plan inside : Planned) (m : MachineImage) (rank bit pa count : ℕ) (bytes : List ℕ) → inside ≡ plan → IsPlanOf plan m → IsRun plan bit pa count → 0 < count
    → set_count (take bit inside.bits) ≡ rank → bytes ≡ pages_from m pa count → IsLent m rank count bytes
lent plan inside m rank bit pa count bytes same is_plan run some is_rank is =
    run_lent plan m rank bit pa count bytes is_plan run some (ap (λ plan. set_count (take bit plan.bits)) (sym same) ∙ is_rank) is

pub returns-clause-bytes : goal.returns-clause-bytes
returns-clause-bytes c =
    let run = lent c.args.self.now _ c.args.image.now c.args.rank c.select-bit.result c.in-Some.pa c.run_length.result c.pages.result.now c.self.view_is c.requires.plan c.run_length.ensures.run
    c.run_length.ensures.some c.select-bit.ensures.rank c.pages.ensures in
    sym (range-Stands c.pages.result.now (memory_of c.args.image.now) _ (length c.pages.result.now) run.stands refl)

pub returns-clause-whole : goal.returns-clause-whole
returns-clause-whole c =
    (lent c.args.self.now _ c.args.image.now c.args.rank c.select-bit.result c.in-Some.pa c.run_length.result c.pages.result.now c.self.view_is c.requires.plan c.run_length.ensures.run
    c.run_length.ensures.some c.select-bit.ensures.rank c.pages.ensures).whole

pub returns-clause-some : goal.returns-clause-some
returns-clause-some c =
    (lent c.args.self.now _ c.args.image.now c.args.rank c.select-bit.result c.in-Some.pa c.run_length.result c.pages.result.now c.self.view_is c.requires.plan c.run_length.ensures.run
    c.run_length.ensures.some c.select-bit.ensures.rank c.pages.ensures).some

pub returns-clause-most : goal.returns-clause-most
returns-clause-most c =
    let run = lent c.args.self.now _ c.args.image.now c.args.rank c.select-bit.result c.in-Some.pa c.run_length.result c.pages.result.now c.self.view_is c.requires.plan c.run_length.ensures.run
    c.run_length.ensures.some c.select-bit.ensures.rank c.pages.ensures in
    omega (arith, run.most, c.run_length.ensures.most)

pub returns-clause-within : goal.returns-clause-within
returns-clause-within c =
    let run = lent c.args.self.now _ c.args.image.now c.args.rank c.select-bit.result c.in-Some.pa c.run_length.result c.pages.result.now c.self.view_is c.requires.plan c.run_length.ensures.run
    c.run_length.ensures.some c.select-bit.ensures.rank c.pages.ensures in
    end-Stands c.pages.result.now (memory_of c.args.image.now) _ run.stands
