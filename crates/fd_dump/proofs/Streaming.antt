-- What is left of a minidump after some of its pages.
use Rattle.std.proofs.Common.{◌≡◌, ◌∙◌, ℕ, ◌+◌, ◌-◌, ◌*◌, ◌<◌, ◌≤◌, List, ◌++◌, length, drop, slice_range, ap, arith}
use Rattle.std.proofs.lemmas.List.Folds.{drop_split}
use Rattle.fd_bitmap.specs.Bits.{set_count}
use Rattle.fd_image.specs.Image.{MachineImage}
use Rattle.fd_mini.specs.Places.{places_of}
use Rattle.fd_dump.specs.Minidump.{minidump_of}
use Rattle.fd_dump.specs.Plan.{Planned, IsPlanOf}
use Rattle.fd_dump.proofs.PlanPages.{length-planned}

-- the next pages come first
pub next_pages : (whole : List ℕ) (next count : ℕ) → drop (4096 * next) whole ≡ slice_range whole (4096 * next) (4096 * next + 4096 * count) ++ drop (4096 * (next + count)) whole
next_pages whole next count =
    let end : 4096 * next + 4096 * count ≡ 4096 * (next + count) = omega arith in
    drop_split whole (4096 * next) (4096 * next + 4096 * count) (omega arith)
    ∙ ap (λ n. slice_range whole (4096 * next) (4096 * next + 4096 * count) ++ drop n whole) end

-- a page before the end is one before the dumped ones or one of them
pub rank_within : (plan : Planned) (m : MachineImage) (front next end : ℕ) → IsPlanOf plan m →
    4096 * front ≡ (places_of plan.header).pages → 4096 * end ≡ length (minidump_of m) → front ≤ next → next < end
    → next - front < set_count plan.bits
rank_within plan m front next end is_plan is_front is_end from to = omega (arith, length-planned plan m is_plan)
