-- A valid image has no bad range.
use Rattle.std.proofs.Common.{◌≡◌, ◌∙◌, Some, None, sym, ap}
use Rattle.fd_bitmap.specs.Pages.{first_bad}
use Rattle.fd_dump.proofs.Ranges.{ranges_good}
use Rattle.fd_dump.proofs.plan.pages_of.Goals as goal

pub unreachable-requires : goal.unreachable-requires
unreachable-requires c =
    let good = ranges_good c.args.image.now c.avail.ensures.valid in
    let fault : first_bad c.avail.result.now ≡ Some c.in-Err-BadAvail.field-0-0 = rw c.in-Err-BadAvail.field-0-is at c.in-Err-BadAvail.ensures.fault in
    let clash : Some c.in-Err-BadAvail.field-0-0 ≡ None = sym fault ∙ ap first_bad c.avail.ensures.value ∙ good in
    cc
