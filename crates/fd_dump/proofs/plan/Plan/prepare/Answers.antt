-- The plan has what the image's minidump is made of, and its sizes are small.
use Rattle.std.proofs.Common.{ap, arith}
use Rattle.fd_bitmap.specs.Bits.{set_count}
use Rattle.fd_mini.specs.Places.{places_of}
use Rattle.fd_dump.proofs.PlanPages.{front_low}
use Rattle.fd_dump.proofs.Sizes.{dumped_few}
use Rattle.fd_dump.proofs.plan.Plan.prepare.Goals as goal

pub invariant_of-result : goal.invariant_of-result
invariant_of-result c = record {
  index = c.in_ok-index.ensures;
  count = c.count-dumped.ensures;
  few = omega (arith, c.count-dumped.ensures, ap set_count c.in_ok-map.ensures, dumped_few c.args.image.now c.mini_header-header.ensures.valid);
  low = omega (arith, ap (λ header. (places_of header).pages) c.mini_header-header.ensures.value, front_low c.args.image.now c.mini_header-header.ensures.valid);
}

pub returns : goal.returns
returns c = record {
  valid = c.mini_header-header.ensures.valid;
  header = c.mini_header-header.ensures.value;
  pages = c.in_ok-avail.ensures;
  bits = c.in_ok-map.ensures;
}
