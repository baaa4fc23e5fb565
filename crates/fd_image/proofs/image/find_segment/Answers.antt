-- A segment that has the address is the only one.
use Rattle.std.proofs.Common.{◌≡◌, ◌∙◌, ◌<◌, length, true, Some, ap, sym, arith}
use Rattle.std.proofs.lemmas.Bool.Decides.{nat_tests}
use Rattle.fd_image.specs.Physical.{has_address}
use Rattle.fd_image.proofs.Segments.{only_segment}
use Rattle.fd_image.proofs.image.find_segment.Goals as goal

pub returns-in-Some : goal.returns-in-Some
returns-in-Some c =
    let seg = c.in-Some.seg.now in
    let has : has_address c.args.pa seg ≡ true = sym c.has_address.ensures ∙ c.if-has_address.true in
    let is = c.in-Some.ensures.lookup in
    let within : c.args.near.now < length c.args.segs.now = grind (arith, nat_tests, is.0) in
    ap Some is.1
    ∙ sym (only_segment c.args.pa c.args.segs.now c.args.near.now _ c.requires within (ap (has_address c.args.pa) (sym is.1) ∙ has))
