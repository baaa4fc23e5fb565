-- A shift down and a mask take the bits that the field names.
use Rattle.std.proofs.Common.{◌∙◌, ◌<◌, ◌+◌, ◌-◌, ◌/◌, ◌^◌, ap, arith, bit_and}
use Rattle.std.proofs.lemmas.Nat.{one_shl, and_mask}
use Rattle.fd_pte.proofs.bits.field.Goals as goal

pub returns : goal.returns
returns c =
    let width = c.args.high + 1 - c.args.low in
    let narrow : width < 64 = omega arith in
    let shifted = c.args.bits / 2 ^ c.args.low in
    ap (λ power. bit_and shifted (power - 1)) (one_shl width 64 narrow) ∙ and_mask shifted width
