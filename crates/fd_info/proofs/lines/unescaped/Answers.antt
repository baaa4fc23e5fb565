use Rattle.std.proofs.Common.{◌≡◌, ◌≢◌, get_or, set, ◌∙◌, arith, below_more, get_or-set_other, get_or-set_same}
use Rattle.std.proofs.Math.ListN.{length-set}
use Rattle.fd_info.proofs.Escapes.{byte_taken, rest_taken, text_in_field}
use Rattle.fd_info.proofs.lines.unescaped.Goals as goal

pub loop-i-preserved : goal.loop-i-preserved
loop-i-preserved g c = record {
  size = length-set c.loop-i.field c.loop-i.i c.first_byte-byte.result.0 ∙ c.loop-i.invariant.size;
  bytes = λ text label is.
      below_more (λ k. get_or (set c.loop-i.field c.loop-i.i c.first_byte-byte.result.0) k 0 ≡ get_or text k 0) c.loop-i.i
      (λ k below.
      let other : k ≢ c.loop-i.i = omega arith in
      get_or-set_other c.loop-i.field c.loop-i.i k c.first_byte-byte.result.0 0 other ∙ c.loop-i.invariant.bytes text label is k below)
      (
      get_or-set_same c.loop-i.field c.loop-i.i c.first_byte-byte.result.0 0 (omega (arith, c.loop-i.invariant.size))
      ∙ byte_taken text c.loop-i.rest.now c.first_byte-byte.result.1.now c.loop-i.i c.first_byte-byte.result.0 g.row.N label
      (c.loop-i.invariant.rest text label is) c.first_byte-byte.ensures.byte c.first_byte-byte.ensures.end
      );
  rest = λ text label is.
      rest_taken text c.loop-i.rest.now c.first_byte-byte.result.1.now c.loop-i.i c.first_byte-byte.result.0 g.row.N label
      (c.loop-i.invariant.rest text label is) c.first_byte-byte.ensures.rest c.first_byte-byte.ensures.still;
}

pub returns : goal.returns
returns g c text label is =
    c.read.ensures
    ∙ text_in_field c.loop-i.field text label.text.no_zero (omega (arith, label.short, c.loop-i.invariant.size))
    (λ k inside. c.loop-i.invariant.bytes text label is k (omega (arith, c.loop-i.invariant.size)))
