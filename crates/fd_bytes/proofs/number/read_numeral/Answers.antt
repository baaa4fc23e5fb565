use Rattle.std.proofs.Common.{◌*◌, ◌<◌, length, sym, ◌∙◌, ap, arith}
use Rattle.std.proofs.lemmas.Bool.Decides.{nat_tests}
use Rattle.fd_bytes.proofs.Numerals.{all_digits-more, numeral-other_at, numeral-over, numeral-read, worth-more}
use Rattle.fd_bytes.proofs.number.read_numeral.Goals as goal

pub returns-in_err-digit : goal.returns-in_err-digit
returns-in_err-digit c =
    c.from_residual.ensures ∙ sym (numeral-other_at c.args.radix c.args.most c.args.digits.now c.loop-byte.byte-index (omega arith) c.in_err-digit.ensures.value)

pub returns-in_err-checked_mul : goal.returns-in_err-checked_mul
returns-in_err-checked_mul c =
    c.from_residual-in_err-checked_mul.ensures
    ∙ sym (numeral-over c.args.radix c.args.most c.loop-byte.value c.in_ok-digit.digit c.args.digits.now c.loop-byte.byte-index (omega arith) (omega arith)
    c.loop-byte.invariant.value c.in_ok-digit.ensures.value.1 (omega (arith, c.in_err-checked_mul.ensures, ap (λ r. c.loop-byte.value * r) c.from.ensures)))

pub returns-in_err-value : goal.returns-in_err-value
returns-in_err-value c =
    c.from_residual-in_err-value.ensures
    ∙ sym (numeral-over c.args.radix c.args.most c.loop-byte.value c.in_ok-digit.digit c.args.digits.now c.loop-byte.byte-index (omega arith) (omega arith)
    c.loop-byte.invariant.value c.in_ok-digit.ensures.value.1
    (omega (
      arith,
      c.in_err-value.ensures,
      c.in_ok-checked_mul.ensures,
      ap (λ r. c.loop-byte.value * r) c.from.ensures,
      c.from-in-loop-byte.ensures,
    )))

pub loop-byte-preserved : goal.loop-byte-preserved
loop-byte-preserved c = record {
  digits = all_digits-more c.args.radix c.args.digits.now c.loop-byte.byte-index (omega arith) c.loop-byte.invariant.digits c.in_ok-digit.ensures.value.0;
  value = worth-more c.args.radix c.loop-byte.value c.in_ok-digit.digit c.in_ok-value.value c.args.digits.now
      c.loop-byte.byte-index (omega arith) c.loop-byte.invariant.value c.in_ok-digit.ensures.value.1
      (omega (
        arith,
        c.in_ok-value.ensures,
        c.in_ok-checked_mul.ensures,
        ap (λ r. c.loop-byte.value * r) c.from.ensures,
        c.from-in-loop-byte.ensures,
      ));
  small = omega (arith, c.in_ok-value.ensures);
}

pub returns : goal.returns
returns c =
    let some : 0 < length c.args.digits.now = grind (arith, nat_tests, c.if-is_empty.ensures) in
    sym (numeral-read c.args.radix c.args.most c.loop-byte.value c.args.digits.now c.loop-byte.byte-index some (omega arith)
    (omega arith) c.loop-byte.invariant.digits c.loop-byte.invariant.value c.loop-byte.invariant.small)
