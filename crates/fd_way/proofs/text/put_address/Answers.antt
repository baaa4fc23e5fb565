-- A digit more is written.
use Rattle.std.proofs.Common.{◌≡◌, ℕ, suc, ◌-◌, ◌++◌, take, drop, sym, ◌∙◌, ap, arith}
use Rattle.std.proofs.lemmas.List.{append-nil, length-set}
use Rattle.fd_way.proofs.Digits.{address_digits, digit_put, last_digits, last_digits-none}
use Rattle.fd_way.proofs.text.put_address.Goals as goal

pub loop-place-init : goal.loop-place-init
loop-place-init c = record { within = omega arith; long = c.told-line; digits = append-nil (last_digits 16 c.args.va) }

pub loop-place-preserved : goal.loop-place-preserved
loop-place-preserved c =
    let i = c.loop-place.invariant in
    let line = c.loop-place.line in
    let place : ℕ = c.loop-place.place - 1 in
    let here : suc place ≡ c.loop-place.place = omega arith in
    record {
      within = omega arith;
      long = length-set line place c.digit.result ∙ i.long;
      digits = digit_put line place c.loop-place.rest c.digit.result (omega (arith, i.within)) (omega (arith, i.long)) c.digit.ensures
          ∙ ap (λ k. last_digits k c.loop-place.rest ++ take (16 - k) (drop k line)) here
          ∙ i.digits;
    }

pub returns : goal.returns
returns c =
    let line = c.loop-place.line in
    let rest = c.loop-place.rest in
    let none : c.loop-place.place ≡ 0 = omega arith in
    sym (ap (λ l. l ++ take 16 line) (last_digits-none rest))
    ∙ sym (ap (λ k. last_digits k rest ++ take (16 - k) (drop k line)) none)
    ∙ c.loop-place.invariant.digits
    ∙ sym (address_digits c.args.va c.ranges.va.fits)
