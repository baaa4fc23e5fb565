use Rattle.std.proofs.Common.{◌+◌, ◌≤◌, length, take, slice_range, sym, ap, ◌∙◌, arith, length-take}
use Rattle.fd_raw.proofs.Written.{front-grows}
use Rattle.fd_raw.specs.Written.{written}
use Rattle.fd_raw.proofs.tests.copied.Goals as goal

pub loop-filling-preserved : goal.loop-filling-preserved
loop-filling-preserved c =
    let all = c.args.bytes.now in let xs = c.loop-filling.filling.bytes in let n = c.min-step.result in let ws = c.copy_from_slice.new.self in
    let at = c.len-at.ensures.value in let grown = c.grow_by_zeros.ensures in let kept = c.loop-filling.invariant in
    let within : length xs + n ≤ length all = omega (arith, c.min-step.ensures, at, kept.1) in
    let next = c.copy_from_slice.ensures.after ∙ ap (λ k. slice_range all k (k + n)) at in
    let more = (λ i. written (grown i).bytes (at i) n ws) ∙ front-grows all xs n ws kept.2 within next in
    let long = ap length more ∙ omega (arith, within, length-take (length xs + n) all) in
    (ap (λ f. f.room) grown ∙ kept.0, omega (arith, long, within), more ∙ ap (λ k. take k all) (sym long))
