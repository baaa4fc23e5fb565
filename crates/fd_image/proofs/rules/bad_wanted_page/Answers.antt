-- Page by page the order is kept, or the first that breaks it is found.
use Rattle.std.proofs.Common.{◌≡◌, ◌+◌, ℕ, true, false, get_or, sym, refl, arith}
use Rattle.std.proofs.lemmas.Bool.Decides.{nat_tests}
use Rattle.fd_image.specs.Image.{is_page_at_or_after, next_address}
use Rattle.fd_image.proofs.Places.{InOrder-more, InOrder-fails, InOrder-end}
use Rattle.fd_image.proofs.rules.bad_wanted_page.Goals as goal
use Rattle.fd_image.proofs.rules.bad_wanted_page.Goals.{then-page-ne0-via-then-page-ne0, then-page-ne0-via-else-page-ne0+then-from-least}

pub returns-then-page-ne0 : goal.returns-then-page-ne0
returns-then-page-ne0 c =
    let page : ℕ = get_or c.args.wanted.now c.loop-i.i 0 in
    let fails : is_page_at_or_after (c.loop-i.least, page) ≡ false = elim c.then-page-ne0.branch [
      | then-page-ne0-via-then-page-ne0 w ↦ grind (arith, nat_tests)
      | then-page-ne0-via-else-page-ne0+then-from-least w ↦ grind (arith, nat_tests)
    ] in
    sym (InOrder-fails is_page_at_or_after next_address c.args.wanted.now c.loop-i.i c.loop-i.least page 0 c.loop-i.invariant (omega arith) refl fails)

pub loop-i-preserved : goal.loop-i-preserved
loop-i-preserved c =
    let page : ℕ = get_or c.args.wanted.now c.loop-i.i 0 in
    let next : c.from-least.result + 1 ≡ page + 1 = omega arith in
    let passes : is_page_at_or_after (c.loop-i.least, page) ≡ true = grind (arith, nat_tests) in
    rw next (InOrder-more is_page_at_or_after next_address c.args.wanted.now c.loop-i.i c.loop-i.least page 0 c.loop-i.invariant (omega arith) refl passes)

pub returns : goal.returns
returns c = sym (InOrder-end is_page_at_or_after next_address c.args.wanted.now _ _ c.loop-i.invariant (omega arith))
