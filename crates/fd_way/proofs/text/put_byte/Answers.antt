-- Three characters are put.
use Rattle.std.proofs.Common.{◌++◌, ◌∷◌, [], take, sym, ◌∙◌, ap, arith}
use Rattle.fd_way.proofs.Digits.{byte_digits, three_put}
use Rattle.fd_way.proofs.text.put_byte.Goals as goal

pub returns : goal.returns
returns c =
    let line = c.args.line.now in
    three_put line c.args.at 32 c.digit.result c.digit-2.result (omega (arith, c.told-line))
    ∙ (λ i. take c.args.at line ++ 32 ∷ c.digit.ensures i ∷ c.digit-2.ensures i ∷ [])
    ∙ ap (λ l. take c.args.at line ++ 32 ∷ l) (sym (byte_digits c.args.byte c.ranges.byte.fits))
