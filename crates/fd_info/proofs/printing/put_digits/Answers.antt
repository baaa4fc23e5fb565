use Rattle.std.proofs.Common.{◌%◌, false, List, ℕ, [], ◌∷◌, ◌++◌, sym, ◌∙◌, ap, arith, append_assoc}
use Rattle.std.specs.Fmt.{digit_glyph}
use Rattle.fd_info.proofs.Digits.{hex_two}
use Rattle.fd_info.proofs.printing.put_digits.Goals as goal

pub returns-clause-items : goal.returns-clause-items
returns-clause-items c =
    c.push-2.ensures.items
    ∙ (λ i. c.push.ensures.items i ++ c.hex_digit-2.ensures i ∷ [])
    ∙ append_assoc c.args.text.now.items (c.hex_digit.result ∷ []) (digit_glyph false (c.args.byte % 16) ∷ [])
    ∙ ap (λ d. c.args.text.now.items ++ d ∷ digit_glyph false (c.args.byte % 16) ∷ []) c.hex_digit.ensures
    ∙ ap (λ (l : List ℕ). c.args.text.now.items ++ l) (sym (hex_two c.args.byte (omega arith)))
