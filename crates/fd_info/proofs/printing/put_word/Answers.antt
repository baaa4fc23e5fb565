use Rattle.std.proofs.Common.{List, ℕ, [], ◌++◌, get_or, ◌∙◌, ap}
use Rattle.fd_bytes.specs.Printed.{hex}
use Rattle.fd_info.specs.Info.{line}
use Rattle.fd_info.proofs.Lined.{four_parts}
use Rattle.fd_info.proofs.printing.put_word.Goals as goal

pub returns-clause-items : goal.returns-clause-items
returns-clause-items c =
    four_parts _ _ _ _ _ _ _ _ _ _ _ _ c.put.ensures.items c.put_digits.ensures.items c.put_digits-2.ensures.items c.put_digits-3.ensures.items c.put_digits-4.ensures.items
    c.push.ensures.items
    ∙ ap (λ (bs : List ℕ). c.args.text.now.items ++ line c.args.key.now (hex 2 (get_or bs 0 0) ++ (hex 2 (get_or bs 1 0) ++ (hex 2 (get_or bs 2 0) ++ (hex 2 (get_or bs 3 0) ++ [])))) [])
    c.to_be_bytes.ensures
