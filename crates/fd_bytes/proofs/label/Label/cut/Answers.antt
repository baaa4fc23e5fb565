use Rattle.std.proofs.Common.{◌≡◌, ◌-◌, ℕ, length, take, sym, subst, ◌∙◌, ap, arith, length-take}
use Rattle.fd_bytes.specs.Label.{IsText, text_of}
use Rattle.fd_bytes.proofs.Texts.{IsText-take, text_in_front}
use Rattle.fd_bytes.proofs.Vectors.{taken}
use Rattle.fd_bytes.proofs.label.Label.cut.Given.{Over}
use Rattle.fd_bytes.proofs.label.Label.cut.Goals as goal

-- what the label took up
held : (g : Over) (c : goal.After-try_extend_from_slice-fits g) → c.try_extend_from_slice-fits.new.self.items ≡ take (g.row.N - 1) (text_of c.args.bytes.now)
held g c =
    let text : c.text_in-text.result.now ≡ take (g.row.N - 1) (text_of c.args.bytes.now) = text_in_front (g.row.N - 1) c.args.bytes.now _ _ c.text_in-text.ensures c.min.ensures in
    taken c.try_extend_from_slice-fits.result _ _ c.text_in-text.result.now g.row.N c.try_extend_from_slice-fits.ensures.variant c.try_extend_from_slice-fits.ensures.ok c.new-label.ensures
    (omega (arith, ap length text, length-take {A = ℕ}))
    ∙ text

pub invariant_of-result : goal.invariant_of-result
invariant_of-result g c = subst IsText (sym (held g c)) (IsText-take (g.row.N - 1) c.args.bytes.now)

pub returns : goal.returns
returns g c = held g c
