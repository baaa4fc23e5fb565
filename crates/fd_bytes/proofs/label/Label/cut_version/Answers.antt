use Rattle.std.proofs.Common.{◌≡◌, ◌-◌, [], ◌∷◌, ◌++◌, List, ℕ, length, take, sym, subst, ◌∙◌, ap, arith, length-take}
use Rattle.std.proofs.lemmas.List.{take-take}
use Rattle.fd_bytes.specs.Label.{IsText, text_of}
use Rattle.fd_bytes.proofs.Texts.{IsText-push, IsText-take, cut_version_text-long, cut_version_text-short, text_in_front}
use Rattle.fd_bytes.proofs.Vectors.{taken}
use Rattle.fd_bytes.proofs.label.Label.cut_version.Given.{Over}
use Rattle.fd_bytes.proofs.label.Label.cut_version.Goals as goal

-- what the label took up of a text that is short enough
held : (g : Over) (c : goal.After-try_extend_from_slice-fits g) → c.try_extend_from_slice-fits.new.self.items ≡ take g.row.N (text_of c.args.bytes.now)
held g c =
    let text : c.text_in-text.result.now ≡ take g.row.N (text_of c.args.bytes.now) = text_in_front g.row.N c.args.bytes.now _ _ c.text_in-text.ensures c.min.ensures in
    taken c.try_extend_from_slice-fits.result _ _ c.text_in-text.result.now g.row.N c.try_extend_from_slice-fits.ensures.variant c.try_extend_from_slice-fits.ensures.ok c.new-label.ensures
    (omega (arith, ap length text, length-take {A = ℕ}))
    ∙ text

pub invariant_of-result : goal.invariant_of-result
invariant_of-result g c = subst IsText (sym (held g c)) (IsText-take g.row.N c.args.bytes.now)

pub returns-then-text : goal.returns-then-text
returns-then-text g c =
    let text : c.text_in-text.result.now ≡ take g.row.N (text_of c.args.bytes.now) = text_in_front g.row.N c.args.bytes.now _ _ c.text_in-text.ensures c.min.ensures in
    held g c ∙ cut_version_text-short g.row.N c.args.bytes.now (omega (arith, ap length text, length-take {A = ℕ}))

-- and of one that was cut
cut : (g : Over) (c : goal.After-push g) → c.push.new.self.items ≡ take (g.row.N - 2) (text_of c.args.bytes.now) ++ 10 ∷ []
cut g c =
    let text : c.text_in-text.result.now ≡ take g.row.N (text_of c.args.bytes.now) = text_in_front g.row.N c.args.bytes.now _ _ c.text_in-text.ensures c.min.ensures in
    let front : c.try_extend_from_slice-cut.new.self.items ≡ take (g.row.N - 2) c.text_in-text.result.now =
    taken c.try_extend_from_slice-cut.result _ _ (take (g.row.N - 2) c.text_in-text.result.now) g.row.N
    c.try_extend_from_slice-cut.ensures.variant c.try_extend_from_slice-cut.ensures.ok c.new-label.ensures
    (omega (arith, length-take {A = ℕ})) in
    c.push.ensures.items
    ∙ ap (λ (l : List ℕ). l ++ 10 ∷ []) (front ∙ ap (λ (l : List ℕ). take (g.row.N - 2) l) text ∙ take-take (g.row.N - 2) g.row.N (text_of c.args.bytes.now) (omega arith))

pub invariant_of-result-2 : goal.invariant_of-result-2
invariant_of-result-2 g c = subst IsText (sym (cut g c)) (IsText-push _ (IsText-take (g.row.N - 2) c.args.bytes.now))

pub returns : goal.returns
returns g c =
    let text : c.text_in-text.result.now ≡ take g.row.N (text_of c.args.bytes.now) = text_in_front g.row.N c.args.bytes.now _ _ c.text_in-text.ensures c.min.ensures in
    cut g c ∙ sym (cut_version_text-long g.row.N c.args.bytes.now (omega (arith, ap length text, length-take {A = ℕ})))
