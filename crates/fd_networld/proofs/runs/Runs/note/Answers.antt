use Rattle.std.proofs.Common.{◌++◌, ◌∷◌, [], List, Some, None, ◌∙◌, sym, ap}
use Rattle.std.proofs.lemmas.List.{append-nil}
use Rattle.fd_networld.specs.Runs.{exchange}
use Rattle.fd_networld.specs.declared.answer.Answer.{Answer}
use Rattle.fd_networld.proofs.Sending.{noted}
use Rattle.fd_networld.proofs.runs.Runs.note.Goals as goal

pub invariant_of-self-in-Some : goal.invariant_of-self-in-Some
invariant_of-self-in-Some c =
    c.push_reserved.ensures.items ∙ ap (λ (l : List Answer). l ++ c.in-Some.answer ∷ []) c.reserve.ensures.items
    ∙ noted c.self.inside.answers.items c.self.inside.earlier.items c.self.inside.run c.note.new.self (exchange c.args.it)
    (Some c.in-Some.answer) c.self.invariant c.in_ok-note.ensures.ok c.in-Some.ensures

pub invariant_of-self-in_default : goal.invariant_of-self-in_default
invariant_of-self-in_default c =
    c.reserve.ensures.items ∙ sym (append-nil c.self.inside.answers.items)
    ∙ noted c.self.inside.answers.items c.self.inside.earlier.items c.self.inside.run c.note.new.self (exchange c.args.it) None c.self.invariant c.in_ok-note.ensures.ok c.in_default.ensures
