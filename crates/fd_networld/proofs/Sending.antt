-- What was sent, in the lists that the code keeps.
use Rattle.std.proofs.Common.{◌≡◌, List, [], ◌∷◌, ◌++◌, Option, sym, ◌∙◌, ap, append_assoc}
use Rattle.std.specs.List.{cons_option, flat_map}
use Rattle.std.proofs.lemmas.List.Elements.{filter_map-append}
use Rattle.fd_networld.specs.Sent.{Exchange, all_answers, answer_to, answers_in}
use Rattle.fd_networld.specs.declared.answer.Answer.{Answer}

-- an exchange more, and its answer
pub noted : (answers : List Answer) (earlier : List (List Exchange)) (run now : List Exchange) (x : Exchange) (a : Option Answer)
    → answers ≡ all_answers (record { earlier = earlier; run = run }) → now ≡ run ++ x ∷ [] → a ≡ answer_to x.input.peer x.reply
    → answers ++ cons_option a [] ≡ all_answers (record { earlier = earlier; run = now })
noted answers earlier run now x a are is answered =
    let all : List Exchange = flat_map (λ (r : List Exchange). r) earlier in
    ap (λ (o : Option Answer). answers ++ cons_option o []) answered
    ∙ ap (λ (l : List Answer). l ++ answers_in (x ∷ [])) are
    ∙ sym (filter_map-append (λ (y : Exchange). answer_to y.input.peer y.reply) (all ++ run) (x ∷ []))
    ∙ ap answers_in (append_assoc all run (x ∷ []))
    ∙ ap (λ (l : List Exchange). answers_in (all ++ l)) (sym is)
