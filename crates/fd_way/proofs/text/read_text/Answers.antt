-- A line more is written, or none is left.
use Rattle.std.proofs.Common.{◌≡◌, ◌≤◌, ◌+◌, ◌++◌, ℕ, min, List, [], length, drop, slice_range, sym, ◌∙◌, ap, arith}
use Rattle.std.proofs.lemmas.List.{append_assoc, append-nil, drop_all}
use Rattle.fd_way.specs.ReadText.{line_of, read_text}
use Rattle.fd_way.proofs.Lines.{read_text-nil, text_at}
use Rattle.fd_way.proofs.text.read_text.Goals as goal

pub loop-at-preserved : goal.loop-at-preserved
loop-at-preserved c =
    let so_far : List ℕ = c.loop-at.text.items in
    let va : ℕ = c.args.va + c.loop-at.at in
    let bytes : List ℕ = c.args.bytes.now in
    let line : List ℕ = line_of va (slice_range bytes c.loop-at.at (min (c.loop-at.at + 16) (length bytes))) in
    let rest : List ℕ = read_text (c.args.va + (c.loop-at.at + 16)) (drop (c.loop-at.at + 16) bytes) in
    let grown : c.extend_from_slice.new.self.items ≡ so_far ++ line =
    c.in_ok-extend_from_slice.ensures.items
    ∙ ap (λ l. so_far ++ l) (c.put_line-count.ensures.line ∙ ap (λ end. line_of va (slice_range bytes c.loop-at.at end)) c.min-end.ensures) in
    ap (λ text. text ++ rest) grown
    ∙ append_assoc so_far line rest
    ∙ ap (λ text. so_far ++ text) (sym (text_at c.args.va c.loop-at.at bytes c.loop-at-test.true))
    ∙ c.loop-at.invariant

pub returns : goal.returns
returns c =
    let text : List ℕ = c.loop-at.text.items in
    let end : length c.args.bytes.now ≤ c.loop-at.at = omega (arith, c.loop-at-test.false) in
    let none : read_text (c.args.va + c.loop-at.at) (drop c.loop-at.at c.args.bytes.now) ≡ [] =
    ap (read_text (c.args.va + c.loop-at.at)) (drop_all c.loop-at.at c.args.bytes.now end) ∙ read_text-nil (c.args.va + c.loop-at.at) in
    sym (append-nil text) ∙ ap (λ l. text ++ l) (sym none) ∙ c.loop-at.invariant
