-- A generated image keeps all rules.
use Rattle.std.proofs.Common.{◌≡◌, ◌∙◌, Some, None, sym, ap, arith}
use Rattle.fd_image.specs.Image.{broken_rule}
use Rattle.fd_gen.proofs.Rules.{generated-unbroken}
use Rattle.fd_gen.proofs.image.make.Goals as goal

pub unreachable-requires : goal.unreachable-requires
unreachable-requires c =
    let unbroken : broken_rule c.in_ok-parts.field-0 ≡ None = ap broken_rule c.in_ok-parts.ensures ∙ generated-unbroken c.args.arch c.args.number (omega arith) in
    let clash : Some c.in-Err.field-0 ≡ None = sym c.in-Err.ensures.broken ∙ unbroken in
    cc
