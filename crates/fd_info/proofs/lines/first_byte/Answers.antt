use Rattle.std.proofs.Common.{◌∙◌}
use Rattle.std.proofs.lemmas.List.{take_rest}
use Rattle.fd_info.proofs.Escapes.{IsSpelled, spelled}
use Rattle.fd_info.proofs.lines.first_byte.Goals as goal

pub returns-then-spelling-eq92-clause-byte : goal.returns-then-spelling-eq92-clause-byte
returns-then-spelling-eq92-clause-byte c byte rest small is =
    let s : IsSpelled byte c.args.spelling.now rest = spelled byte c.args.spelling.now rest small is c.if-spelling-eq92.true in
    c.byte_of.ensures byte small s.high s.low

pub returns-then-spelling-eq92-clause-rest : goal.returns-then-spelling-eq92-clause-rest
returns-then-spelling-eq92-clause-rest c byte rest small is =
    let s : IsSpelled byte c.args.spelling.now rest = spelled byte c.args.spelling.now rest small is c.if-spelling-eq92.true in
    take_rest c.args.spelling.now 4 ∙ s.behind
