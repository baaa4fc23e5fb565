use Rattle.std.proofs.Common.{◌∙◌}
use Rattle.std.specs.Fmt.{decimal}
use Rattle.fd_info.proofs.Numbers.{read_decimal}
use Rattle.fd_info.proofs.OneLine.{decimal_one_line}
use Rattle.fd_info.proofs.lines.Lines.number.Goals as goal

pub returns-clause-number : goal.returns-clause-number
returns-clause-number c n rest small is =
    c.unwrap_or.ensures
    ∙ read_decimal c.read_number.result c.value.result.now n c.read_number.ensures.number c.read_number.ensures.bad
    (c.value.ensures.value (decimal n) rest (decimal_one_line n small) is) small

pub returns-clause-rest : goal.returns-clause-rest
returns-clause-rest c n rest small is = c.value.ensures.rest (decimal n) rest (decimal_one_line n small) is
