use Rattle.std.proofs.Common.{◌∷◌, ◌++◌}
use Rattle.fd_info.proofs.OneLine.{line_ends, rest_cut, value_cut}
use Rattle.fd_info.proofs.lines.Lines.value.Goals as goal

pub returns-in-Some-clause-value : goal.returns-in-Some-clause-value
returns-in-Some-clause-value c value rest one is =
    value_cut c.behind-line.result.now value rest c.in-Some.end one (c.behind-line.ensures (value ++ 10 ∷ rest) is) c.in-Some.ensures.place

pub returns-in-Some-clause-rest : goal.returns-in-Some-clause-rest
returns-in-Some-clause-rest c value rest one is =
    rest_cut c.behind-line.result.now value rest c.in-Some.end one (c.behind-line.ensures (value ++ 10 ∷ rest) is) c.in-Some.ensures.place

pub returns-in-None-clause-value : goal.returns-in-None-clause-value
returns-in-None-clause-value c value rest one is =
    absurd (line_ends c.behind-line.result.now value rest one (c.behind-line.ensures (value ++ 10 ∷ rest) is) c.in-None.ensures.place)

pub returns-in-None-clause-rest : goal.returns-in-None-clause-rest
returns-in-None-clause-rest c value rest one is =
    absurd (line_ends c.behind-line.result.now value rest one (c.behind-line.ensures (value ++ 10 ∷ rest) is) c.in-None.ensures.place)
