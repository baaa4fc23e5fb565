use Rattle.fd_info.specs.Info.{escaped}
use Rattle.fd_info.proofs.Escapes.{escaped_one_line}
use Rattle.fd_info.proofs.lines.Lines.text.Goals as goal

pub returns-clause-text : goal.returns-clause-text
returns-clause-text g c text rest label is = c.unescaped.ensures text label (c.value.ensures.value (escaped text) rest (escaped_one_line text label.text.bytes) is)

pub returns-clause-rest : goal.returns-clause-rest
returns-clause-rest g c text rest label is = c.value.ensures.rest (escaped text) rest (escaped_one_line text label.text.bytes) is
