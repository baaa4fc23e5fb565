use Rattle.fd_info.specs.Info.{word_digits}
use Rattle.fd_info.proofs.Escapes.{word_one_line}
use Rattle.fd_info.proofs.lines.Lines.word.Goals as goal

pub returns-clause-word : goal.returns-clause-word
returns-clause-word c word rest small is = c.word_of.ensures word small (c.value.ensures.value (word_digits word) rest (word_one_line word) is)

pub returns-clause-rest : goal.returns-clause-rest
returns-clause-rest c word rest small is = c.value.ensures.rest (word_digits word) rest (word_one_line word) is
