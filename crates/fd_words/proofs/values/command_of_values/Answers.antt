use Rattle.fd_words.proofs.Other.{none_of_many, none_of_no}
use Rattle.fd_words.proofs.values.command_of_values.Goals as goal
use Rattle.fd_words.proofs.values.command_of_values.Goals.{in_default-via-then-values-lt1, in_default-via-else-values-lt1+else-values-lt2+else-values-lt3+else-values-lt4+else-values-lt5}
use Rattle.std.proofs.Common.{rules}

pub returns-in_default-clause-value : goal.returns-in_default-clause-value
returns-in_default-clause-value c = elim c.in_default.branch [
  | in_default-via-then-values-lt1 w ↦ none_of_no c.args.name.now c.args.values.now (search rules)
  | in_default-via-else-values-lt1+else-values-lt2+else-values-lt3+else-values-lt4+else-values-lt5 w ↦ none_of_many c.args.name.now c.args.values.now (search rules)
]
