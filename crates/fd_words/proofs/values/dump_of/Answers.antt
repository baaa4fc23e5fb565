use Rattle.fd_words.proofs.Other.{no_dump_of_many, no_dump_of_no}
use Rattle.fd_words.proofs.values.dump_of.Goals as goal
use Rattle.fd_words.proofs.values.dump_of.Goals.{in_default-via-then-values-lt1, in_default-via-else-values-lt1+else-values-lt2}
use Rattle.std.proofs.Common.{rules}

pub returns-in_default-clause-value : goal.returns-in_default-clause-value
returns-in_default-clause-value c = elim c.in_default.branch [
  | in_default-via-then-values-lt1 w ↦ no_dump_of_no c.args.mark c.args.values.now (search rules)
  | in_default-via-else-values-lt1+else-values-lt2 w ↦ no_dump_of_many c.args.mark c.args.values.now (search rules)
]
