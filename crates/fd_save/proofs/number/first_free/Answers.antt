use Rattle.std.proofs.Common.{arith}
use Rattle.fd_site.specs.Contents.{file_of}
use Rattle.fd_save.proofs.Turns.{all_taken}
use Rattle.fd_save.proofs.number.first_free.Goals as goal

pub returns-clause-number : goal.returns-clause-number
returns-clause-number g c told is = all_taken (file_of told) c.args.from c.requires (λ earlier below. c.loop-tries.invariant.taken told is earlier (omega arith))
