use Rattle.std.proofs.Common.{None}
use Rattle.fd_cli.proofs.Calls.{not_a_command, starved_at_once}
use Rattle.fd_cli.proofs.run.refuse_words.Goals as goal

pub returns-in_err-reply : goal.returns-in_err-reply
returns-in_err-reply c found = starved_at_once None found _ c.from_residual.ensures.1

pub returns : goal.returns
returns c found = not_a_command found c.in_ok-reply.reply c.in_ok-reply.ensures
