use Rattle.fd_cli.proofs.Cleared as lemmas
use Rattle.fd_cli.proofs.laws.each_cleared_dump_is_refused.Goals as goal

pub returns : goal.returns
returns c = lemmas.each_cleared_dump_is_refused
