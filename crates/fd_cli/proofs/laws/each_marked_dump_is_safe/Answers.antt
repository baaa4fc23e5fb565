use Rattle.fd_cli.proofs.Cuts as lemmas
use Rattle.fd_cli.proofs.laws.each_marked_dump_is_safe.Goals as goal

pub returns : goal.returns
returns c = lemmas.each_marked_dump_is_safe
