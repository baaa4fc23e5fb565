use Rattle.fd_cli.proofs.Receiving.{has_turns_always}
use Rattle.fd_cli.proofs.laws.each_netdumpd_has_turns.Goals as goal

pub returns : goal.returns
returns c = has_turns_always
