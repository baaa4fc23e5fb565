use Rattle.fd_cli.proofs.ClientRuns.{is_run_always}
use Rattle.fd_cli.proofs.laws.each_netdump_is_a_run.Goals as goal

pub returns : goal.returns
returns c = is_run_always
