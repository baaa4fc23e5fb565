use Rattle.fd_cli.proofs.Delivering as lemmas
use Rattle.fd_cli.proofs.laws.each_netdump_is_delivered.Goals as goal

pub returns : goal.returns
returns c = lemmas.each_netdump_is_delivered c.a_done_client_was_served.ensures
