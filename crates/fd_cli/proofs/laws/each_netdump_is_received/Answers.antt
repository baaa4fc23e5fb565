use Rattle.fd_cli.proofs.Receiving as lemmas
use Rattle.fd_cli.proofs.laws.each_netdump_is_received.Goals as goal

pub returns : goal.returns
returns c = lemmas.each_netdump_is_received c.a_done_client_was_served.ensures
