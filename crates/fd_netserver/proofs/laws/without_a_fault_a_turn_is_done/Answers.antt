use Rattle.fd_netserver.proofs.Unbroken.{done_turn}
use Rattle.fd_netserver.proofs.laws.without_a_fault_a_turn_is_done.Goals as goal

pub returns : goal.returns
returns c = done_turn
