use Rattle.fd_netserver.proofs.Running.{has_more, has_none, run_there}
use Rattle.fd_netserver.proofs.laws.each_turn_may_be_taken.Goals as goal

pub returns : goal.returns
returns c = record { new = has_none; there = run_there; more = has_more }
