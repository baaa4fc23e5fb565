use Rattle.fd_netclient.proofs.Ends.{one_outcome}
use Rattle.fd_netclient.proofs.laws.a_complete_trace_has_one_outcome.Goals as goal

pub returns : goal.returns
returns c dump h patience some trace = one_outcome dump h patience some trace
