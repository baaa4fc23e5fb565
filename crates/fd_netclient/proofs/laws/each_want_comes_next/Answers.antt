use Rattle.fd_netclient.proofs.Wants.{wants_next}
use Rattle.fd_netclient.proofs.laws.each_want_comes_next.Goals as goal

pub returns : goal.returns
returns c dump h patience some trace = wants_next dump h patience some trace
