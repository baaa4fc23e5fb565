use Rattle.fd_netserver.proofs.Complete.{again, ends}
use Rattle.fd_netserver.proofs.laws.a_whole_session_is_finished.Goals as goal

pub returns : goal.returns
returns c = record { ends = ends; again = again }
