-- The law is a lemma of Decided.
use Rattle.fd_way.proofs.Decided.{stop_decides}
use Rattle.fd_way.proofs.laws.each_number_of_sectors_decides.Goals as goal

pub returns : goal.returns
returns c = stop_decides
