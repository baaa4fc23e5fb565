use Rattle.fd_judge.proofs.CutLaw.{this_after}
use Rattle.fd_judge.proofs.laws.each_whole_dump_is_found.Goals as goal

pub returns : goal.returns
returns c = this_after
