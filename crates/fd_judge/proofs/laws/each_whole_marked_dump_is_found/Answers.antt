use Rattle.fd_judge.proofs.MarkedLaw.{found_marked}
use Rattle.fd_judge.proofs.laws.each_whole_marked_dump_is_found.Goals as goal

pub returns : goal.returns
returns c = λ part body h block journal good room header. found_marked part body h block good room header journal
