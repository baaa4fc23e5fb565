use Rattle.fd_judge.proofs.MarkedLaw.{each_cut}
use Rattle.fd_judge.proofs.laws.each_marked_cut_is_old_refused_or_whole.Goals as goal

pub returns : goal.returns
returns c = λ part body h block journal k these good room header. each_cut part body h block good room header journal k these
