use Rattle.fd_judge.proofs.CutLaw.{refused_or_this}
use Rattle.fd_judge.proofs.laws.each_cut_is_refused_or_whole.Goals as goal

pub returns : goal.returns
returns c = refused_or_this
