use Rattle.fd_save.proofs.Safe.{saved_after}
use Rattle.fd_save.proofs.laws.each_save_is_saved.Goals as goal

pub returns : goal.returns
returns c = saved_after
