use Rattle.fd_cli.proofs.Stopped as lemmas
use Rattle.fd_cli.proofs.laws.each_savecore_is_safe.Goals as goal

pub returns : goal.returns
returns c = lemmas.each_savecore_is_safe c.each_cut_of_a_save_is_safe.ensures
