use Rattle.fd_cli.proofs.Stopped as lemmas
use Rattle.fd_cli.proofs.laws.each_saved_file_is_left.Goals as goal

pub returns : goal.returns
returns c = lemmas.each_saved_file_is_left c.no_saved_file_is_touched.ensures
