use Rattle.fd_cli.proofs.Composed as lemmas
use Rattle.fd_cli.proofs.laws.each_cut_marked_dump_is_saved_whole.Goals as goal

pub returns : goal.returns
returns c = lemmas.each_cut_marked_dump_is_saved_whole c.each_save_is_saved.ensures
