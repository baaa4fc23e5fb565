use Rattle.fd_cli.proofs.Composed as lemmas
use Rattle.fd_cli.proofs.laws.each_saved_dump_lists_as_its_image.Goals as goal

pub returns : goal.returns
returns c = lemmas.lists_what_was_dumped c.each_save_is_saved.ensures c.the_walk_of_a_minidump_is_the_images.ensures
