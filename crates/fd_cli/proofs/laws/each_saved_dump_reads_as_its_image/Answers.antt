use Rattle.fd_cli.proofs.Composed as lemmas
use Rattle.fd_cli.proofs.laws.each_saved_dump_reads_as_its_image.Goals as goal

pub returns : goal.returns
returns c = lemmas.reads_what_was_dumped c.each_save_is_saved.ensures c.each_read_of_a_minidump_is_the_images.ensures
