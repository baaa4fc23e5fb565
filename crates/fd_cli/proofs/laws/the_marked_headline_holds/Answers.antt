use Rattle.fd_cli.proofs.laws.the_marked_headline_holds.Goals as goal

pub returns : goal.returns
returns c = record {
  cut = c.each_cut_marked_dump_is_saved_whole.ensures;
  sent = c.each_netdump_is_delivered.ensures;
  read = c.each_read_of_a_minidump_is_the_images.ensures;
}
