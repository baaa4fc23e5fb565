-- The law is a lemma of ImageWalks.
use Rattle.fd_way.proofs.ImageWalks.{walk_is}
use Rattle.fd_way.proofs.laws.the_walk_of_a_minidump_is_the_images.Goals as goal

pub returns : goal.returns
returns c = λ m valid. walk_is m valid c.each_header_is_read_back.ensures
