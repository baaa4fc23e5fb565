-- The law is a lemma of SameReads.
use Rattle.fd_way.proofs.SameReads.{same_read}
use Rattle.fd_way.proofs.laws.each_read_of_a_minidump_is_the_images.Goals as goal

pub returns : goal.returns
returns c = λ m va count valid. same_read m valid c.each_header_is_read_back.ensures va count
