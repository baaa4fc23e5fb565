-- The law is a lemma of Back.
use Rattle.fd_mini.proofs.Back.{page_read_back}
use Rattle.fd_mini.proofs.law.each_header_is_read_back.Goals as goal

pub returns : goal.returns
returns c = page_read_back
