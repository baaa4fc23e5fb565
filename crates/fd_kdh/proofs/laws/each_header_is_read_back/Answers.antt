use Rattle.fd_kdh.proofs.Headers.{decoded-dump_header}
use Rattle.fd_kdh.proofs.laws.each_header_is_read_back.Goals as goal

pub returns : goal.returns
returns c = decoded-dump_header
