-- Two readings of a file are one.
use Rattle.fd_imgfile.proofs.OneReading.{one_reading}
use Rattle.fd_imgfile.proofs.laws.each_file_has_one_reading.Goals as goal

pub returns : goal.returns
returns c = one_reading
