use Rattle.std.proofs.Common.{refl}
use Rattle.fd_netclient.proofs.Marking.{marked-zero}
use Rattle.fd_netclient.proofs.marks.Marks.none.Goals as goal

pub returns : goal.returns
returns c = marked-zero 0 0 refl
