use Rattle.fd_netclient.proofs.Marking.{marked-all}
use Rattle.fd_netclient.proofs.marks.Marks.all.Goals as goal

pub returns : goal.returns
returns c = marked-all c.args.first c.args.count c.requires.few
