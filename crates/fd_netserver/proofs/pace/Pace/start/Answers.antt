use Rattle.fd_netserver.proofs.Pacing.{paced_start}
use Rattle.fd_netserver.proofs.pace.Pace.start.Goals as goal

pub returns : goal.returns
returns c = paced_start c.args.limits c.requires
