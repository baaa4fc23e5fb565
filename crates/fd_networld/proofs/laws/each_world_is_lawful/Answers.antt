use Rattle.fd_networld.proofs.Lawful.{all_lawful, all_delivered}
use Rattle.fd_networld.proofs.laws.each_world_is_lawful.Goals as goal

pub returns-clause-lawful : goal.returns-clause-lawful
returns-clause-lawful c = λ dump h patience. all_lawful dump h patience

pub returns-clause-delivered : goal.returns-clause-delivered
returns-clause-delivered c = λ dump h patience. all_delivered dump h patience
