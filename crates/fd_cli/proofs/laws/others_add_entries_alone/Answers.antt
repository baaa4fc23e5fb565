use Rattle.fd_cli.proofs.Sound.{adds_entries_alone}
use Rattle.fd_cli.proofs.laws.others_add_entries_alone.Goals as goal

pub returns : goal.returns
returns c = adds_entries_alone
