use Rattle.fd_cli.proofs.Sound.{only_done_or_failed_adds}
use Rattle.fd_cli.proofs.laws.only_done_or_failed_calls_add.Goals as goal

pub returns : goal.returns
returns c = only_done_or_failed_adds
