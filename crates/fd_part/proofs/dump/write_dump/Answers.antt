use Rattle.fd_part.proofs.Blocks.{IsBlock-good}
use Rattle.fd_part.proofs.WholeDump.{if_stopped, stopped_journal, stopped_short}
use Rattle.fd_part.proofs.dump.write_dump.Goals as goal

pub returns-clause-stopped : goal.returns-clause-stopped
returns-clause-stopped g c =
    let bounds = IsBlock-good _ _ c.requires.partition in
    if_stopped c.in_ok-wrote.wrote (stopped_journal _ _ _ _ c.requires.labels bounds.low c.requires.small bounds.high _ _ c.args.stop) (rw c.unwrap_or.ensures at c.in_ok-wrote.ensures.stopped)

pub returns-clause-short : goal.returns-clause-short
returns-clause-short g c =
    let bounds = IsBlock-good _ _ c.requires.partition in
    if_stopped c.in_ok-wrote.wrote (stopped_short _ _ _ _ c.requires.labels bounds.low c.requires.small bounds.high _ _ c.args.stop) (rw c.unwrap_or.ensures at c.in_ok-wrote.ensures.stopped)
