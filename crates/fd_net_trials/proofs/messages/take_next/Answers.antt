use Rattle.fd_netserver.proofs.Running.{has_next, run_there}
use Rattle.fd_net_trials.proofs.messages.take_next.Goals as goal

pub take-requires : goal.take-requires
take-requires g c = record { there = run_there _ _ c.requires }

pub returns : goal.returns
returns g c = has_next c.take.result _ _ _ _ (record { slot = c.args.slot; peer = c.args.peer; bytes = c.args.bytes.now }) c.requires c.take.ensures.turn c.take.ensures.stands
