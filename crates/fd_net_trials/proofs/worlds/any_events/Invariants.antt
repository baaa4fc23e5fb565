use Rattle.fd_networld.specs.World.{AreForeign}
use Rattle.fd_net_trials.proofs.worlds.any_events.Given as goal

abbrev pub invariant-loop : goal.invariant-loop
invariant-loop l = AreForeign l.events.items
