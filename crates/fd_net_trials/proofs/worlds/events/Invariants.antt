use Rattle.fd_networld.specs.World.{AreForeign}
use Rattle.fd_net_trials.proofs.worlds.events.Given as goal

abbrev pub invariant-loop-letter : goal.invariant-loop-letter
invariant-loop-letter l = AreForeign l.events.items
