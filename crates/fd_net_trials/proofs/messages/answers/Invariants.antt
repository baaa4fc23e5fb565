use Rattle.fd_netserver.specs.Running.{HasServed}
use Rattle.fd_net_trials.proofs.messages.answers.Given as goal

abbrev pub invariant-loop-sent : goal.invariant-loop-sent
invariant-loop-sent g l = HasServed (g.S.Site.seen l.site).told l.server
