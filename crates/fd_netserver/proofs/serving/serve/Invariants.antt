use Rattle.std.proofs.Common.{◌≡◌, ◌≤◌, List, Option, length}
use Rattle.fd_site.specs.Seen.{Frame}
use Rattle.fd_netserver.specs.Serving.{finished_in}
use Rattle.fd_netserver.specs.Turning.{IsPaced, IsServed}
use Rattle.fd_netserver.specs.Session.{Turn}
use Rattle.fd_netserver.specs.Stands.{dones}
use Rattle.fd_netserver.proofs.serving.serve.Given as goal

abbrev pub invariant-loop-pace : goal.invariant-loop-pace
invariant-loop-pace g l = record {
  happened : List (Option Turn);
  served : IsServed (g.S.Site.seen l.initial.site) (g.S.Site.seen l.site) (g.P.Ports.seen l.initial.ports).told (g.P.Ports.seen l.ports).told l.server happened;
  noted : length l.served.list.items ≡ dones l.server;
  listed : l.served.list.items ≡ finished_in happened;
  paced : IsPaced l.limits l.pace happened;
  frame : Frame (g.S.Site.seen l.initial.site) (g.S.Site.seen l.site);
  count : (g.P.Ports.seen l.initial.ports).faults ≤ (g.P.Ports.seen l.ports).faults;
}

abbrev pub decreases-loop-pace : goal.decreases-loop-pace
decreases-loop-pace g l = l.pace.left
