-- The world is that of the events so far.
use Rattle.std.proofs.Common.{◌≡◌, take}
use Rattle.fd_netclient.specs.Client.{patience_of}
use Rattle.fd_netclient.specs.Datagram.{chunks}
use Rattle.fd_networld.specs.World.{Follows, Shows, Story, beginning}
use Rattle.fd_networld.proofs.Lawful.{Holds}
use Rattle.fd_networld.proofs.walk.walk_world.Given as goal

abbrev pub invariant-loop-event : goal.invariant-loop-event
invariant-loop-event l = record {
  story : Story;
  follows : Follows l.fn.dump l.fn.header (beginning (chunks l.fn.dump) (patience_of l.fn.limits)) (take l.event-index l.fn.events) story;
  holds : Holds l.fn.dump l.fn.header (patience_of l.fn.limits) story;
  shows : Shows story l.world;
  fed : story.site.calls.starved ≡ 0;
}
