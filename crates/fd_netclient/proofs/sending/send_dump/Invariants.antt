-- What was added takes the client from its start to where it stands, and each event takes weight from its state.
use Rattle.std.proofs.Common.{◌≡◌, ◌≤◌}
use Rattle.fd_dump.specs.Header.{header_of}
use Rattle.fd_dump.specs.Minidump.{minidump_of}
use Rattle.fd_netclient.specs.Client.{patience_of}
use Rattle.fd_netclient.proofs.UnderWay.{IsUnderWay}
use Rattle.fd_netclient.proofs.Weights.{weight}
use Rattle.fd_netclient.proofs.sending.send_dump.Given as goal

abbrev pub invariant-loop-number : goal.invariant-loop-number
invariant-loop-number g l = record {
  way : IsUnderWay (minidump_of l.fn.image) (header_of l.fn.image 512) (patience_of l.fn.limits) (g.L.Link.seen l.fn.link).told (g.L.Link.seen l.link).told l.client;
  image : l.datagrams.image.now ≡ l.fn.image;
  count : (g.L.Link.seen l.fn.link).faults ≤ (g.L.Link.seen l.link).faults;
}

abbrev pub decreases-loop-number : goal.decreases-loop-number
decreases-loop-number g l = weight (patience_of l.fn.limits) l.client.state
