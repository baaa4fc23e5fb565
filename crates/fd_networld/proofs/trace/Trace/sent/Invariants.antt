-- What is left to be counted, in what is left of the events.
use Rattle.std.proofs.Common.{◌≡◌, slice_get, length}
use Rattle.fd_fake.specs.MemLink.{events}
use Rattle.fd_networld.specs.Sent.{sent_in}
use Rattle.fd_networld.proofs.trace.Trace.sent.Given as goal

abbrev pub invariant-loop-rest : goal.invariant-loop-rest
invariant-loop-rest l = slice_get (sent_in (events l.rest)) l.left ≡ slice_get (sent_in l.self) l.nth

abbrev pub decreases-loop-rest : goal.decreases-loop-rest
decreases-loop-rest l = length l.rest
