-- A link in memory: what its script brings, and what was asked of it.
use Rattle.std.specs.Prelude.{List, map, take}
use Rattle.fd_site.specs.Trace as trace
use Rattle.fd_fake.specs.declared.link_event.LinkEvent.{LinkEvent}
use Rattle.fd_fake.specs.declared.link_event.LinkEvent.TheVariants.{Opening, Sent, Got, Silent}
use Rattle.fd_fake.specs.declared.mem_link.Answer.{Answer}
use Rattle.fd_fake.specs.declared.mem_link.Answer.TheVariants as answer

-- a poll gives at most the first 64 bytes of a datagram
abbrev pub brought : Answer → trace.LinkEvent
brought answer.Silent = trace.Silent
brought (answer.Datagram port bytes) = trace.Got port (take 64 bytes.items)

abbrev pub event : LinkEvent → trace.LinkEvent
event (Opening server) = trace.Opening server
event (Sent port bytes) = trace.Sent port bytes.items
event (Got port bytes) = trace.Got port bytes.items
event Silent = trace.Silent

abbrev pub script_of : List Answer → List trace.LinkEvent
script_of answers = map brought answers

abbrev pub events : List LinkEvent → List trace.LinkEvent
events es = map event es
