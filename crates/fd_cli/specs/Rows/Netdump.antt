-- `netdump IMAGE ADDRESS`: a machine image's dump is sent to a server.
use Rattle.std.specs.Prelude.{◌≡◌, ◌⊎◌, ℕ, ◌+◌, true, false, List, [], ◌∷◌, length, Option, Result, Ok, Err}
use Rattle.fd_site.specs.Seen.{Seen}
use Rattle.fd_site.specs.Trace.{LinkEvent, Opening, grown}
use Rattle.fd_site.specs.declared.fault.Failed.{Failed}
use Rattle.fd_image.specs.Image.{MachineImage}
use Rattle.fd_imgfile.specs.declared.fault.ImageFault.{ImageFault}
use Rattle.fd_dump.specs.Header.{header_of}
use Rattle.fd_dump.specs.Minidump.{minidump_of}
use Rattle.fd_netclient.specs.Datagram.{chunks}
use Rattle.fd_netclient.specs.Sending.{IsUnfinished}
use Rattle.fd_netclient.specs.Trace.{Done, IsComplete, Outcome, Patience, TimedOut}
use Rattle.fd_cli.specs.Reply.{IsReplyOf}
use Rattle.fd_cli.specs.Row.{Added, Blamed, Row, Work, nothing, on_link}
use Rattle.fd_cli.specs.Rows.Common.{AddsNothing, SaysNothing}
use Rattle.fd_cli.specs.Rows.Dump.{IsGiven, OnImage}
use Rattle.fd_cli.specs.declared.answer.Answer.{Answer}
use Rattle.fd_cli.specs.declared.answer.Answer.TheVariants.{Refused, Sent}
use Rattle.fd_cli.specs.declared.refusal.Refusal.TheVariants.{NoAnswer}
use Rattle.fd_cli.specs.declared.reply.Reply.{Reply}
use Rattle.fd_words.specs.declared.source.Source.{Source}

-- what isn't acknowledged is sent again ten times, and each time is followed by at most 2000 polls
abbrev pub usual : Patience
usual = record { retries = 10; polls = 2000 }

-- a link was opened to a server, and then it had this trace
abbrev pub sent_to : (server : ℕ) → List LinkEvent → Added
sent_to server trace = on_link (Opening server ∷ trace)

-- the trace is a whole one of an image's dump, for a device whose blocks have 512 bytes
abbrev pub IsWholeTrace : MachineImage → List LinkEvent → Outcome → Type 0
IsWholeTrace m trace outcome = IsComplete (minidump_of m) (header_of m 512) usual trace outcome

-- all was acknowledged
pub record IsSent (server : ℕ) (m : MachineImage) (w : Work) : Type 0 where
  pub trace : List LinkEvent
  pub whole : IsWholeTrace m trace Done
  pub is : w ≡ record { answer = Sent (length (minidump_of m)) (chunks (minidump_of m) + 3); added = sent_to server trace }

-- this number was not
pub record IsUnanswered (server : ℕ) (m : MachineImage) (w : Work) : Type 0 where
  pub trace : List LinkEvent
  pub number : ℕ
  pub whole : IsWholeTrace m trace (TimedOut number)
  pub is : w ≡ record { answer = Refused (NoAnswer number); added = sent_to server trace }

abbrev pub Sends : (server : ℕ) → MachineImage → Work → Type 0
Sends server m w = IsSent server m w ⊎ IsUnanswered server m w

-- sending was begun, and broken off
pub record HasBegunToSend (server : ℕ) (m : MachineImage) (added : Added) : Type 0 where
  pub trace : List LinkEvent
  pub unfinished : IsUnfinished (minidump_of m) (header_of m 512) usual trace
  pub is : added ≡ sent_to server trace

-- the same by the events that a link has: the sending of an image was replied to
pub record LinkReplies (server : ℕ) (m : MachineImage) (old new : Option (List LinkEvent)) (reply : Reply) : Type 0 where
  pub answer : Answer
  pub events : List LinkEvent
  pub sends : Sends server m (record { answer = answer; added = on_link events })
  pub told : new ≡ grown old events
  pub is : IsReplyOf answer reply

-- the link failed
pub record LinkLeaves (server : ℕ) (m : MachineImage) (old new : Option (List LinkEvent)) : Type 0 where
  pub events : List LinkEvent
  pub left : (events ≡ []) ⊎ HasBegunToSend server m (on_link events)
  pub told : new ≡ grown old events

abbrev pub SendsOnLink : (server : ℕ) → MachineImage → (old new : Option (List LinkEvent)) → Result Reply Failed → Type 0
SendsOnLink server m old new (Ok reply) = LinkReplies server m old new reply
SendsOnLink server m old new (Err failed) = LinkLeaves server m old new

-- a fault of the site or of the link may end it
abbrev pub the_site_and_link : Blamed
the_site_and_link = record { site = true; link = true; ports = false; spares = false }

-- what is done with what the image's source gives
abbrev pub SendsSource : Source → (server : ℕ) → Seen → Work → Type 0
SendsSource source server found w =
    (given : Result MachineImage ImageFault) × IsGiven source found given × OnImage (Sends server) given w

-- nothing was added, or sending the image that the source names was begun
abbrev pub MayHaveBegunToSend : Source → (server : ℕ) → Seen → Added → Type 0
MayHaveBegunToSend source server found added =
    (added ≡ nothing) ⊎ ((m : MachineImage) × IsGiven source found (Ok m) × HasBegunToSend server m added)

-- The row. It doesn't look at the partition.
abbrev pub netdump_row : Source → (server : ℕ) → Row
netdump_row source server = record {
  Does = SendsSource source server;
  Leaves = MayHaveBegunToSend source server;
  Starves = AddsNothing;
  Says = SaysNothing;
  blames = the_site_and_link;
}
