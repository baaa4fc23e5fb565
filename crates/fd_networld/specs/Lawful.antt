-- What holds of every world of events.
use Rattle.std.specs.Prelude.{◌≡◌, ℕ, List, []}
use Rattle.fd_fake.specs.Directory.{file_in}
use Rattle.fd_fake.specs.Disk.{contents_of}
use Rattle.fd_kdh.specs.declared.header.Header.{Header}
use Rattle.fd_netclient.specs.Datagram.{chunks}
use Rattle.fd_netclient.specs.Machine.{want_of}
use Rattle.fd_netclient.specs.Trace.{Patience, IsClientRun, IsComplete, Done}
use Rattle.fd_netclient.specs.declared.client.Want.TheVariants as want
use Rattle.fd_netserver.specs.History.{AreServerRuns, all_turns, entries_in}
use Rattle.fd_site.specs.Contents.{Contents}
use Rattle.fd_site.specs.Journal.{Entry}
use Rattle.fd_networld.specs.Delivery.{IsCarried, IsDelivered}
use Rattle.fd_networld.specs.Sent.{client_peer}
use Rattle.fd_networld.specs.World.{Follows, Shows, Story, beginning, runs_of}
use Rattle.fd_networld.specs.declared.event.Event.{Event}
use Rattle.fd_networld.specs.declared.world.World.{World}

-- what a site tells that held nothing, after these entries
abbrev pub contents_with : List Entry → Contents
contents_with entries = record { base_part = []; base_file = file_in []; journal = entries }

-- Its trace is a client run, a complete one where the client is done. Its runs are server runs, one after another over a
-- site that held nothing, and all entries in the site's journal are theirs. Nothing is forged.
pub record IsLawful (dump : List ℕ) (h : Header) (patience : Patience) (story : Story) : Type 0 where
  pub client_run : IsClientRun dump h patience story.trace
  pub complete : want_of story.client.state ≡ want.Done → IsComplete dump h patience story.trace Done
  pub server_runs : AreServerRuns (file_in []) (runs_of story)
  pub contents : contents_of story.site.disk ≡ contents_with (entries_in (all_turns (runs_of story)))
  pub carried : IsCarried client_peer story.trace (all_turns (runs_of story))

-- where its client is done, its dump was delivered
abbrev pub WasDelivered : List ℕ → Header → Story → Type 0
WasDelivered dump h story = want_of story.client.state ≡ want.Done → IsDelivered dump h client_peer (contents_of story.site.disk) [] (all_turns (runs_of story))

-- The world of these events: each that could happen has its step, in order, and there is no other step. So it is lawful,
-- and where its client is done, its dump was delivered.
pub record IsWorldOf (dump : List ℕ) (h : Header) (patience : Patience) (events : List Event) (w : World) : Type 0 where
  pub story : Story
  pub follows : Follows dump h (beginning (chunks dump) patience) events story
  pub shows : Shows story w
  pub lawful : IsLawful dump h patience story
  pub delivered : WasDelivered dump h story
