-- What the servers have of a dump that a `netdump` sent.
use Rattle.std.specs.Prelude.{◌≡◌, ℕ, Bool, List, [], ◌∷◌, ◌++◌, map, Option, Some}
use Rattle.fd_site.specs.Contents.{Contents, Told, file_of}
use Rattle.fd_site.specs.Journal.{Entry}
use Rattle.fd_site.specs.Seen.{Seen}
use Rattle.fd_site.specs.Trace.{LinkEvent, Listening, Opening, PortsEvent, grown}
use Rattle.fd_site.specs.declared.ports.Peer.{Peer}
use Rattle.fd_image.specs.Image.{MachineImage}
use Rattle.fd_dump.specs.Header.{header_of}
use Rattle.fd_dump.specs.Minidump.{minidump_of}
use Rattle.fd_netserver.specs.Files.{files_after}
use Rattle.fd_netserver.specs.History.{AreServerRuns, IsServerRun, all_turns, entries_in}
use Rattle.fd_netserver.specs.Session.{Turn}
use Rattle.fd_networld.specs.Delivery.{IsCarried, IsDelivered}
use Rattle.fd_cli.specs.Row.{Added}
use Rattle.fd_cli.specs.Rows.Dump.{Names}
use Rattle.fd_words.specs.declared.source.Source.{Source}

-- Servers ran over a site, each from no session, and between them and the client of a trace nothing was forged; what else
-- the network did doesn't matter. Then they finished a session of this client, and from the end of the first such call on
-- its files are the image's minidump and the text of its header.
abbrev pub IsKeptByServers : MachineImage → List LinkEvent → Type 0
IsKeptByServers m trace =
    (peer : Peer) (c : Contents) (before : List Entry) (runs : List (List Turn)) → AreServerRuns (files_after c.base_file before) runs
    → c.journal ≡ before ++ entries_in (all_turns runs) → IsCarried peer trace (all_turns runs)
    → IsDelivered (minidump_of m) (header_of m 512) peer c before (all_turns runs)

-- of the image that a source names
pub record IsImageKept (c : Contents) (source : Source) (trace : List LinkEvent) : Type 0 where
  pub image : MachineImage
  pub names : Names c source image
  pub kept : IsKeptByServers image trace

-- a link was opened to a server, and then it had a trace by which the servers keep the image's dump
abbrev pub IsDeliveredTo : Source → (server : ℕ) → (found : Seen) → (old new : Option (List LinkEvent)) → Type 0
IsDeliveredTo source server found old new =
    (trace : List LinkEvent) × (new ≡ grown old (Opening server ∷ trace)) × Told found.told (λ c. IsImageKept c source trace)

-- ports listened and then had these turns of a server, whose entries the site has
pub record HasTurns (found : Seen) (added : Added) (turns : List Turn) : Type 0 where
  pub events : List PortsEvent
  pub spared : Bool
  pub run : Told found.told (λ c. IsServerRun [] (file_of c) turns)
  pub is : added ≡ record { entries = entries_in turns; trace = []; served = Listening ∷ events; spared = spared }

-- a call of `netdumpd`: what it found and added, and the turns of its server
pub record ServerCall : Type 0 where
  pub found : Seen
  pub added : Added
  pub turns : List Turn
  pub has : HasTurns found added turns

-- calls over one site that nobody else writes, one after another, from one contents to another
abbrev pub AreCallsOver : Contents → List ServerCall → Contents → Type 0
AreCallsOver c [] now = now ≡ c
AreCallsOver c (call ∷ calls) now =
    (call.found.told ≡ Some c) × AreCallsOver (record c { journal = c.journal ++ call.added.entries }) calls now

abbrev pub turns_of : List ServerCall → List (List Turn)
turns_of calls = map (λ call. call.turns) calls

-- Calls of `netdumpd` over one site, and between them and the client of a trace nothing was forged. Then they finished a
-- session of this client, and keep the image's minidump and the text of its header.
abbrev pub IsKeptByCalls : MachineImage → List LinkEvent → Type 0
IsKeptByCalls m trace =
    (peer : Peer) (c now : Contents) (calls : List ServerCall) → AreCallsOver c calls now → IsCarried peer trace (all_turns (turns_of calls))
    → IsDelivered (minidump_of m) (header_of m 512) peer now c.journal (all_turns (turns_of calls))
