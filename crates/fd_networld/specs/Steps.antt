-- What the calls of a world do.
use Rattle.std.specs.Prelude.{true, ◌≡◌, ◌⊎◌, ℕ, ◌≤◌, ◌%◌, ◌^◌, List, [], ◌∷◌, ◌++◌, length}
use Rattle.fd_fake.specs.Disk.{file_now}
use Rattle.fd_fake.specs.MemSite.{seen_of}
use Rattle.fd_netserver.specs.History.{IsTurn}
use Rattle.fd_netserver.specs.Session.{Input, Session, after_reply}
use Rattle.fd_netserver.specs.Stands.{AreThere, IsBrokenAt, StandsFor, TurnOf}
use Rattle.fd_netserver.specs.declared.reply.Reply.{Reply}
use Rattle.fd_netserver.specs.declared.reply.Reply.TheVariants.{Ignored}
use Rattle.fd_netserver.specs.declared.reply.Skip.TheVariants as skip
use Rattle.fd_site.specs.Contents.{Adds, Told, file_of}
use Rattle.fd_networld.specs.World.{Story, Step, Stays, Goes, Takes, WillFail, Begins, Does, Shows, client_after}
use Rattle.fd_networld.specs.Watched.{HasFailed, IsCalm}
use Rattle.fd_networld.specs.declared.world.World.{World}

-- a dump of whole chunks
pub record IsChunked (dump : List ℕ) : Type 0 where
  pub some : 4096 ≤ length dump
  pub most : length dump ≤ 2 ^ 32
  pub whole : length dump % 4096 ≡ 0

-- The file of each open session is there.
abbrev pub HasFiles : World → Type 0
HasFiles w = AreThere w.server (file_now w.site.disk)

-- the site's next call fails only where that is waited for
abbrev pub HasCalm : World → Type 0
HasCalm w = IsCalm w.site.calls w.waiting

-- what a step of the client makes of a world
abbrev pub gone : Step → World → World
gone (Goes e) w = record w { client = client_after e w.client; trace = w.trace ++ e ∷ [] }
gone Stays w = w
gone (Takes input) w = w
gone WillFail w = w
gone Begins w = w

-- the server took an input
pub record HasTaken (input : Input) (was now : World) : Type 0 where
  pub reply : Reply
  pub client : now.client ≡ was.client
  pub trace : now.trace ≡ was.trace
  pub runs : now.runs ≡ record was.runs { run = was.runs.run ++ record { input = input; reply = reply } ∷ [] }
  pub turn : (ss : List Session) → StandsFor was.server ss
      → Adds (λ es. Told (seen_of was.site).told (λ c. IsTurn ss (file_of c) (TurnOf input reply es))) (seen_of was.site).told (seen_of now.site).told
  pub stands : (ss : List Session) → StandsFor was.server ss → StandsFor now.server (after_reply ss input reply)
  pub block : now.site.block ≡ was.site.block
  pub calm : IsCalm now.site.calls now.waiting
  pub still : now.waiting ≡ true → was.waiting ≡ true
  pub cause : reply ≡ Ignored skip.Broken → HasFailed was.waiting now.waiting ⊎ IsBrokenAt was.server input.slot
  pub fed : now.site.calls.starved ≡ 0

-- A world is now that of the story which a step makes of a story; and where no call on the site found too little memory,
-- that is still so.
pub record IsNow (step : Step) (story : Story) (w : World) : Type 0 where
  pub next : Story
  pub does : Does step story next
  pub shows : Shows next w
  pub fed : story.site.calls.starved ≡ 0 → next.site.calls.starved ≡ 0
