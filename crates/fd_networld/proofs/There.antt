-- The file of each open session is there, in every world.
use Rattle.std.proofs.Common.{◌≡◌, List, [], Some, refl, sym, ◌∙◌, ap, subst}
use Rattle.fd_fake.specs.Directory.{file_in}
use Rattle.fd_fake.specs.Disk.{contents_of, file_now}
use Rattle.fd_fake.specs.MemSite.{SiteInMemory}
use Rattle.fd_netserver.specs.History.{AreServerRuns, IsServerRun, all_turns, entries_in}
use Rattle.fd_netserver.specs.Running.{HasServed}
use Rattle.fd_netserver.specs.Session.{Turn}
use Rattle.fd_netserver.specs.Stands.{AreThere}
use Rattle.fd_netserver.proofs.Running.{run_there}
use Rattle.fd_netserver.proofs.Settled.{entries_in-append}
use Rattle.fd_site.specs.Contents.{Contents, file_of}
use Rattle.fd_site.specs.Journal.{Entry}
use Rattle.fd_networld.specs.Lawful.{contents_with}
use Rattle.fd_networld.specs.Steps.{HasFiles}
use Rattle.fd_networld.specs.World.{Shows, Story, runs_of}
use Rattle.fd_networld.specs.declared.world.World.{World}
use Rattle.fd_networld.proofs.Running.{last_run, turns-split}

module _ (story : Story) (w : World) (runs : AreServerRuns (file_in []) (runs_of story))
    (contents : contents_of story.site.disk ≡ contents_with (entries_in (all_turns (runs_of story))))
    (shows : Shows story w) where
  abbrev before : List Entry
  before = entries_in (all_turns story.earlier)

  -- the server has served over this site, since it was made
  has_served : HasServed (Some (contents_of story.site.disk)) w.server
  has_served = record {
    was = Some (contents_with before);
    turns = story.run;
    run = λ c is. subst (λ (d : Contents). IsServerRun [] (file_of d) story.run) (by_some (contents_with before) c is) (last_run (file_in []) story.earlier story.run runs);
    entries = ap (λ (c : Contents). Some c) (contents
        ∙ ap (λ (ts : List Turn). contents_with (entries_in ts)) (turns-split story.earlier story.run)
        ∙ ap contents_with (entries_in-append (all_turns story.earlier) story.run));
    stands = shows.server;
  }
    where
      by_some : (a b : Contents) → Some a ≡ Some b → a ≡ b
      by_some a b e = cc

  pub files_there : HasFiles w
  files_there =
      subst (λ (m : SiteInMemory). AreThere w.server (file_now m.disk)) (sym shows.site)
      (run_there (Some (contents_of story.site.disk)) w.server has_served (contents_of story.site.disk) refl)
