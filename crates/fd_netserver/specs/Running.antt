-- A server over one site since it was made.
use Rattle.std.specs.Prelude.{◌≡◌, List, [], Option}
use Rattle.fd_site.specs.Contents.{Contents, Told, file_of, with_entries}
use Rattle.fd_netserver.specs.History.{IsServerRun, entries_in}
use Rattle.fd_netserver.specs.Session.{Turn, sessions_after}
use Rattle.fd_netserver.specs.Stands.{StandsFor}
use Rattle.fd_netserver.specs.declared.record.Record.{Record}

-- It has taken some turns, from no session on, and the site has just their entries.
pub record HasServed (told : Option Contents) (rs : List Record) : Type 0 where
  pub was : Option Contents
  pub turns : List Turn
  pub run : Told was (λ c. IsServerRun [] (file_of c) turns)
  pub entries : told ≡ with_entries was (entries_in turns)
  pub stands : StandsFor rs (sessions_after [] turns)
