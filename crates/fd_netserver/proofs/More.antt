-- A run goes on by one turn.
use Rattle.std.proofs.Common.{◌≡◌, List, [], ◌∷◌, ◌++◌, refl, subst}
use Rattle.fd_site.specs.Journal.{Entry}
use Rattle.fd_site.proofs.Told.{file_after-append}
use Rattle.fd_netserver.specs.Files.{Files, files_after}
use Rattle.fd_netserver.specs.Session.{Session, Turn, after_reply, sessions_after}
use Rattle.fd_netserver.specs.History.{IsTurn, IsServerRun, entries_in}

pub sessions_after-append : (ss : List Session) (ts us : List Turn) → sessions_after ss (ts ++ us) ≡ sessions_after (sessions_after ss ts) us
sessions_after-append ss [] us = refl
sessions_after-append ss (t ∷ ts) us = sessions_after-append (after_reply ss t.input t.reply) ts us

pub files_after-append : (files : Files) (es fs : List Entry) → files_after files (es ++ fs) ≡ files_after (files_after files es) fs
files_after-append files es fs = λ i q. file_after-append q (files q) es fs i

-- two runs, one behind the other, are one
pub run_on : (ss : List Session) (files : Files) (ts us : List Turn) → IsServerRun ss files ts → IsServerRun (sessions_after ss ts) (files_after files (entries_in ts)) us
    → IsServerRun ss files (ts ++ us)
run_on ss files [] us run more = more
run_on ss files (t ∷ ts) us run more = (
  run.0,
  run_on (after_reply ss t.input t.reply) (files_after files t.entries) ts us run.1
      (subst (λ (f : Files). IsServerRun (sessions_after (after_reply ss t.input t.reply) ts) f us) (files_after-append files t.entries (entries_in ts)) more),
)

pub run_more : (ss : List Session) (files : Files) (ts : List Turn) (t : Turn) → IsServerRun ss files ts → IsTurn (sessions_after ss ts) (files_after files (entries_in ts)) t
    → IsServerRun ss files (ts ++ t ∷ [])
run_more ss files ts t run turn = run_on ss files ts (t ∷ []) run (turn, tt)
