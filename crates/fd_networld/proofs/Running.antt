-- The runs of servers over one site go on by a turn, and by a new server.
use Rattle.std.proofs.Common.{◌≡◌, List, [], ◌∷◌, ◌++◌, refl, sym, ◌∙◌, ap, subst, append_assoc}
use Rattle.std.proofs.lemmas.List.{append-nil}
use Rattle.fd_netserver.specs.Files.{Files, files_after}
use Rattle.fd_netserver.specs.History.{AreServerRuns, IsServerRun, IsTurn, all_turns, entries_in}
use Rattle.fd_netserver.specs.Session.{Turn, sessions_after}
use Rattle.fd_netserver.proofs.More.{files_after-append, run_more}
use Rattle.fd_netserver.proofs.Settled.{entries_in-append}

pub turns-more : (earlier : List (List Turn)) (run : List Turn) (t : Turn) → all_turns (earlier ++ (run ++ t ∷ []) ∷ []) ≡ all_turns (earlier ++ run ∷ []) ++ t ∷ []
turns-more [] run t = append-nil (run ++ t ∷ []) ∙ ap (λ l. l ++ t ∷ []) (sym (append-nil run))
turns-more (r ∷ rs) run t = ap (λ l. r ++ l) (turns-more rs run t) ∙ sym (append_assoc r (all_turns (rs ++ run ∷ [])) (t ∷ []))

pub turns-begin : (runs : List (List Turn)) → all_turns (runs ++ [] ∷ []) ≡ all_turns runs
turns-begin [] = refl
turns-begin (r ∷ rs) = ap (λ l. r ++ l) (turns-begin rs)

pub runs_more : (files : Files) (earlier : List (List Turn)) (run : List Turn) (t : Turn) → AreServerRuns files (earlier ++ run ∷ [])
    → IsTurn (sessions_after [] run) (files_after files (entries_in (all_turns (earlier ++ run ∷ [])))) t → AreServerRuns files (earlier ++ (run ++ t ∷ []) ∷ [])
runs_more files [] run t are turn =
    (run_more [] files run t are.0 (subst (λ (l : List Turn). IsTurn (sessions_after [] run) (files_after files (entries_in l)) t) (append-nil run) turn), tt)
runs_more files (r ∷ rs) run t are turn =
    let later : List Turn = all_turns (rs ++ run ∷ []) in
    let same : files_after files (entries_in (r ++ later)) ≡ files_after (files_after files (entries_in r)) (entries_in later) =
    ap (files_after files) (entries_in-append r later) ∙ files_after-append files (entries_in r) (entries_in later) in
    (are.0, runs_more (files_after files (entries_in r)) rs run t are.1 (subst (λ (f : Files). IsTurn (sessions_after [] run) f t) same turn))

pub runs_begin : (files : Files) (runs : List (List Turn)) → AreServerRuns files runs → AreServerRuns files (runs ++ [] ∷ [])
runs_begin files [] are = (tt, tt)
runs_begin files (r ∷ rs) are = (are.0, runs_begin (files_after files (entries_in r)) rs are.1)

-- the last run, over the files that the earlier ones left
pub last_run : (files : Files) (earlier : List (List Turn)) (run : List Turn) → AreServerRuns files (earlier ++ run ∷ []) → IsServerRun [] (files_after files (entries_in (all_turns earlier))) run
last_run files [] run are = are.0
last_run files (r ∷ rs) run are =
    subst (λ (f : Files). IsServerRun [] f run)
    (sym (ap (files_after files) (entries_in-append r (all_turns rs)) ∙ files_after-append files (entries_in r) (entries_in (all_turns rs))))
    (last_run (files_after files (entries_in r)) rs run are.1)

pub turns-split : (earlier : List (List Turn)) (run : List Turn) → all_turns (earlier ++ run ∷ []) ≡ all_turns earlier ++ run
turns-split [] run = append-nil run
turns-split (r ∷ rs) run = ap (λ l. r ++ l) (turns-split rs run) ∙ sym (append_assoc r (all_turns rs) run)
