-- A server over one site since it was made.
use Rattle.std.proofs.Common.{◌≡◌, ℕ, suc, List, [], ◌∷◌, ◌++◌, Option, Some, None, IsSome, Result, Ok, Err, IfOk, OnOk, refl, sym, ◌∙◌, ap, subst, append_assoc}
use Rattle.std.proofs.lemmas.List.{append-nil}
use Rattle.fd_info.specs.Name.{vmcore_name}
use Rattle.fd_site.specs.Contents.{Contents, Told, Adds, file_of, with_entries}
use Rattle.fd_site.proofs.Told.{before, file_after-append, with_entries-append, with_entries-nil}
use Rattle.fd_netserver.specs.Files.{Files, files_after}
use Rattle.fd_netserver.specs.History.{IsTurn, IsServerRun, entries_in}
use Rattle.fd_netserver.specs.Running.{HasServed}
use Rattle.fd_netserver.specs.Session.{Input, Turn, Session, Open, nth, after_reply, sessions_after}
use Rattle.fd_netserver.specs.Stands.{StandsFor, AreThere, TurnOf}
use Rattle.fd_netserver.specs.declared.record.Record.{Record}
use Rattle.fd_netserver.specs.declared.reply.Reply.{Reply}
use Rattle.fd_netserver.proofs.More.{sessions_after-append, run_more}
use Rattle.fd_netserver.proofs.Settled.{no_session}
use Rattle.fd_netserver.proofs.Sound.{AreSound, sound_turn}
use Rattle.fd_netserver.proofs.Standing.{live_of}

entries-behind : (ts : List Turn) (t : Turn) → entries_in (ts ++ t ∷ []) ≡ entries_in ts ++ t.entries
entries-behind [] t = append-nil t.entries
entries-behind (u ∷ ts) t = ap (λ l. u.entries ++ l) (entries-behind ts t) ∙ sym (append_assoc u.entries (entries_in ts) t.entries)

-- the files of open sessions are there
sound_run : (ss : List Session) (files : Files) (ts : List Turn) → AreSound ss files → IsServerRun ss files ts → AreSound (sessions_after ss ts) (files_after files (entries_in ts))
sound_run ss files [] sound run = sound
sound_run ss files (t ∷ ts) sound run =
    subst (AreSound (sessions_after (after_reply ss t.input t.reply) ts)) (λ i q. sym (file_after-append q (files q) t.entries (entries_in ts)) i)
    (sound_run (after_reply ss t.input t.reply) (files_after files t.entries) ts (sound_turn ss files sound t.input t.reply t.entries run.0) run.1)

there_of : (files : Files) (rs : List Record) (ss : List Session) → StandsFor rs ss →
    ((k : ℕ) (s : Session) → nth ss k ≡ Some s → s.phase ≡ Open → IsSome (files (vmcore_name s.number))) → AreThere rs files
there_of files [] ss stands kept = tt
there_of files (r ∷ rs) [] stands kept = absurd stands
there_of files (r ∷ rs) (s ∷ ss) stands kept = (
  (λ open_. subst (λ n. IsSome (files (vmcore_name n))) (sym (live_of r s stands.0 open_).number) (kept 0 s refl (sym stands.0.phase ∙ open_))),
  there_of files rs ss stands.1 (λ k t is open_. kept (suc k) t is open_),
)

is_there : (o : Option (List ℕ)) (file : List ℕ) → o ≡ Some file → IsSome o
is_there None file is = absurd (cc)
is_there (Some x) file is = refl

pub run_there : (told : Option Contents) (rs : List Record) → HasServed told rs → Told told (λ c. AreThere rs (file_of c))
run_there told rs has d is =
    let b = before has.was (entries_in has.turns) d (sym has.entries ∙ is) in
    let sound = sound_run [] (file_of b.was) has.turns (no_session 0 (file_of b.was)) (has.run b.was b.told_was) in
    there_of (file_of d) rs (sessions_after [] has.turns) has.stands
    (λ k s there open_. subst (λ (o : Option (List ℕ)). IsSome o) (sym (b.file (vmcore_name s.number)))
    (is_there _ _ (sound.kept k s (record { there = there; phase = open_ }))))

-- a turn more
module _ (old mid new : Option Contents) (ts : List Turn) (t : Turn)
    (run : Told old (λ c. IsServerRun [] (file_of c) ts)) (entries : mid ≡ with_entries old (entries_in ts))
    (is : Told mid (λ c. IsTurn (sessions_after [] ts) (file_of c) t)) (adds : new ≡ with_entries mid t.entries) where
  pub run_behind : Told old (λ c. IsServerRun [] (file_of c) (ts ++ t ∷ []))
  run_behind c told_c =
      let es = entries_in ts in
      let d : Contents = record c { journal = c.journal ++ es } in
      let told_d : mid ≡ Some d = entries ∙ ap (λ (o : Option Contents). with_entries o es) told_c in
      run_more [] (file_of c) ts t (run c told_c)
      (subst (λ (f : Files). IsTurn (sessions_after [] ts) f t) (λ i q. file_after-append q (c.base_file q) c.journal es i) (is d told_d))

  pub added_behind : new ≡ with_entries old (entries_in (ts ++ t ∷ []))
  added_behind =
      adds ∙ ap (λ (o : Option Contents). with_entries o t.entries) entries ∙ with_entries-append old (entries_in ts) t.entries
      ∙ ap (with_entries old) (sym (entries-behind ts t))

pub stands_behind : (now : List Record) (ts : List Turn) (t : Turn) → StandsFor now (after_reply (sessions_after [] ts) t.input t.reply) → StandsFor now (sessions_after [] (ts ++ t ∷ []))
stands_behind now ts t stands = subst (StandsFor now) (sym (sessions_after-append [] ts (t ∷ []))) stands

pub has_none : (told : Option Contents) (rs : List Record) → rs ≡ [] → HasServed told rs
has_none told rs none = record {
  was = told;
  turns = [];
  run = λ c is. tt;
  entries = with_entries-nil told;
  stands = subst (λ (l : List Record). StandsFor l []) (sym none) tt;
}

pub has_more : (told later : Option Contents) (rs now : List Record) (input : Input) (reply : Reply) → HasServed told rs
    → ((ss : List Session) → StandsFor rs ss → Adds (λ es. Told told (λ c. IsTurn ss (file_of c) (TurnOf input reply es))) told later)
    → ((ss : List Session) → StandsFor rs ss → StandsFor now (after_reply ss input reply)) → HasServed later now
has_more told later rs now input reply has turn stands =
    let adds = turn (sessions_after [] has.turns) has.stands in
    let t : Turn = TurnOf input reply adds.0 in
    record {
      was = has.was;
      turns = has.turns ++ t ∷ [];
      run = run_behind has.was told later has.turns t has.run has.entries adds.1 adds.2;
      entries = added_behind has.was told later has.turns t has.run has.entries adds.1 adds.2;
      stands = stands_behind now has.turns t (stands (sessions_after [] has.turns) has.stands);
    }

pub has_next : {E : Type 0} (result : Result Reply E) (told later : Option Contents) (rs now : List Record) (input : Input) → HasServed told rs
    → IfOk result (λ reply. (ss : List Session) → StandsFor rs ss → Adds (λ es. Told told (λ c. IsTurn ss (file_of c) (TurnOf input reply es))) told later)
    → IfOk result (λ reply. (ss : List Session) → StandsFor rs ss → StandsFor now (after_reply ss input reply)) → OnOk result (HasServed later now)
has_next (Ok reply) told later rs now input has turn stands = has_more told later rs now input reply has turn stands
has_next (Err e) told later rs now input has turn stands = tt
