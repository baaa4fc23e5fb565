-- Saving and clearing as one step.
use Rattle.std.proofs.Common.{◌≡◌, inl, inr, IsErrOf, List, ◌++◌, Err, refl, sym, ◌∙◌, ap, subst}
use Rattle.fd_site.specs.Begun.{IsBegun}
use Rattle.fd_site.specs.Contents.{Adds, with_entries}
use Rattle.fd_site.specs.Journal.{Entry}
use Rattle.fd_site.specs.Seen.{Frame, Seen}
use Rattle.fd_site.proofs.Begun.{IsBegun-behind, IsBegun-within}
use Rattle.fd_site.proofs.Told.{with_entries-append}
use Rattle.fd_save.specs.Outcome as save
use Rattle.fd_save.specs.Saving.{clearing}
use Rattle.fd_save.specs.declared.fault.SaveFault.{SaveFault}
use Rattle.fd_save.specs.declared.fault.SaveFault.TheVariants.{NoNumber, Refused, SiteFault}
use Rattle.fd_save.specs.declared.saved.Saved.{Saved}
use Rattle.fd_way.specs.Drill.{no_options}
use Rattle.fd_way.specs.Steps.{MaySave, Saves, SavesAndClears}

-- a save that was begun is one of which the clearing wasn't
begun : (old new : Seen) → save.MayHaveBegun no_options old new.told → MaySave old new
begun old new (inl same) = inl same
begun old new (inr has) =
    let last : List Entry = clearing old.size old.block has.saved.sector in
    let saving = has.files.adds.1 in
    inr (
      has.saved,
      record {
        body = has.files.body;
        planned = saving.planned ++ last;
        is_savecore = record { finds = has.found; number = has.number; bytes = has.files.bytes; saving = saving.planned; is_save = saving.is_save; is = refl };
        adds = (has.files.adds.0, IsBegun-within saving.planned last has.files.adds.0 saving.begun, has.files.adds.2);
      },
    )

-- nothing was saved
pub not_saved : (old new : Seen) (fault : SaveFault) → save.OnRefused {A = Saved} (Err fault) (save.Refuses no_options.force old)
    → (IsErrOf {T = Saved} {E = SaveFault} (Err fault) NoNumber → save.HasNoNumber no_options old) → save.OnNo {A = Saved} (Err fault) (new.told ≡ old.told)
    → (IsErrOf {T = Saved} {E = SaveFault} (Err fault) SiteFault → save.MayHaveBegun no_options old new.told) → SavesAndClears old new (Err fault)
not_saved old new (Refused why) refused none same fault = record { judged = refused; same = same }
not_saved old new NoNumber refused none same fault = record { none = none refl; same = same }
not_saved old new SiteFault refused none same fault = begun old new (fault refl)

-- the dump was saved
module _ (old mid new : Seen) (saved : Saved) (saves : save.Saves no_options old mid.told saved) (frame : Frame old mid) where
  abbrev last : List Entry
  last = clearing old.size old.block saved.sector

  behind : (added : List Entry) → new.told ≡ with_entries mid.told added → new.told ≡ with_entries old.told (saves.files.adds.0 ++ added)
  behind added told = told ∙ ap (λ t. with_entries t added) saves.files.adds.2 ∙ with_entries-append old.told saves.files.adds.0 added

  last_is : clearing mid.size mid.block saved.sector ≡ last
  last_is = (λ i. clearing (frame.size i) (frame.block i) saved.sector)

  saved_as : (P : List Entry → List Entry → Type 0) (added : List Entry) → P (saves.files.adds.0 ++ last) (saves.files.adds.0 ++ added)
      → new.told ≡ with_entries mid.told added → Saves P old new saved
  saved_as P added is told = record {
    body = saves.files.body;
    planned = saves.files.adds.0 ++ last;
    is_savecore = record {
      finds = saves.found;
      number = saves.number;
      bytes = saves.files.bytes;
      saving = saves.files.adds.0;
      is_save = saves.files.adds.1;
      is = refl;
    };
    adds = (saves.files.adds.0 ++ added, is, behind added told);
  }

  -- and cleared
  pub cleared : new.told ≡ with_entries mid.told (clearing mid.size mid.block saved.sector) → Saves (λ planned added. added ≡ planned) old new saved
  cleared told =
      saved_as (λ planned added. added ≡ planned) last refl (told ∙ ap (λ (es : List Entry). with_entries mid.told es) last_is)

  -- but clearing it failed
  pub not_cleared : (fault : SaveFault) → fault ≡ SiteFault → Adds (IsBegun (clearing mid.size mid.block saved.sector)) mid.told new.told → SavesAndClears old new (Err fault)
  not_cleared fault is adds =
      subst (λ (f : SaveFault). SavesAndClears old new (Err f)) (sym is)
      (inr (saved, saved_as IsBegun adds.0 (IsBegun-behind saves.files.adds.0 last adds.0 (subst (λ (es : List Entry). IsBegun es adds.0) last_is adds.1)) adds.2))
