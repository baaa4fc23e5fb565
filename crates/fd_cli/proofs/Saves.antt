-- The work of `savecore`, by its functions' outcomes, and what it comes to.
use Rattle.std.proofs.Common.{◌≡◌, ◌⊎◌, inl, inr, ℕ, Bool, true, false, IsTrue, IsErrOf, List, [], ◌++◌, Some, Result, Ok, Err, refl, sym, ◌∙◌, ap, subst}
use Rattle.fd_site.specs.Begun.{IsBegun}
use Rattle.fd_site.specs.Contents.{Adds, Contents, part_of, with_entries}
use Rattle.fd_site.specs.Journal.{Entry}
use Rattle.fd_site.specs.Seen.{Seen}
use Rattle.fd_site.proofs.Begun.{IsBegun-behind, IsBegun-within}
use Rattle.fd_site.proofs.Told.{with_entries-append, with_entries-nil}
use Rattle.fd_part.specs.Partition.{is_good}
use Rattle.fd_kdh.specs.declared.header.Header.{Header}
use Rattle.fd_judge.specs.Verdict.{judged}
use Rattle.fd_judge.specs.declared.verdict.Verdict.TheVariants as verdict
use Rattle.fd_judge.specs.declared.why.Why.{Why}
use Rattle.fd_save.specs.Outcome as save
use Rattle.fd_save.specs.Saving.{clearing}
use Rattle.fd_save.specs.declared.fault.SaveFault.{SaveFault}
use Rattle.fd_save.specs.declared.fault.SaveFault.TheVariants as no
use Rattle.fd_save.specs.declared.saved.Options.{Options}
use Rattle.fd_save.specs.declared.saved.Saved.{Saved}
use Rattle.fd_cli.specs.Reply.{IsReplyOf, SiteLeaves, SiteReplies, WorksOnSite}
use Rattle.fd_cli.specs.Row.{Row, Work, only}
use Rattle.fd_cli.specs.Rows.Clear.{Clears, ClearsJudged, clear_row, judged_clear_row}
use Rattle.fd_cli.specs.Rows.Common.{OnGood, Refuses}
use Rattle.fd_cli.specs.Rows.Save.{Saves, SavesJudged, clearing_unless, judged_save_row, save_row}
use Rattle.fd_cli.specs.declared.answer.Answer.TheVariants as answer
use Rattle.fd_cli.specs.declared.refusal.Refusal.{Refusal}
use Rattle.fd_cli.specs.declared.refusal.Refusal.TheVariants.{Judged, NoNumber, Partition}
use Rattle.fd_cli.specs.declared.reply.Reply.{Reply}
use Rattle.fd_cli.specs.declared.reply.Trouble.{Trouble}
use Rattle.fd_cli.specs.declared.reply.Trouble.TheVariants.{Fault, NoMemory}
use Rattle.fd_cli.proofs.Good.{either, over_bad, over_good}

-- what a row does over a good partition, it does where it says so of each
pub on_good : (row judged : Row) (old new : Seen) (result : Result Reply Trouble) → is_good old.size old.block ≡ true
    → ((w : Work) → judged.Does old w → row.Does old w) → row.Leaves ≡ judged.Leaves → row.Starves ≡ judged.Starves
    → WorksOnSite judged old new result → WorksOnSite row old new result
on_good row judged old new (Ok reply) good does leaves starves works = record {
  answer = works.answer;
  entries = works.entries;
  does = does _ works.does;
  told = works.told;
  is = works.is;
}
on_good row judged old new (Err Fault) good does leaves starves works = record {
  entries = works.entries;
  leaves = subst (λ P. P old (only works.entries)) (sym leaves) works.leaves;
  told = works.told;
}
on_good row judged old new (Err NoMemory) good does leaves starves works = record {
  entries = works.entries;
  starves = subst (λ P. P old (only works.entries)) (sym starves) works.starves;
  told = works.told;
}

pub save_on_good : (options : Options) (keep : Bool) (old new : Seen) (result : Result Reply Trouble) → is_good old.size old.block ≡ true
    → WorksOnSite (judged_save_row options keep) old new result → WorksOnSite (save_row options keep) old new result
save_on_good options keep old new result good works =
    on_good (save_row options keep) (judged_save_row options keep) old new result good (λ w does. over_good old (SavesJudged options keep old) w good does) refl refl works

pub clear_on_good : (force : Bool) (old new : Seen) (result : Result Reply Trouble) → is_good old.size old.block ≡ true
    → WorksOnSite (judged_clear_row force) old new result → WorksOnSite (clear_row force) old new result
clear_on_good force old new result good works =
    on_good (clear_row force) (judged_clear_row force) old new result good (λ w does. over_good old (ClearsJudged force old) w good does) refl refl works

-- the partition isn't good
pub partition_refused : (row : Row) (P : Seen → Work → Type 0) (found : Seen) (size block : ℕ) (reply : Reply) → ((w : Work) → OnGood found (P found) w → row.Does found w)
    → size ≡ found.size → block ≡ found.block → is_good found.size found.block ≡ false
    → IsReplyOf (answer.Refused (Partition (record { size = size; block = block }))) reply → SiteReplies row found found reply
partition_refused row P found size block reply does same_size same_block bad is = record {
  answer = answer.Refused (Partition (record { size = found.size; block = found.block }));
  entries = [];
  does = does _ (over_bad found (P found) _ bad refl);
  told = with_entries-nil found.told;
  is = subst (λ a. IsReplyOf a reply) (λ i. answer.Refused (Partition (record { size = same_size i; block = same_block i }))) is;
}

-- judging refused, and nothing was added
pub save_refused : (options : Options) (keep : Bool) (old new : Seen) (why : Why) (reply : Reply) → save.Refuses options.force old why → new.told ≡ old.told
    → IsReplyOf (answer.Refused (Judged why)) reply → SiteReplies (judged_save_row options keep) old new reply
save_refused options keep old new why reply judged same is = record {
  answer = answer.Refused (Judged why);
  entries = [];
  does = inl (record { why = why; judged = judged; refuses = refl });
  told = same ∙ with_entries-nil old.told;
  is = is;
}

-- there was no number
pub save_unnumbered : (options : Options) (keep : Bool) (old new : Seen) (reply : Reply) → save.HasNoNumber options old → new.told ≡ old.told
    → IsReplyOf (answer.Refused NoNumber) reply → SiteReplies (judged_save_row options keep) old new reply
save_unnumbered options keep old new reply none same is = record {
  answer = answer.Refused NoNumber;
  entries = [];
  does = inr (inl (record { none = none; refuses = refl }));
  told = same ∙ with_entries-nil old.told;
  is = is;
}

-- a fault ended the save
pub save_failed : (options : Options) (keep : Bool) (old new : Seen) → IsTrue (is_good old.size old.block) → save.MayHaveBegun options old new.told
    → SiteLeaves (judged_save_row options keep) old new
save_failed options keep old new good (inl same) = record { entries = []; leaves = inl refl; told = same ∙ with_entries-nil old.told }
save_failed options keep old new good (inr begun) =
    let saving = begun.files.adds.1 in
    let last : List Entry = clearing_unless keep old.size old.block begun.saved.sector in
    record {
      entries = begun.files.adds.0;
      leaves = inr (record {
        good = good;
        saved = begun.saved;
        body = begun.files.body;
        to_save = record { finds = begun.found; number = begun.number; bytes = begun.files.bytes };
        planned = saving.planned ++ last;
        is_planned = record { saving = saving.planned; is_save = saving.is_save; is = refl };
        begun = IsBegun-within saving.planned last begun.files.adds.0 saving.begun;
        alone = refl;
      });
      told = begun.files.adds.2;
    }

-- the dump was saved, and then marked or kept
module _ (options : Options) (keep : Bool) (old mid new : Seen) (saved : Saved) (saves : save.Saves options old mid.told saved) (size : mid.size ≡ old.size)
    (block : mid.block ≡ old.block) where
  -- more was added behind the save
  behind_save : (added : List Entry) → new.told ≡ with_entries mid.told added → new.told ≡ with_entries old.told (saves.files.adds.0 ++ added)
  behind_save added told =
      told ∙ ap (λ t. with_entries t added) saves.files.adds.2 ∙ with_entries-append old.told saves.files.adds.0 added

  pub save_done : (reply : Reply) → new.told ≡ with_entries mid.told (clearing_unless keep mid.size mid.block saved.sector)
      → IsReplyOf (answer.Saved saved.number saved.header.dumplength) reply → SiteReplies (judged_save_row options keep) old new reply
  save_done reply cleared is =
      let last : List Entry = clearing_unless keep old.size old.block saved.sector in
      record {
        answer = answer.Saved saved.number saved.header.dumplength;
        entries = saves.files.adds.0 ++ last;
        does = inr (inr (record {
          saved = saved;
          body = saves.files.body;
          to_save = record { finds = saves.found; number = saves.number; bytes = saves.files.bytes };
          answer = refl;
          entries = record { saving = saves.files.adds.0; is_save = saves.files.adds.1; is = refl };
          alone = refl;
        }));
        told = behind_save last (cleared ∙ (λ i. with_entries mid.told (clearing_unless keep (size i) (block i) saved.sector)));
        is = is;
      }

  pub clear_failed : IsTrue (is_good old.size old.block) → Adds (IsBegun (clearing_unless keep mid.size mid.block saved.sector)) mid.told new.told
      → SiteLeaves (judged_save_row options keep) old new
  clear_failed good begun =
      let last : List Entry = clearing_unless keep old.size old.block saved.sector in
      let is_begun : IsBegun last begun.0 = subst (λ (es : List Entry). IsBegun es begun.0) (λ i. clearing_unless keep (size i) (block i) saved.sector) begun.1 in
      record {
        entries = saves.files.adds.0 ++ begun.0;
        leaves = inr (record {
          good = good;
          saved = saved;
          body = saves.files.body;
          to_save = record { finds = saves.found; number = saves.number; bytes = saves.files.bytes };
          planned = saves.files.adds.0 ++ last;
          is_planned = record { saving = saves.files.adds.0; is_save = saves.files.adds.1; is = refl };
          begun = IsBegun-behind saves.files.adds.0 last begun.0 is_begun;
          alone = refl;
        });
        told = behind_save begun.0 begun.2;
      }

-- `savecore -c` that cleared, was refused, or failed
pub clear_done : (force : Bool) (old new : Seen) (reply : Reply) → save.Clears save.IsAll force old new.told → IsReplyOf answer.Cleared reply
    → SiteReplies (judged_clear_row force) old new reply
clear_done force old new reply clears is = record {
  answer = answer.Cleared;
  entries = clearing old.size old.block clears.sector;
  does = inr (record { header = clears.header; at = clears.at; sector = clears.sector; finds = clears.found; is = refl });
  told = clears.adds.2 ∙ ap (λ (es : List Entry). with_entries old.told es) clears.adds.1;
  is = is;
}

pub clear_refused : (force : Bool) (old new : Seen) (why : Why) (reply : Reply) → save.Refuses force old why → new.told ≡ old.told
    → IsReplyOf (answer.Refused (Judged why)) reply → SiteReplies (judged_clear_row force) old new reply
clear_refused force old new why reply judged same is = record {
  answer = answer.Refused (Judged why);
  entries = [];
  does = inl (record { why = why; judged = judged; refuses = refl });
  told = same ∙ with_entries-nil old.told;
  is = is;
}

pub clear_fault : (force : Bool) (old new : Seen) → IsTrue (is_good old.size old.block) → save.MayHaveBegunToClear force old new.told
    → SiteLeaves (judged_clear_row force) old new
clear_fault force old new good (inl same) = record { entries = []; leaves = inl refl; told = same ∙ with_entries-nil old.told }
clear_fault force old new good (inr begun) = record {
  entries = begun.adds.0;
  leaves = inr (record {
    good = good;
    header = begun.header;
    at = begun.at;
    sector = begun.sector;
    finds = begun.found;
    begun = begun.adds.1;
    alone = refl;
  });
  told = begun.adds.2;
}

-- what clearing a dump that isn't kept adds
pub cleared_unless : (keep : Bool) (size block : ℕ) (sector : List ℕ) (P : List Entry → Type 0) → keep ≡ false → P (clearing size block sector)
    → P (clearing_unless keep size block sector)
cleared_unless true size block sector P kept clears = absurd (cc)
cleared_unless false size block sector P kept clears = clears

-- an answer that is no, by which one it is
pub is_error : {A : Type 0} (fault one : SaveFault) → fault ≡ one → IsErrOf {T = A} {E = SaveFault} (Err fault) one
is_error {A = A} fault one is = subst (λ (f : SaveFault). IsErrOf {T = A} {E = SaveFault} (Err fault) f) is refl

pub unchanged_on : (A : Type 0) (fault : SaveFault) (P : Type 0) → fault ≡ no.NoNumber → save.OnNo {A = A} (Err fault) P → P
unchanged_on A fault P is same = subst (λ (f : SaveFault). save.OnNo {A = A} (Err f) P) is same

pub unchanged_on_refused : (A : Type 0) (fault : SaveFault) (why : Why) (P : Type 0) → fault ≡ no.Refused why → save.OnNo {A = A} (Err fault) P → P
unchanged_on_refused A fault why P is same = subst (λ (f : SaveFault). save.OnNo {A = A} (Err f) P) is same

pub refused_on : (A : Type 0) (fault : SaveFault) (why : Why) (P : Why → Type 0) → fault ≡ no.Refused why → save.OnRefused {A = A} (Err fault) P → P why
refused_on A fault why P is refused = subst (λ (f : SaveFault). save.OnRefused {A = A} (Err f) P) is refused

-- what `savecore` comes to: it was refused, or the dump was saved
abbrev pub IsRefusedOrSaved : Options → (keep : Bool) → Seen → Work → Type 0
IsRefusedOrSaved options keep found w = ((refusal : Refusal) × Refuses refusal w) ⊎ (IsTrue (is_good found.size found.block) × Saves options keep found w)

pub refused_or_saved : (options : Options) (keep : Bool) (found : Seen) (w : Work) → (save_row options keep).Does found w
    → IsRefusedOrSaved options keep found w
refused_or_saved options keep found w does =
    either (is_good found.size found.block) (SavesJudged options keep found w) _ (IsRefusedOrSaved options keep found w) does
    (λ good judged. elim judged [
      | inl refused ↦ inl (Judged refused.why, refused.refuses)
      | inr (inl none) ↦ inl (NoNumber, none.refuses)
      | inr (inr saves) ↦ inr (good, saves)
    ])
    (λ bad refused. inl (_, refused))

-- and what `savecore -c` comes to
abbrev pub IsRefusedOrCleared : (force : Bool) → Seen → Work → Type 0
IsRefusedOrCleared force found w = ((refusal : Refusal) × Refuses refusal w) ⊎ (IsTrue (is_good found.size found.block) × Clears force found w)

pub refused_or_cleared : (force : Bool) (found : Seen) (w : Work) → (clear_row force).Does found w → IsRefusedOrCleared force found w
refused_or_cleared force found w does =
    either (is_good found.size found.block) (ClearsJudged force found w) _ (IsRefusedOrCleared force found w) does
    (λ good judged. elim judged [
      | inl refused ↦ inl (Judged refused.why, refused.refuses)
      | inr clears ↦ inr (good, clears)
    ])
    (λ bad refused. inl (_, refused))

-- over a partition that judging refuses, `savecore` refuses it for that
pub judged_refused : (options : Options) (keep : Bool) (found : Seen) (w : Work) (c : Contents) (why : Why) → found.told ≡ Some c → IsTrue (is_good found.size found.block)
    → judged (part_of c) found.block options.force ≡ verdict.Refused why → (save_row options keep).Does found w → Refuses (Judged why) w
judged_refused options keep found w c why told good is does =
    either (is_good found.size found.block) (SavesJudged options keep found w) _ (Refuses (Judged why) w) does
    (λ good judges. elim judges [
      | inl refused ↦ subst (λ (y : Why). Refuses (Judged y) w) (one_reason refused.why (sym (refused.judged c told) ∙ is)) refused.refuses
      | inr (inl none) ↦ no_dump none.none.header none.none.at none.none.sector (sym (none.none.found c told) ∙ is)
      | inr (inr saves) ↦ no_dump saves.saved.header saves.saved.at saves.saved.sector (sym (saves.to_save.finds c told) ∙ is)
    ])
    (λ bad refused. absurd (not_both (is_good found.size found.block) good bad))
  where
    one_reason : (other : Why) → verdict.Refused other ≡ verdict.Refused why → other ≡ why
    one_reason other is = cc

    no_dump : {R : Type 0} (h : Header) (at : ℕ) (sector : List ℕ) → verdict.Dump h at sector ≡ verdict.Refused why → R
    no_dump h at sector is = absurd (cc)

    not_both : (b : Bool) → b ≡ true → b ≡ false → ⊥
    not_both b yes_it_is no_it_is = cc
