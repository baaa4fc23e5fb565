-- What a machine leaves that stops in `savecore`, by its row.
use Rattle.std.proofs.Common.{◌≡◌, inl, inr, ℕ, ◌≤◌, Bool, true, false, ◌&&◌, not, IsTrue, List, [], ◌++◌, length, All, Option, Some, None, refl, sym, ◌∙◌, ap, subst}
use Rattle.std.proofs.lemmas.List.{append-nil, drop_all, take_all}
use Rattle.std.proofs.lemmas.List.Elements.{All-nil}
use Rattle.fd_site.specs.Begun.{IsBegun}
use Rattle.fd_site.specs.Contents.{Contents, file_of, part_of, with_entries}
use Rattle.fd_site.specs.Cut.{Disk, IsCut, is_on_first}
use Rattle.fd_site.specs.Journal.{Entry, file_after, is_on, stable_after}
use Rattle.fd_site.specs.Seen.{Seen}
use Rattle.fd_site.proofs.Begun.{IsBegun-within}
use Rattle.fd_site.proofs.Cuts.{cut_of_told}
use Rattle.fd_site.proofs.Told.{with_entries-nil}
use Rattle.fd_kdh.specs.declared.header.Header.{Header}
use Rattle.fd_part.specs.Partition.{is_good}
use Rattle.fd_save.specs.Crash.{IsSafe, IsSavedName}
use Rattle.fd_save.specs.Laws as save
use Rattle.fd_save.specs.Saving.{clearing, parity_of}
use Rattle.fd_save.specs.declared.saved.Options.{Options}
use Rattle.fd_cli.specs.Crash.{HoldsDump, IsAsItWas}
use Rattle.fd_cli.specs.Laws.{EachSavecoreIsSafe, EachSavedFileIsLeft}
use Rattle.fd_cli.specs.Row.{Added}
use Rattle.fd_cli.specs.Rows.Save.{HasBegunToSave, clearing_unless}

-- what is known of each cut of a save, and of the files that it leaves alone
abbrev pub CutLaw : Type 0
CutLaw =
    (force : Bool) (max : Option ℕ) (block : ℕ) (was : Contents) (h : Header) (at : ℕ) (sector body : List ℕ) (number : ℕ) (planned added : List Entry)
    (k : ℕ) (these : List Bool) (disk : Disk)
    → save.IsSavecore force max block was h at sector body number planned → IsBegun planned added
    → length was.journal ≤ k → IsCut (save.then_adds was added) k these disk → IsSafe max block number body h (parity_of sector) was disk

abbrev pub FilesLaw : Type 0
FilesLaw =
    (force : Bool) (block : ℕ) (was : Contents) (h : Header) (at : ℕ) (sector body : List ℕ) (number : ℕ) (planned added : List Entry) (name file : List ℕ)
    → save.IsSavecore force None block was h at sector body number planned → IsBegun planned added
    → IsSavedName name → file_of was name ≡ Some file → All (λ e. is_on name e ≡ false) added

-- what began without clearing is what began with it
begun_to_clear : (keep : Bool) (size block : ℕ) (sector : List ℕ) (saving added : List Entry) → IsBegun (saving ++ clearing_unless keep size block sector) added
    → IsBegun (saving ++ clearing size block sector) added
begun_to_clear false size block sector saving added begun = begun
begun_to_clear true size block sector saving added begun =
    IsBegun-within saving (clearing size block sector) added (subst (λ (l : List Entry). IsBegun l added) (append-nil saving) begun)

and_true : (b : Bool) → (b && true) ≡ b
and_true true = refl
and_true false = refl

-- a machine that stops where nothing was added leaves what was stable
as_it_was : (was : Contents) (k : ℕ) (these : List Bool) (disk : Disk) → length was.journal ≤ k → IsCut was k these disk → IsAsItWas was disk
as_it_was was k these disk behind cut = record {
  part = cut.partition ∙ cut_of_told (Some was) (Some was) was was [] k these refl refl (with_entries-nil (Some was)) behind;
  files =
      λ name file there stable.
      cut.directory name
      ((λ i. stable_after name true (take_all k was.journal behind i) && not (is_on_first name (drop_all k was.journal behind i)))
      ∙ and_true (stable_after name true was.journal) ∙ stable)
      ∙ ap (λ l. file_after name (was.base_file name) l) (take_all k was.journal behind) ∙ there;
}

-- one is told
told_one : (a b : Contents) → Some a ≡ Some b → a ≡ b
told_one a b is = cc

module _ (options : Options) (keep : Bool) (found : Seen) (added : Added) (begun : HasBegunToSave options keep found added) (was : Contents)
    (told_was : found.told ≡ Some was) (sized : length (part_of was) ≡ found.size) where
  planned : List Entry
  planned = begun.is_planned.saving ++ clearing (length (part_of was)) found.block begun.saved.sector

  -- it is what the laws of saving speak of
  savecore : save.IsSavecore options.force options.max found.block was begun.saved.header begun.saved.at begun.saved.sector begun.body begun.saved.number planned
  unfolding planned
  savecore = record {
    good = subst (λ n. IsTrue (is_good n found.block)) (sym sized) begun.good;
    found = begun.to_save.finds was told_was;
    free = begun.to_save.number was told_was;
    journal = begun.is_planned.saving;
    is_save = begun.is_planned.is_save;
    is = refl;
  }

  begins : IsBegun planned added.entries
  unfolding planned
  begins =
      begun_to_clear keep (length (part_of was)) found.block begun.saved.sector begun.is_planned.saving added.entries
      (subst (λ (l : List Entry). IsBegun l added.entries)
      (begun.is_planned.is ∙ (λ i. begun.is_planned.saving ++ clearing_unless keep (sym sized i) found.block begun.saved.sector)) begun.begun)

  holds : CutLaw → (now : Contents) → Some now ≡ with_entries found.told added.entries → (k : ℕ) (these : List Bool) (disk : Disk) → length was.journal ≤ k
      → IsCut now k these disk → HoldsDump options found.block was disk
  holds law now is k these disk behind cut =
      let same : now ≡ save.then_adds was added.entries = told_one now _ (is ∙ ap (λ t. with_entries t added.entries) told_was) in
      record {
        header = begun.saved.header;
        at = begun.saved.at;
        sector = begun.saved.sector;
        number = begun.saved.number;
        found = begun.to_save.finds was told_was;
        free = begun.to_save.number was told_was;
        safe =
            subst (λ (b : List ℕ). IsSafe options.max found.block begun.saved.number b begun.saved.header (parity_of begun.saved.sector) was disk)
            (begun.to_save.bytes was told_was)
            (law options.force options.max found.block was begun.saved.header begun.saved.at begun.saved.sector begun.body begun.saved.number planned added.entries
            k these disk savecore begins behind (subst (λ (c : Contents). IsCut c k these disk) same cut));
      }

  leaves : FilesLaw → options.max ≡ None → (name file : List ℕ) → IsSavedName name → file_of was name ≡ Some file → All (λ e. is_on name e ≡ false) added.entries
  leaves law none name file named there =
      law options.force found.block was begun.saved.header begun.saved.at begun.saved.sector begun.body begun.saved.number planned added.entries name file
      (subst (λ m. save.IsSavecore options.force m found.block was begun.saved.header begun.saved.at begun.saved.sector begun.body begun.saved.number planned) none savecore)
      begins named there

pub each_savecore_is_safe : CutLaw → EachSavecoreIsSafe
each_savecore_is_safe law options keep found new sized left was now told_was told_now k these disk behind cut = elim left.leaves [
  | inl none ↦
      let same : new ≡ found.told = left.told ∙ ap (λ a. with_entries found.told a.entries) none ∙ sym (with_entries-nil found.told) in
      let one : now ≡ was = told_one now was (sym told_now ∙ same ∙ told_was) in
      inl (as_it_was was k these disk behind (subst (λ (c : Contents). IsCut c k these disk) one cut))
  | inr begun ↦ inr (holds options keep found left.added begun was told_was (sized was told_was) law now (sym told_now ∙ left.told) k these disk behind cut)
]

pub each_saved_file_is_left : FilesLaw → EachSavedFileIsLeft
each_saved_file_is_left law options keep found new none sized left = elim left.leaves [
  | inl nothing ↦ record {
    added = [];
    told = left.told ∙ ap (λ a. with_entries found.told a.entries) nothing;
    others = λ was name file told_was named there. All-nil (λ e. is_on name e ≡ false);
  }
  | inr begun ↦ record {
    added = left.added.entries;
    told = left.told;
    others = λ was name file told_was named there. leaves options keep found left.added begun was told_was (sized was told_was) law none name file named there;
  }
]
