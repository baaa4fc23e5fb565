-- Entries on one file alone, and what they leave as it was.
use Rattle.std.proofs.Common.{◌≡◌, ◌≢◌, inl, inr, ℕ, zero, suc, Bool, true, false, List, [], ◌∷◌, ◌++◌, take, drop, Option, if◌then◌else◌, refl, sym, ◌∙◌, ap, subst}
use Rattle.std.proofs.lemmas.Slice.Eq.{bytes_eq-Decides}
use Rattle.std.specs.Str.{bytes_eq}
use Rattle.fd_site.specs.Begun.{IsBegun, IsFailed}
use Rattle.fd_site.specs.Contents.{IsFailedFile}
use Rattle.fd_site.specs.Cut.{is_on_first, part_cut, part_torn}
use Rattle.fd_site.specs.Journal.{Entry, Part, Create, Write, Sync, Spoiled, file_after, file_after_own, is_on, is_sync, part_after, part_step, stable_after}

-- names
pub same_name : (name : List ℕ) → bytes_eq name name ≡ true
same_name name = (bytes_eq-Decides name name).1 refl

other_name : (q name : List ℕ) → q ≢ name → bytes_eq q name ≡ false
other_name q name other = decided (bytes_eq q name) (bytes_eq-Decides q name).0
  where
    decided : (same : Bool) → (same ≡ true → q ≡ name) → same ≡ false
    decided true means = absurd (other (means refl))
    decided false means = refl

module _ (name : List ℕ) where
  -- An entry on this file alone.
  pub record IsOnFile (e : Entry) : Type 0 where
    pub named : (q : List ℕ) → is_on q e ≡ bytes_eq q name
    pub step : (part : List ℕ) → part_step part e ≡ part
    pub torn : (part : List ℕ) (these : List Bool) → part_torn part e these ≡ part

  abbrev pub AllOnFile : List Entry → Type 0
  AllOnFile [] = Unit {0}
  AllOnFile (e ∷ es) = IsOnFile e × AllOnFile es

  pub AllOnFile-append : (es fs : List Entry) → AllOnFile es → AllOnFile fs → AllOnFile (es ++ fs)
  AllOnFile-append [] fs ours theirs = theirs
  AllOnFile-append (e ∷ es) fs ours theirs = (ours.0, AllOnFile-append es fs ours.1 theirs)

  pub AllOnFile-take : (n : ℕ) (es : List Entry) → AllOnFile es → AllOnFile (take n es)
  AllOnFile-take zero es on = tt
  AllOnFile-take (suc n) [] on = tt
  AllOnFile-take (suc n) (e ∷ es) on = (on.0, AllOnFile-take n es on.1)

  pub AllOnFile-drop : (n : ℕ) (es : List Entry) → AllOnFile es → AllOnFile (drop n es)
  AllOnFile-drop zero es on = on
  AllOnFile-drop (suc n) [] on = tt
  AllOnFile-drop (suc n) (e ∷ es) on = AllOnFile-drop n es on.1

  -- what failing a call on a file of this name adds
  AllOnFile-failed : (other : List ℕ) (es : List Entry) → ((q : List ℕ) → bytes_eq q other ≡ bytes_eq q name) → IsFailedFile other es → AllOnFile es
  AllOnFile-failed other es named (inl none) = subst AllOnFile (sym none) tt
  AllOnFile-failed other es named (inr (now, one)) =
      subst AllOnFile (sym one) (record { named = named; step = λ part. refl; torn = λ part these. refl }, tt)

  AllOnFile-failed_entry : (p : Entry) (es : List Entry) → IsOnFile p → IsFailed p es → AllOnFile es
  AllOnFile-failed_entry (Part at bytes kept) es on failed = absurd (nothing_on (sym (same_name name) ∙ sym (on.named name)))
    where
      nothing_on : true ≡ false → ⊥
      nothing_on e = cc
  AllOnFile-failed_entry (Create other) es on failed = AllOnFile-failed other es on.named failed
  AllOnFile-failed_entry (Write other at bytes) es on failed = AllOnFile-failed other es on.named failed
  AllOnFile-failed_entry (Sync other) es on failed = AllOnFile-failed other es on.named failed
  AllOnFile-failed_entry (Spoiled other now) es on none = subst AllOnFile (sym none) tt

  pub AllOnFile-begins : (planned added : List Entry) → AllOnFile planned → IsBegun planned added → AllOnFile added
  AllOnFile-begins planned [] on begun = tt
  AllOnFile-begins [] (e ∷ es) on begun = absurd begun
  AllOnFile-begins (p ∷ planned) (e ∷ es) on (inl (same, begun)) = (subst IsOnFile (sym same) on.0, AllOnFile-begins planned es on.1 begun)
  AllOnFile-begins (p ∷ planned) (e ∷ es) on (inr failed) = AllOnFile-failed_entry p (e ∷ es) on.0 failed

  -- What such entries leave alone: the partition, also where the machine stops, and other files.
  pub part_after-on_file : (part : List ℕ) (es : List Entry) → AllOnFile es → part_after part es ≡ part
  part_after-on_file part [] on = refl
  part_after-on_file part (e ∷ es) on = ap (λ l. part_after l es) (on.0.step part) ∙ part_after-on_file part es on.1

  pub part_cut-on_file : (part : List ℕ) (es : List Entry) (k : ℕ) (these : List Bool) → AllOnFile es → part_cut part es k these ≡ part
  part_cut-on_file part [] k these on = refl
  part_cut-on_file part (e ∷ es) zero these on = on.0.torn part these
  part_cut-on_file part (e ∷ es) (suc k) these on = ap (λ l. part_cut l es k these) (on.0.step part) ∙ part_cut-on_file part es k these on.1

  module _ (q : List ℕ) (other : q ≢ name) where
    not_on : (e : Entry) → IsOnFile e → is_on q e ≡ false
    not_on e on = on.named q ∙ other_name q name other

    pub file_after-on_other : (was : Option (List ℕ)) (es : List Entry) → AllOnFile es → file_after q was es ≡ was
    file_after-on_other was [] on = refl
    file_after-on_other was (e ∷ es) on =
        ap (λ b. file_after q (if b then file_after_own was e else was) es) (not_on e on.0) ∙ file_after-on_other was es on.1

    pub stable_after-on_other : (was : Bool) (es : List Entry) → AllOnFile es → stable_after q was es ≡ was
    stable_after-on_other was [] on = refl
    stable_after-on_other was (e ∷ es) on =
        ap (λ b. stable_after q (if b then is_sync e else was) es) (not_on e on.0) ∙ stable_after-on_other was es on.1

    pub is_on_first-on_other : (es : List Entry) → AllOnFile es → is_on_first q es ≡ false
    is_on_first-on_other [] on = refl
    is_on_first-on_other (e ∷ es) on = not_on e on.0
