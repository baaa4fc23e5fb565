-- What entries leave of a file that none of them is on, and of one that they make whole.
use Rattle.std.proofs.Common.{◌≡◌, ◌≢◌, inl, inr, ℕ, zero, suc, ◌+◌, Bool, true, false, List, [], ◌∷◌, ◌++◌, length, take, drop, Option, Some, All, if◌then◌else◌, refl, sym, ◌∙◌, ap, subst, arith}
use Rattle.std.proofs.lemmas.List.Elements.{All-cons, All-nil}
use Rattle.std.proofs.lemmas.Slice.Eq.{bytes_eq-Decides}
use Rattle.std.specs.Str.{bytes_eq}
use Rattle.fd_site.specs.Begun.{IsBegun, IsFailed}
use Rattle.fd_site.specs.Contents.{IsFailedFile}
use Rattle.fd_site.specs.Cut.{is_on_first}
use Rattle.fd_site.specs.FileJournal.{IsFileJournal}
use Rattle.fd_site.specs.Journal.{Entry, Part, Create, Write, Sync, Spoiled, file_after, file_after_own, is_on, is_sync, stable_after}
use Rattle.fd_site.proofs.FileJournals.{AllOnFile-whole, file_after-whole, stable_after-whole}
use Rattle.fd_site.proofs.OnFile.{AllOnFile}
use Rattle.fd_site.proofs.Told.{file_after-append, stable_after-append}

other_name : (q name : List ℕ) → q ≢ name → bytes_eq q name ≡ false
other_name q name other = decided (bytes_eq q name) (bytes_eq-Decides q name).0
  where
    decided : (same : Bool) → (same ≡ true → q ≡ name) → same ≡ false
    decided true means = absurd (other (means refl))
    decided false means = refl

module _ (q : List ℕ) where
  -- none of the entries is on the file
  abbrev pub AllOff : List Entry → Type 0
  AllOff [] = Unit {0}
  AllOff (e ∷ es) = (is_on q e ≡ false) × AllOff es

  pub AllOff-append : (es fs : List Entry) → AllOff es → AllOff fs → AllOff (es ++ fs)
  AllOff-append [] fs ours theirs = theirs
  AllOff-append (e ∷ es) fs ours theirs = (ours.0, AllOff-append es fs ours.1 theirs)

  pub AllOff-take : (n : ℕ) (es : List Entry) → AllOff es → AllOff (take n es)
  AllOff-take zero es off = tt
  AllOff-take (suc n) [] off = tt
  AllOff-take (suc n) (e ∷ es) off = (off.0, AllOff-take n es off.1)

  pub first_off : (n : ℕ) (es : List Entry) → AllOff es → is_on_first q (drop n es) ≡ false
  first_off zero [] off = refl
  first_off zero (e ∷ es) off = off.0
  first_off (suc n) [] off = refl
  first_off (suc n) (e ∷ es) off = first_off n es off.1

  file_entries_off : (name : List ℕ) → q ≢ name → (es : List Entry) → AllOnFile name es → AllOff es
  file_entries_off name other [] on = tt
  file_entries_off name other (e ∷ es) on = (on.0.named q ∙ other_name q name other, file_entries_off name other es on.1)

  pub file_off : (name bytes : List ℕ) (journal : List Entry) → q ≢ name → IsFileJournal name bytes journal → AllOff journal
  file_off name bytes journal other j = file_entries_off name other journal (AllOnFile-whole name bytes journal j)

  pub AllOff-all : (es : List Entry) → AllOff es → All (λ e. is_on q e ≡ false) es
  AllOff-all [] off = All-nil (λ e. is_on q e ≡ false)
  AllOff-all (e ∷ es) off = All-cons (λ e. is_on q e ≡ false) e es off.0 (AllOff-all es off.1)

  -- what was begun of entries that aren't on the file isn't either
  failed_file_off : (name : List ℕ) (es : List Entry) → bytes_eq q name ≡ false → IsFailedFile name es → AllOff es
  failed_file_off name es other (inl none) = subst AllOff (sym none) tt
  failed_file_off name es other (inr (now, one)) = subst AllOff (sym one) (other, tt)

  failed_off : (p : Entry) (es : List Entry) → is_on q p ≡ false → IsFailed p es → AllOff es
  failed_off (Part at bytes kept) es off (inl none) = subst AllOff (sym none) tt
  failed_off (Part at bytes kept) es off (inr (some, le, one)) = subst AllOff (sym one) (refl, tt)
  failed_off (Create name) es off failed = failed_file_off name es off failed
  failed_off (Write name at bytes) es off failed = failed_file_off name es off failed
  failed_off (Sync name) es off failed = failed_file_off name es off failed
  failed_off (Spoiled name now) es off none = subst AllOff (sym none) tt

  pub begun_off : (planned added : List Entry) → AllOff planned → IsBegun planned added → AllOff added
  begun_off planned [] off begun = tt
  begun_off [] (e ∷ es) off begun = absurd begun
  begun_off (p ∷ planned) (e ∷ es) off (inl (same, begun)) = (ap (is_on q) same ∙ off.0, begun_off planned es off.1 begun)
  begun_off (p ∷ planned) (e ∷ es) off (inr failed) = failed_off p (e ∷ es) off.0 failed

  -- such entries change nothing
  pub file_after-off : (was : Option (List ℕ)) (es : List Entry) → AllOff es → file_after q was es ≡ was
  file_after-off was [] off = refl
  file_after-off was (e ∷ es) off = ap (λ b. file_after q (if b then file_after_own was e else was) es) off.0 ∙ file_after-off was es off.1

  pub stable_after-off : (was : Bool) (es : List Entry) → AllOff es → stable_after q was es ≡ was
  stable_after-off was [] off = refl
  stable_after-off was (e ∷ es) off = ap (λ b. stable_after q (if b then is_sync e else was) es) off.0 ∙ stable_after-off was es off.1

  -- the entries make the file of these bytes, stable, whatever it was
  pub record Settles (file : List ℕ) (es : List Entry) : Type 0 where
    pub made : (was : Option (List ℕ)) → file_after q was es ≡ Some file
    pub stable : (was : Bool) → stable_after q was es ≡ true

  pub settles_whole : (file : List ℕ) (journal : List Entry) → IsFileJournal q file journal → Settles file journal
  settles_whole file journal j = record { made = λ was. file_after-whole q file journal was j; stable = λ was. stable_after-whole q file journal was j }

  pub settles_then : (file : List ℕ) (es more : List Entry) → Settles file es → AllOff more → Settles file (es ++ more)
  settles_then file es more s off = record {
    made = λ was. file_after-append q was es more ∙ file_after-off (file_after q was es) more off ∙ s.made was;
    stable = λ was. stable_after-append q was es more ∙ stable_after-off (stable_after q was es) more off ∙ s.stable was;
  }

  pub settles_behind : (file : List ℕ) (front es : List Entry) → Settles file es → Settles file (front ++ es)
  settles_behind file front es s = record {
    made = λ was. file_after-append q was front es ∙ s.made (file_after q was front);
    stable = λ was. stable_after-append q was front es ∙ s.stable (stable_after q was front);
  }

-- a cut behind some entries
pub take_behind : (es fs : List Entry) (n : ℕ) → take (length es + n) (es ++ fs) ≡ es ++ take n fs
take_behind [] fs n = let same : 0 + n ≡ n = omega arith in ap (λ k. take k fs) same
take_behind (e ∷ es) fs n =
    let same : suc (length es) + n ≡ suc (length es + n) = omega arith in
    ap (λ k. take k (e ∷ es ++ fs)) same ∙ ap (λ (l : List Entry). e ∷ l) (take_behind es fs n)

pub drop_behind : (es fs : List Entry) (n : ℕ) → drop (length es + n) (es ++ fs) ≡ drop n fs
drop_behind [] fs n = let same : 0 + n ≡ n = omega arith in ap (λ k. drop k fs) same
drop_behind (e ∷ es) fs n =
    let same : suc (length es) + n ≡ suc (length es + n) = omega arith in
    ap (λ k. drop k (e ∷ es ++ fs)) same ∙ drop_behind es fs n
