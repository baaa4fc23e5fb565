-- What is told after more.
use Rattle.std.proofs.Common.{◌≡◌, inl, ℕ, Bool, if◌then◌else◌, List, [], ◌∷◌, ◌++◌, Option, Some, None, refl, sym, ◌∙◌, ap, append_assoc}
use Rattle.std.proofs.lemmas.List.{append-nil}
use Rattle.fd_site.specs.Contents.{Contents, Adds, IsFailedPart, IsFailedFile, part_of, file_of, with_entries}
use Rattle.fd_site.specs.Journal.{Entry, part_after, file_after, file_step, is_on, is_sync, stable_after}
use Rattle.fd_site.specs.Trace.{grown}
use Rattle.fd_site.proofs.Written.{part_after-append}

-- nothing more
pub grown-nil : {A : Type 0} (old : Option (List A)) → old ≡ grown old []
grown-nil None = refl
grown-nil (Some xs) = ap (λ l. Some l) (sym (append-nil xs))

pub with_entries-nil : (told : Option Contents) → told ≡ with_entries told []
with_entries-nil None = refl
with_entries-nil (Some c) = ap (λ l. Some (record c { journal = l })) (sym (append-nil c.journal))

pub grown-append : {A : Type 0} (old : Option (List A)) (xs ys : List A) → grown (grown old xs) ys ≡ grown old (xs ++ ys)
grown-append None xs ys = refl
grown-append (Some zs) xs ys = ap (λ l. Some l) (append_assoc zs xs ys)

-- more after more
pub with_entries-append : (told : Option Contents) (es fs : List Entry) → with_entries (with_entries told es) fs ≡ with_entries told (es ++ fs)
with_entries-append None es fs = refl
with_entries-append (Some c) es fs = ap (λ l. Some (record c { journal = l })) (append_assoc c.journal es fs)

pub file_after-append : (q : List ℕ) (f : Option (List ℕ)) (es fs : List Entry) → file_after q f (es ++ fs) ≡ file_after q (file_after q f es) fs
file_after-append q f [] fs = refl
file_after-append q f (e ∷ es) fs = file_after-append q (file_step q f e) es fs

pub stable_after-append : (q : List ℕ) (was : Bool) (es fs : List Entry) → stable_after q was (es ++ fs) ≡ stable_after q (stable_after q was es) fs
stable_after-append q was [] fs = refl
stable_after-append q was (e ∷ es) fs = stable_after-append q (if is_on q e then is_sync e else was) es fs

-- where contents are told after more entries, they were told before, and are what the entries make of those
pub record Before (told : Option Contents) (es : List Entry) (now : Contents) : Type 0 where
  pub was : Contents
  pub told_was : told ≡ Some was
  pub part : part_of now ≡ part_after (part_of was) es
  pub file : (q : List ℕ) → file_of now q ≡ file_after q (file_of was q) es

told_part : Option Contents → List ℕ
told_part None = []
told_part (Some c) = part_of c

told_file : List ℕ → Option Contents → Option (List ℕ)
told_file q None = None
told_file q (Some c) = file_of c q

pub before : (told : Option Contents) (es : List Entry) (now : Contents) → with_entries told es ≡ Some now → Before told es now
unfolding told_part told_file
before None es now is = absurd (cc)
before (Some c) es now is = record {
  was = c;
  told_was = refl;
  part = sym (ap told_part is) ∙ part_after-append c.base_part c.journal es;
  file = λ q. sym (ap (told_file q) is) ∙ file_after-append q (c.base_file q) c.journal es;
}

-- what a call adds behind what was added before it
module _ (P Q R : List Entry → Type 0) (joins : (us vs : List Entry) → P us → Q vs → R (us ++ vs)) (old mid new : Option Contents) (done : Adds P old mid) where
  pub behind : (more : List Entry) → new ≡ with_entries mid more → new ≡ with_entries old (done.0 ++ more)
  behind more told = told ∙ ap (λ t. with_entries t more) done.2 ∙ with_entries-append old done.0 more

  pub adds_then : Adds Q mid new → Adds R old new
  adds_then more = (done.0 ++ more.0, joins done.0 more.0 done.1 more.1, behind more.0 more.2)

-- a failed call that added nothing
pub adds_no_part : (at : ℕ) (bytes : List ℕ) (old new : Option Contents) → new ≡ old → Adds (IsFailedPart at bytes) old new
adds_no_part at bytes old new same = ([], inl refl, same ∙ with_entries-nil old)

pub adds_no_file : (name : List ℕ) (old new : Option Contents) → new ≡ old → Adds (IsFailedFile name) old new
adds_no_file name old new same = ([], inl refl, same ∙ with_entries-nil old)
