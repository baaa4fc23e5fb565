-- The contents of a disk in memory stay those after its journal.
use Rattle.std.proofs.Common.{◌≡◌, inl, inr, ℕ, ◌%◌, Bool, true, false, cond, List, [], ◌∷◌, ◌++◌, length, Option, Some, None, refl, sym, ◌∙◌, ap}
use Rattle.std.proofs.lemmas.Bool.{cases_Bool}
use Rattle.std.proofs.lemmas.Slice.Eq.{bytes_eq-Decides}
use Rattle.std.proofs.lemmas.Map.Text.{is_eq-slice_cmp}
use Rattle.std.specs.Cmp.Lexicographic.{slice_cmp}
use Rattle.std.specs.Map.{lookup}
use Rattle.std.specs.Option.{option_map}
use Rattle.std.specs.Ordering.{is_eq, nat_cmp}
use Rattle.std.specs.Str.{bytes_eq}
use Rattle.std.specs.String.{string_bytes}
use Rattle.std.specs.Prelude.{String, Vec, map, Result, Ok, Err, OnErr}
use Rattle.std.specs.declared.alloc.Global.{Global}
use borrow.Rule.Slice.PartMut.{put_mid}
use Rattle.fd_site.specs.Contents.{whole_part}
use Rattle.fd_site.specs.Journal.{Entry, Sync, part_step, part_after, file_step, file_after}
use Rattle.fd_site.proofs.Written.{part_after-append, part_after-whole_part}
use Rattle.fd_site.proofs.Told.{file_after-append}
use Rattle.fd_fake.specs.Directory.{Files, content, file_in, listed}
use Rattle.fd_fake.specs.Disk.{IsCurrent}

-- a list of files is read as the map is
pub file_in-listed : (files : Files) (q : List ℕ) → file_in (listed files) q ≡ content files q
file_in-listed files q = in_entries files.entries
  where
    by_test : (same : Bool) (v : Vec ℕ Global) (a : Option (List ℕ)) (b : Option (Vec ℕ Global)) → a ≡ option_map (λ v. v.items) b
        → cond same (Some v.items) a ≡ option_map (λ v. v.items) (cond same (Some v) b)
    by_test true v a b is = refl
    by_test false v a b is = is

    in_entries : (es : List (String Global × Vec ℕ Global)) → file_in (map (λ e. (string_bytes e.0, e.1.items)) es) q
        ≡ option_map (λ v. v.items) (lookup (λ k. is_eq (slice_cmp nat_cmp q (string_bytes k))) es)
    in_entries [] = refl
    in_entries (e ∷ es) = rw (is_eq-slice_cmp q (string_bytes e.0)) (by_test (bytes_eq q (string_bytes e.0)) e.1 _ _ (in_entries es))

-- the file of this name as it is
pub current-content : (base part : List ℕ) (base_files files : Files) (es : List Entry) (q : List ℕ) → IsCurrent base part base_files files es
    → content files q ≡ file_after q (file_in (listed base_files) q) es
current-content base part base_files files es q was = was.files_are q ∙ ap (λ f. file_after q f es) (sym (file_in-listed base_files q))

-- one whole write to the partition more
pub current-part : (base part now : List ℕ) (base_files files : Files) (es fs : List Entry) (at : ℕ) (bytes : List ℕ) → IsCurrent base part base_files files es
    → length bytes % 512 ≡ 0 → now ≡ put_mid at (length bytes) part bytes → fs ≡ es ++ whole_part at bytes ∷ [] → IsCurrent base now base_files files fs
current-part base part now base_files files es fs at bytes was whole is noted = record {
  part_is = is ∙ part_after-whole_part base part es at bytes was.part_is whole ∙ ap (λ l. part_after base l) (sym noted);
  files_are = λ q. was.files_are q ∙ sym (ap (λ l. file_after q (content base_files q) l) noted ∙ file_after-append q (content base_files q) es (whole_part at bytes ∷ []));
}

-- one entry on a file more
pub current-file : (base part : List ℕ) (base_files files now : Files) (es fs : List Entry) (e : Entry) → IsCurrent base part base_files files es
    → ((p : List ℕ) → part_step p e ≡ p) → ((q : List ℕ) → content now q ≡ file_step q (content files q) e) → fs ≡ es ++ e ∷ [] → IsCurrent base part base_files now fs
current-file base part base_files files now es fs e was still steps noted = record {
  part_is = was.part_is ∙ sym (ap (λ l. part_after base l) noted ∙ part_after-append base es (e ∷ []) ∙ still (part_after base es));
  files_are = λ q. steps q ∙ ap (λ o. file_step q o e) (was.files_are q) ∙ sym (ap (λ l. file_after q (content base_files q) l) noted ∙ file_after-append q (content base_files q) es (e ∷ []));
}

-- a sync changes no file
pub synced : (q name : List ℕ) (was : Option (List ℕ)) → was ≡ file_step q was (Sync name)
synced q name was = either (bytes_eq q name)
  where
    either : (b : Bool) → was ≡ cond b was was
    either true = refl
    either false = refl

-- a file that was put where there was none, and taken out again
pub taken_out : (was filled now : List ℕ → Option (List ℕ)) (name : List ℕ) (file : Option (List ℕ)) → ((q : List ℕ) → filled q ≡ cond (bytes_eq q name) file (was q))
    → ((q : List ℕ) → now q ≡ cond (bytes_eq q name) None (filled q)) → was name ≡ None → (q : List ℕ) → now q ≡ was q
taken_out was filled now name file puts takes none q =
    elim (cases_Bool (bytes_eq q name)) [
      | inl same ↦
          let is : q ≡ name = (bytes_eq-Decides q name).0 same in
          takes q ∙ ap (λ b. cond b None (filled q)) same ∙ sym (ap was is ∙ none)
      | inr other ↦ takes q ∙ ap (λ b. cond b None (filled q)) other ∙ puts q ∙ ap (λ b. cond b file (was q)) other
    ]

-- the exit of an error
pub on_err : {T E P : Type 0} (r : Result T E) → P → OnErr r P
on_err (Ok x) p = tt
on_err (Err e) p = p
