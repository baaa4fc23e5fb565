-- Entries on the files of one number leave those of another as they are.
use Rattle.std.proofs.Common.{◌≡◌, inl, inr, ℕ, zero, suc, ◌+◌, ◌<◌, ◌≤◌, Bool, true, false, cond, List, [], ◌∷◌, get_or}
use Rattle.std.proofs.Common.{take, drop, codes, Option, Some, None, is_none, refl, sym, ◌∙◌, ap, subst, arith}
use Rattle.std.proofs.lemmas.Fmt.{decimal_injective}
use Rattle.std.proofs.lemmas.Slice.Eq.{bytes_eq-Decides}
use Rattle.std.proofs.lemmas.List.{append_cancel_left}
use Rattle.std.proofs.lemmas.Bool.{and_parts, cases_Bool}
use Rattle.std.specs.Fmt.{decimal}
use Rattle.std.specs.Str.{bytes_eq}
use Rattle.fd_site.specs.Journal.{Entry, Part, Create, Write, Sync, Spoiled, is_on, is_sync, file_after, file_after_own, stable_after}
use Rattle.fd_site.specs.Cut.{is_on_first}
pub use Rattle.fd_netserver.specs.Files.{NoneOn, AreApart}
use Rattle.fd_info.specs.Name.{info_name, vmcore_name}
use Rattle.fd_netserver.specs.Files.{Files, is_free, free_from, free_number}
use Rattle.fd_site.specs.Begun.{IsBegun, IsFailed}
use Rattle.fd_netserver.specs.Table.{Row, Skips, Repeats, Opens, Writes, Keeps, Ends, entries_of}

pub bytes_eq-same : (a : List ℕ) → bytes_eq a a ≡ true
bytes_eq-same a = (bytes_eq-Decides a a).1 refl

pub bytes_eq-other : (a b : List ℕ) → (a ≡ b → ⊥) → bytes_eq a b ≡ false
bytes_eq-other a b other = elim (cases_Bool (bytes_eq a b)) [ inl is ↦ absurd (other ((bytes_eq-Decides a b).0 is)) | inr isnt ↦ isnt ]

-- names
pub vmcore-injective : (m n : ℕ) → m < 65536 → n < 65536 → vmcore_name m ≡ vmcore_name n → m ≡ n
vmcore-injective m n fits_m fits_n same = decimal_injective m n (omega arith) (omega arith) (append_cancel_left (codes "vmcore.") (decimal m) (decimal n) same)

pub info-injective : (m n : ℕ) → m < 65536 → n < 65536 → info_name m ≡ info_name n → m ≡ n
info-injective m n fits_m fits_n same = decimal_injective m n (omega arith) (omega arith) (append_cancel_left (codes "info.") (decimal m) (decimal n) same)

chars : (a b : ℕ) → a ≡ 118 → b ≡ 105 → a ≡ b → ⊥
chars a b is_v is_i same = absurd (omega arith)

pub core-info : (m n : ℕ) → vmcore_name m ≡ info_name n → ⊥
core-info m n same = chars (get_or (vmcore_name m) 0 0) (get_or (info_name n) 0 0) refl refl (ap (λ (l : List ℕ). get_or l 0 0) same)

pub file_after-none : (q : List ℕ) (was : Option (List ℕ)) (es : List Entry) → NoneOn q es → file_after q was es ≡ was
file_after-none q was [] none = refl
file_after-none q was (e ∷ es) none = ap (λ (b : Bool). file_after q (cond b (file_after_own was e) was) es) none.0 ∙ file_after-none q was es none.1

pub stable_after-none : (q : List ℕ) (was : Bool) (es : List Entry) → NoneOn q es → stable_after q was es ≡ was
stable_after-none q was [] none = refl
stable_after-none q was (e ∷ es) none = ap (λ (b : Bool). stable_after q (cond b (is_sync e) was) es) none.0 ∙ stable_after-none q was es none.1

pub NoneOn-take : (q : List ℕ) (k : ℕ) (es : List Entry) → NoneOn q es → NoneOn q (take k es)
NoneOn-take q zero es none = tt
NoneOn-take q (suc k) [] none = tt
NoneOn-take q (suc k) (e ∷ es) none = (none.0, NoneOn-take q k es none.1)

pub first_none : (q : List ℕ) (k : ℕ) (es : List Entry) → NoneOn q es → is_on_first q (drop k es) ≡ false
first_none q zero [] none = refl
first_none q zero (e ∷ es) none = none.0
first_none q (suc k) [] none = refl
first_none q (suc k) (e ∷ es) none = first_none q k es none.1

-- what was begun is on no other file than the whole
failed_on : (q : List ℕ) (w : Entry) (es : List Entry) → IsFailed w es → is_on q w ≡ false → NoneOn q es
failed_on q (Part at bytes kept) es (inl none) off = subst (NoneOn q) (sym none) tt
failed_on q (Part at bytes kept) es (inr part) off = subst (NoneOn q) (sym part.2) (refl, tt)
failed_on q (Create name) es (inl none) off = subst (NoneOn q) (sym none) tt
failed_on q (Create name) es (inr (now, one)) off = subst (NoneOn q) (sym one) (off, tt)
failed_on q (Write name at bytes) es (inl none) off = subst (NoneOn q) (sym none) tt
failed_on q (Write name at bytes) es (inr (now, one)) off = subst (NoneOn q) (sym one) (off, tt)
failed_on q (Sync name) es (inl none) off = subst (NoneOn q) (sym none) tt
failed_on q (Sync name) es (inr (now, one)) off = subst (NoneOn q) (sym one) (off, tt)
failed_on q (Spoiled name now) es failed off = subst (NoneOn q) (sym failed) tt

pub begun_on : (q : List ℕ) (ws es : List Entry) → IsBegun ws es → NoneOn q ws → NoneOn q es
begun_on q ws [] begun none = tt
begun_on q [] (e ∷ es) begun none = absurd begun
begun_on q (w ∷ ws) (e ∷ es) (inl same) none = (ap (is_on q) same.0 ∙ none.0, begun_on q ws es same.1 none.1)
begun_on q (w ∷ ws) (e ∷ es) (inr failed) none = failed_on q w (e ∷ es) failed none.0

-- the number whose files a row's entries are on, where there is one
abbrev pub Touches : Row → ℕ → Type 0
Touches (Skips why) n = ⊥
Touches (Repeats slot seqno) n = ⊥
Touches (Opens slot seqno number) n = number ≡ n
Touches (Writes slot seqno number piece) n = number ≡ n
Touches (Keeps slot seqno) n = ⊥
Touches (Ends slot seqno number header parity) n = number ≡ n

-- the number is one of those that are given
abbrev pub IsNumbered : Row → Type 0
IsNumbered row = (n : ℕ) → Touches row n → n < 65536

core_off : (n m : ℕ) → n < 65536 → m < 65536 → (m ≡ n → ⊥) → bytes_eq (vmcore_name n) (vmcore_name m) ≡ false
core_off n m fits_n fits_m other = bytes_eq-other (vmcore_name n) (vmcore_name m) (λ e. other (sym (vmcore-injective n m fits_n fits_m e)))

info_off : (n m : ℕ) → n < 65536 → m < 65536 → (m ≡ n → ⊥) → bytes_eq (info_name n) (info_name m) ≡ false
info_off n m fits_n fits_m other = bytes_eq-other (info_name n) (info_name m) (λ e. other (sym (info-injective n m fits_n fits_m e)))

pub core_info_off : (n m : ℕ) → bytes_eq (vmcore_name n) (info_name m) ≡ false
core_info_off n m = bytes_eq-other (vmcore_name n) (info_name m) (core-info n m)

pub info_core_off : (n m : ℕ) → bytes_eq (info_name n) (vmcore_name m) ≡ false
info_core_off n m = bytes_eq-other (info_name n) (vmcore_name m) (λ e. core-info m n (sym e))

pub row_apart : (row : Row) (n : ℕ) → n < 65536 → IsNumbered row → (Touches row n → ⊥) → AreApart n (entries_of row)
row_apart (Skips why) n fits small other = record { core = tt; info = tt }
row_apart (Repeats slot seqno) n fits small other = record { core = tt; info = tt }
row_apart (Opens slot seqno number) n fits small other = record {
  core = (core_off n number fits (small number refl) other, tt);
  info = (info_core_off n number, tt);
}
row_apart (Writes slot seqno number piece) n fits small other = record {
  core = (core_off n number fits (small number refl) other, tt);
  info = (info_core_off n number, tt);
}
row_apart (Keeps slot seqno) n fits small other = record { core = tt; info = tt }
row_apart (Ends slot seqno number header parity) n fits small other =
    let info : bytes_eq (info_name n) (info_name number) ≡ false = info_off n number fits (small number refl) other in
    record {
      core = (core_off n number fits (small number refl) other, (core_info_off n number, (core_info_off n number, (core_info_off n number, tt))));
      info = (info_core_off n number, (info, (info, (info, tt))));
    }

-- a free number has no files and is small
pub record IsFreeNumber (files : Files) (n : ℕ) : Type 0 where
  pub core : files (vmcore_name n) ≡ None
  pub info : files (info_name n) ≡ None
  pub small : n < 65536

none_is : (o : Option (List ℕ)) → is_none o ≡ true → o ≡ None
none_is None is = refl
none_is (Some x) is = absurd (cc)

free_from-is : (files : Files) (more at n : ℕ) → free_from files more at ≡ Some n → at + more ≤ 65536 → IsFreeNumber files n
free_from-is files zero at n is room = absurd (cc)
free_from-is files (suc more) at n is room = by_test (is_free files at) refl is (λ later. free_from-is files more (at + 1) n later (omega arith))
  where
    by_test : (free : Bool) → is_free files at ≡ free → elim free [ true ↦ Some at | false ↦ free_from files more (at + 1) ] ≡ Some n
        → (free_from files more (at + 1) ≡ Some n → IsFreeNumber files n) → IsFreeNumber files n
    by_test true free is later =
        let same : at ≡ n = cc in
        let parts = and_parts (is_none (files (vmcore_name at))) (is_none (files (info_name at))) free in
        subst (IsFreeNumber files) same (record { core = none_is (files (vmcore_name at)) parts.0; info = none_is (files (info_name at)) parts.1; small = omega arith })
    by_test false free is later = later is

pub free_number-is : (files : Files) (n : ℕ) → free_number files ≡ Some n → IsFreeNumber files n
unfolding free_number
free_number-is files n is = free_from-is files 65536 0 n is (omega arith)
