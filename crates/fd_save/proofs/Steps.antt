-- The files of a saved dump, made one after another.
use Rattle.std.proofs.Common.{◌≡◌, ℕ, ◌+◌, List, [], ◌∷◌, ◌++◌, Option, refl, sym, ◌∙◌, ap, subst, append_assoc}
use Rattle.std.proofs.lemmas.List.{append-nil}
use Rattle.fd_site.specs.Contents.{Adds, Contents}
use Rattle.fd_site.specs.FileJournal.{IsBegunFile, IsFileJournal, file_writes}
use Rattle.fd_site.specs.Journal.{Create, Entry, Sync}
use Rattle.fd_site.proofs.Begun.{IsBegun-behind, IsBegun-within}
use Rattle.fd_site.proofs.Told.{adds_then}
use Rattle.fd_kdh.specs.declared.header.Header.{Header}
use Rattle.fd_info.specs.Bounds.{bounds_text}
use Rattle.fd_info.specs.Info.{info_text}
use Rattle.fd_info.specs.Name.{bounds_name, info_name, vmcore_name}
use Rattle.fd_save.specs.Outcome.{Copies}
use Rattle.fd_save.specs.Saving.{IsBegunSave, IsSaveJournal, device_name}

-- a file of bytes in one piece
one_piece : List ℕ → List ℕ → List Entry
one_piece name bytes = Create name ∷ (file_writes name 0 (bytes ∷ []) ++ Sync name ∷ [])

is_one_piece : (name bytes : List ℕ) → IsFileJournal name bytes (one_piece name bytes)
unfolding one_piece
is_one_piece name bytes = record { pieces = bytes ∷ []; joined = append-nil bytes; is = refl }

module _ (body : List ℕ) (h : Header) (parity n : ℕ) where
  abbrev text : List ℕ
  text = info_text h device_name parity n

  abbrev next : List ℕ
  next = bounds_text (n + 1)

  saved_journal : (vmcore info bounds : List Entry) → IsFileJournal (vmcore_name n) body vmcore → IsFileJournal (info_name n) text info
      → IsFileJournal bounds_name next bounds → IsSaveJournal body h parity n (vmcore ++ (info ++ bounds))
  saved_journal vmcore info bounds a b c = record { vmcore = vmcore; info = info; bounds = bounds; is_vmcore = a; is_info = b; is_bounds = c; is = refl }

  begun_vmcore : (added : List Entry) → IsBegunFile (vmcore_name n) body added → IsBegunSave body h parity n added
  begun_vmcore added b = record {
    planned = b.planned ++ (one_piece (info_name n) text ++ one_piece bounds_name next);
    is_save = saved_journal b.planned (one_piece (info_name n) text) (one_piece bounds_name next) b.is_file (is_one_piece (info_name n) text) (is_one_piece bounds_name next);
    begun = IsBegun-within b.planned (one_piece (info_name n) text ++ one_piece bounds_name next) added b.begun;
  }

  begun_info : (vmcore added : List Entry) → IsFileJournal (vmcore_name n) body vmcore → IsBegunFile (info_name n) text added → IsBegunSave body h parity n (vmcore ++ added)
  begun_info vmcore added a b = record {
    planned = vmcore ++ (b.planned ++ one_piece bounds_name next);
    is_save = saved_journal vmcore b.planned (one_piece bounds_name next) a b.is_file (is_one_piece bounds_name next);
    begun = IsBegun-behind vmcore (b.planned ++ one_piece bounds_name next) added (IsBegun-within b.planned (one_piece bounds_name next) added b.begun);
  }

  begun_bounds : (vmcore info added : List Entry) → IsFileJournal (vmcore_name n) body vmcore → IsFileJournal (info_name n) text info
      → IsBegunFile bounds_name next added → IsBegunSave body h parity n (vmcore ++ (info ++ added))
  begun_bounds vmcore info added a b c = record {
    planned = vmcore ++ (info ++ c.planned);
    is_save = saved_journal vmcore info c.planned a b c.is_file;
    begun = IsBegun-behind vmcore (info ++ c.planned) (info ++ added) (IsBegun-behind info c.planned added c.begun);
  }

-- The same of what is told.
module _ (h : Header) (parity n at len : ℕ) (old one two new : Option Contents) where
  pub copies_begun_vmcore : Copies (IsBegunFile (vmcore_name n)) at len old new → Copies (λ body. IsBegunSave body h parity n) at len old new
  copies_begun_vmcore copies =
      record { body = copies.body; bytes = copies.bytes; adds = (copies.adds.0, begun_vmcore copies.body h parity n copies.adds.0 copies.adds.1, copies.adds.2) }

  pub copies_begun_info : Copies (IsFileJournal (vmcore_name n)) at len old one → Adds (IsBegunFile (info_name n) (info_text h device_name parity n)) one new
      → Copies (λ body. IsBegunSave body h parity n) at len old new
  copies_begun_info copies info = record {
    body = copies.body;
    bytes = copies.bytes;
    adds = adds_then _ _ (IsBegunSave copies.body h parity n) (λ us vs a b. begun_info copies.body h parity n us vs a b) old one new copies.adds info;
  }

  module _ (copies : Copies (IsFileJournal (vmcore_name n)) at len old one) (info : Adds (IsFileJournal (info_name n) (info_text h device_name parity n)) one two) where
    two_files : Adds (λ added. (vmcore : List Entry) × (more : List Entry) × IsFileJournal (vmcore_name n) copies.body vmcore
        × IsFileJournal (info_name n) (info_text h device_name parity n) more × (added ≡ vmcore ++ more)) old two
    two_files =
        adds_then (IsFileJournal (vmcore_name n) copies.body) (IsFileJournal (info_name n) (info_text h device_name parity n)) _
        (λ us vs a b. (us, vs, a, b, refl)) old one two copies.adds info

    pub copies_begun_bounds : Adds (IsBegunFile bounds_name (bounds_text (n + 1))) two new → Copies (λ body. IsBegunSave body h parity n) at len old new
    copies_begun_bounds bounds = record {
      body = copies.body;
      bytes = copies.bytes;
      adds =
          adds_then _ _ (IsBegunSave copies.body h parity n)
          (λ us vs a b. subst (IsBegunSave copies.body h parity n) (sym (ap (λ (l : List Entry). l ++ vs) a.4 ∙ append_assoc a.0 a.1 vs))
          (begun_bounds copies.body h parity n a.0 a.1 vs a.2 a.3 b)) old two new two_files bounds;
    }

    pub copies_saved : Adds (IsFileJournal bounds_name (bounds_text (n + 1))) two new → Copies (λ body. IsSaveJournal body h parity n) at len old new
    copies_saved bounds = record {
      body = copies.body;
      bytes = copies.bytes;
      adds =
          adds_then _ _ (IsSaveJournal copies.body h parity n)
          (λ us vs a b. subst (IsSaveJournal copies.body h parity n) (sym (ap (λ (l : List Entry). l ++ vs) a.4 ∙ append_assoc a.0 a.1 vs))
          (saved_journal copies.body h parity n a.0 a.1 vs a.2 a.3 b)) old two new two_files bounds;
    }

-- the same of a file under an equal name with equal bytes
pub renamed : (P : List ℕ → List ℕ → List Entry → Type 0) (name name' bytes bytes' : List ℕ) (old new : Option Contents) → name ≡ name' → bytes ≡ bytes'
    → Adds (P name bytes) old new → Adds (P name' bytes') old new
renamed P name name' bytes bytes' old new same equal adds =
    subst (λ (b : List ℕ). Adds (P name' b) old new) equal (subst (λ (l : List ℕ). Adds (P l bytes) old new) same adds)
