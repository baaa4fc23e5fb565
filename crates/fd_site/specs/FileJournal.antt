-- What the writer of a whole file asks of a site, and what one began to.
use Rattle.std.specs.Prelude.{◌≡◌, ℕ, List, [], ◌∷◌, ◌++◌}
use Rattle.std.specs.List.{concat}
use Rattle.fd_site.specs.Begun.{IsBegun}
use Rattle.fd_site.specs.Journal.{Entry, Create, Write, Sync, in_pieces}

-- writes of these pieces to a file, each behind the one before
abbrev pub file_writes : List ℕ → ℕ → List (List ℕ) → List Entry
file_writes name at pieces = in_pieces (λ place piece. Write name place piece) at pieces

-- a file is made empty, and written from its start on in pieces
pub record IsWrittenFile (name bytes : List ℕ) (journal : List Entry) : Type 0 where
  pub pieces : List (List ℕ)
  pub joined : concat pieces ≡ bytes
  pub is : journal ≡ Create name ∷ file_writes name 0 pieces

-- a file's journal: it is made empty, written from its start on in pieces, and synced
pub record IsFileJournal (name bytes : List ℕ) (journal : List Entry) : Type 0 where
  pub pieces : List (List ℕ)
  pub joined : concat pieces ≡ bytes
  pub is : journal ≡ Create name ∷ (file_writes name 0 pieces ++ Sync name ∷ [])

-- what making a file began to add: the first of its entries, and what failing the next may add
pub record IsBegunFile (name bytes : List ℕ) (added : List Entry) : Type 0 where
  pub planned : List Entry
  pub is_file : IsFileJournal name bytes planned
  pub begun : IsBegun planned added
