-- Facts of a file of a site, where the site tells what it holds.
use Rattle.std.specs.Prelude.{◌≡◌, ℕ, List, length, Option, IfSome, IsSomeAnd}
use Rattle.fd_site.specs.Contents.{Contents, Told, file_of}

-- where there is a file of this name, P holds of its bytes
abbrev pub OfFile : Option Contents → List ℕ → (List ℕ → Type 0) → Type 0
OfFile told name P = Told told (λ c. IfSome (file_of c name) P)

-- there is a file of this name, of which P holds
abbrev pub IsFileAnd : Option Contents → List ℕ → (List ℕ → Type 0) → Type 0
IsFileAnd told name P = Told told (λ c. IsSomeAnd (file_of c name) P)

-- there is a file of this name, of this length
abbrev pub HasLength : Option Contents → List ℕ → ℕ → Type 0
HasLength told name len = IsFileAnd told name (λ file. length file ≡ len)
