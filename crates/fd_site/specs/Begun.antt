-- How far planned entries came.
use Rattle.std.specs.Prelude.{◌≡◌, ◌⊎◌, ℕ, List, [], ◌∷◌}
use Rattle.fd_site.specs.Contents.{IsFailedFile, IsFailedPart}
use Rattle.fd_site.specs.Journal.{Entry, Part, Create, Write, Sync, Spoiled}

-- what failing an entry may add
abbrev pub IsFailed : Entry → List Entry → Type 0
IsFailed (Part at bytes kept) added = IsFailedPart at bytes added
IsFailed (Create name) added = IsFailedFile name added
IsFailed (Write name at bytes) added = IsFailedFile name added
IsFailed (Sync name) added = IsFailedFile name added
IsFailed (Spoiled name now) added = added ≡ []

-- the first of some planned entries were added, and what failing the next may add
abbrev pub IsBegun : (planned added : List Entry) → Type 0
IsBegun planned [] = Unit {0}
IsBegun [] (e ∷ es) = ⊥
IsBegun (p ∷ planned) (e ∷ es) = ((e ≡ p) × IsBegun planned es) ⊎ IsFailed p (e ∷ es)
