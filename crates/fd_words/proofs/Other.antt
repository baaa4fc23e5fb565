-- No command has another number of values.
use Rattle.std.proofs.Common.{◌≡◌, ◌<◌, ℕ, Bool, List, [], ◌∷◌, length, Option, None, Bor, map, refl, arith}
use Rattle.fd_words.specs.Command.{command_of_values, dump_of}

abbrev pub texts : List (Bor (List ℕ)) → List (List ℕ)
texts = map (λ s. s.now)

pub none_of_no : (name : List ℕ) (values : List (Bor (List ℕ))) → length values < 1 → None ≡ command_of_values name (texts values)
none_of_no name [] few = refl
none_of_no name (a ∷ rest) few = absurd (omega arith)

pub none_of_many : (name : List ℕ) (values : List (Bor (List ℕ))) → 4 < length values → None ≡ command_of_values name (texts values)
none_of_many name (a ∷ b ∷ c ∷ d ∷ e ∷ rest) many = refl
none_of_many name [] many = absurd (omega arith)
none_of_many name (a ∷ []) many = absurd (omega arith)
none_of_many name (a ∷ b ∷ []) many = absurd (omega arith)
none_of_many name (a ∷ b ∷ c ∷ []) many = absurd (omega arith)
none_of_many name (a ∷ b ∷ c ∷ d ∷ []) many = absurd (omega arith)

pub no_dump_of_no : (mark : Bool) (values : List (Bor (List ℕ))) → length values < 1 → None ≡ dump_of mark (texts values)
no_dump_of_no mark [] few = refl
no_dump_of_no mark (a ∷ rest) few = absurd (omega arith)

pub no_dump_of_many : (mark : Bool) (values : List (Bor (List ℕ))) → 1 < length values → None ≡ dump_of mark (texts values)
no_dump_of_many mark (a ∷ b ∷ rest) many = refl
no_dump_of_many mark [] many = absurd (omega arith)
no_dump_of_many mark (a ∷ []) many = absurd (omega arith)
