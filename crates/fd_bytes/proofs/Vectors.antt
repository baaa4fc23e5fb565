-- What a vector of a fixed capacity takes up.
use Rattle.std.proofs.Common.{◌≡◌, ◌↔◌, ℕ, ◌+◌, ◌≤◌, List, [], ◌++◌, length, Result, Ok, Err, IsOk, OnOk, ◌∙◌, ap, arith}

-- an empty vector takes up what fits
pub taken : {T E : Type 0} (r : Result T E) (old new text : List ℕ) (n : ℕ) → (IsOk r ↔ (length old + length text ≤ n)) → OnOk r (new ≡ old ++ text) → old ≡ [] → length text ≤ n → new ≡ text
taken (Ok x) old new text n fits is empty room = is ∙ ap (λ (l : List ℕ). l ++ text) empty
taken {T = T} {E = E} (Err e) old new text n fits is empty room = let ok : IsOk {T = T} {E = E} (Err e) = fits.1 (omega (arith, ap length empty)) in absurd (cc)
