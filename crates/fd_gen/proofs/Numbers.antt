-- Consecutive numbers, one more of them.
use Rattle.std.proofs.Common.{◌≡◌, ℕ, zero, suc, ◌+◌, [], ◌∷◌, ◌++◌, sym, ap, ◌∙◌, arith, add-one, add-zero, zero-add}
use Rattle.std.specs.List.{range_with_len}

from-more : (first count : ℕ) → range_with_len first (suc count) ≡ range_with_len first count ++ (first + count) ∷ []
from-more first zero = ap (λ (k : ℕ). k ∷ []) (sym (add-zero first))
from-more first (suc count) =
    let e : first + 1 + count ≡ first + suc count = omega arith in
    ap (λ l. first ∷ l) (from-more (first + 1) count) ∙ ap (λ (k : ℕ). first ∷ (range_with_len (first + 1) count ++ k ∷ [])) e

pub numbers-more : (count : ℕ) → range_with_len 0 (count + 1) ≡ range_with_len 0 count ++ count ∷ []
numbers-more count = ap (range_with_len 0) (add-one count) ∙ (from-more 0 count ∙ ap (λ (k : ℕ). range_with_len 0 count ++ k ∷ []) (zero-add count))
