-- What a contract sees of a `Filling`.
use Rattle.std.specs.Prelude.{ℕ, List, refl}
use Rattle.std.specs.Coded.{Coded, code_by, coded×, coded_list, coded_ℕ}

-- the bytes so far, and how many there may be
pub record Filled : Type 0 where
  pub bytes : List ℕ
  pub room : ℕ

abbrev pub filled : List ℕ → ℕ → Filled
filled xs n = record { bytes = xs; room = n }

abbrev pub filled_code : Coded Filled
filled_code = code_by (List ℕ × ℕ) (coded× (coded_list coded_ℕ) coded_ℕ) (λ f. (f.bytes, f.room)) (λ p. filled p.0 p.1) (λ _. refl)
