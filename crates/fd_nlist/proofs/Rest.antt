-- What is found among the values of a function at numbers from an index on, one index at a time.
use Rattle.std.proofs.Common.{◌≡◌, ℕ, suc, ◌+◌, ◌-◌, ◌<◌, ◌≤◌, Bool, true, false, cond, map, Option, Some, None, ap, ◌∙◌, arith}
use Rattle.std.specs.List.{find, range_with_len}

-- of so many values, what is found from this index on
abbrev pub found_from : {X : Type 0} → (X → Bool) → (ℕ → X) → (index count : ℕ) → Option X
found_from test f index count = find test (map f (range_with_len index (count - index)))

more : {X : Type 0} (test : X → Bool) (f : ℕ → X) (index count : ℕ) → index < count → found_from test f index count ≡ cond (test (f index)) (Some (f index)) (found_from test f (index + 1) count)
more test f index count below = ap (λ n. find test (map f (range_with_len index n))) (let e : count - index ≡ suc (count - (index + 1)) = omega arith in e)

pub found_here : {X : Type 0} (test : X → Bool) (f : ℕ → X) (index count : ℕ) → index < count → test (f index) ≡ true → found_from test f index count ≡ Some (f index)
found_here test f index count below passes = more test f index count below ∙ ap (λ b. cond b (Some (f index)) (found_from test f (index + 1) count)) passes

pub found_later : {X : Type 0} (test : X → Bool) (f : ℕ → X) (index count : ℕ) → index < count → test (f index) ≡ false → found_from test f index count ≡ found_from test f (index + 1) count
found_later test f index count below fails = more test f index count below ∙ ap (λ b. cond b (Some (f index)) (found_from test f (index + 1) count)) fails

pub found_nowhere : {X : Type 0} (test : X → Bool) (f : ℕ → X) (index count : ℕ) → count ≤ index → found_from test f index count ≡ None
found_nowhere test f index count end = ap (λ n. find test (map f (range_with_len index n))) (let e : count - index ≡ 0 = omega arith in e)
