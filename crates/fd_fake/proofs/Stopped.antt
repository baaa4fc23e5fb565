-- What a write that was stopped adds.
use Rattle.std.proofs.Common.{◌≡◌, inl, inr, ℕ, ◌*◌, ◌/◌, ◌≤◌, true, List, [], ◌∷◌, length, take, Option, sym, ◌∙◌, ap, arith}
use Rattle.std.proofs.lemmas.List.{take-take, length-take-le, length-replicate}
use Rattle.fd_site.specs.Contents.{Contents, Adds, IsFailedPart, whole_part, with_entries}
use Rattle.fd_site.specs.Journal.{Part, all_kept}

-- the first sectors of a write, all kept
pub adds_first : (at n : ℕ) (bytes : List ℕ) (old new : Option Contents) → n * 512 ≤ length bytes → new ≡ with_entries old (whole_part at (take (n * 512) bytes) ∷ [])
    → Adds (IsFailedPart at bytes) old new
adds_first at n bytes old new le is =
    let first = take (n * 512) bytes in
    let count : length (all_kept first) * 512 ≡ n * 512 =
    omega (arith, length-replicate (length first / 512) true, length-take-le (n * 512) bytes le) in
    (whole_part at first ∷ [], inr (all_kept first, omega (arith, count), ap (λ k. Part at (take k bytes) (all_kept first) ∷ []) (sym count)), is)

-- what a failed write of the first bytes adds, a failed write of all may add
pub adds_of_first : (at n : ℕ) (bytes : List ℕ) (old new : Option Contents) → n ≤ length bytes → Adds (IsFailedPart at (take n bytes)) old new → Adds (IsFailedPart at bytes) old new
adds_of_first at n bytes old new le adds =
    elim adds.1 [
      | inl none ↦ (adds.0, inl none, adds.2)
      | inr some ↦
          let bound : length some.0 * 512 ≤ n = omega (arith, some.1, length-take-le n bytes le) in
          (adds.0, inr (some.0, omega (arith, bound), some.2 ∙ ap (λ (l : List ℕ). Part at l some.0 ∷ []) (take-take (length some.0 * 512) n bytes bound)), adds.2)
    ]
