-- A page that is filled from its front stays zero behind what was put into it.
use Rattle.std.proofs.Common.{◌≡◌, ℕ, ◌+◌, ◌-◌, ◌≤◌, List, ◌++◌, length, take, drop, replicate, ap, sym, ◌∙◌, arith, take-add}
use Rattle.std.proofs.lemmas.List.{drop-replicate, drop-drop, take-replicate, length-take}
use Rattle.std.proofs.lemmas.Slice.{drop-put_mid}
use borrow.Rule.Slice.PartMut.{put_mid}

pub rest_stays_zero : (page piece : List ℕ) (size at n : ℕ) → length page ≡ size → at + n ≤ size → length piece ≡ n → drop at page ≡ replicate (size - at) 0
    → drop (at + n) (put_mid at (at + n - at) page piece) ≡ replicate (size - (at + n)) 0
rest_stays_zero page piece size at n whole within same zero =
    let behind : drop (at + n) (put_mid at (at + n - at) page piece) ≡ drop (at + n) page =
    drop-put_mid at (at + n - at) page piece (at + n) (omega arith) (omega arith) (omega arith) in
    let twice : drop (at + n) page ≡ drop n (drop at page) = sym (drop-drop n at page) in
    behind ∙ (twice ∙ (ap (drop n) zero ∙ (drop-replicate n (size - at) 0 ∙ ap (λ k. replicate k 0) (omega arith))))

-- so zeros are put by moving on: `old` is what was put before
pub zeros_put : (page old : List ℕ) (size at n : ℕ) → length page ≡ size → at ≤ size → take at page ≡ old → length old + n ≤ size → drop at page ≡ replicate (size - at) 0
    → take (at + n) page ≡ old ++ replicate n 0
zeros_put page old size at n whole inside is room zero =
    let within : at + n ≤ size = omega (arith, length-take at page, ap length is) in
    take-add at n page ∙ (λ i. is i ++ take n (zero i)) ∙ ap (λ l. old ++ l) (take-replicate n (size - at) 0 (omega arith))

pub zeros_left : (page old : List ℕ) (size at n : ℕ) → length page ≡ size → at ≤ size → take at page ≡ old → length old + n ≤ size → drop at page ≡ replicate (size - at) 0
    → (at + n ≤ size) × (drop (at + n) page ≡ replicate (size - (at + n)) 0)
zeros_left page old size at n whole inside is room zero =
    let within : at + n ≤ size = omega (arith, length-take at page, ap length is) in
    (within, sym (drop-drop n at page) ∙ ap (drop n) zero ∙ drop-replicate n (size - at) 0 ∙ ap (λ k. replicate k 0) (omega arith))
