-- A header in the front of a buffer of zeros.
use Rattle.std.proofs.Common.{◌≡◌, ℕ, ◌+◌, ◌-◌, ◌≤◌, List, ◌++◌, length, take, drop, replicate, ◌∙◌, ap, arith}
use Rattle.std.proofs.lemmas.List.{take-replicate, drop-replicate}
use Rattle.std.proofs.Math.Seq.{take-append-add}

pub front_of_zeros : (bytes : List ℕ) (zeros block : ℕ) → length bytes ≡ 512 → 512 ≤ block → block ≤ zeros
    → take block (bytes ++ drop 512 (replicate zeros 0)) ≡ bytes ++ replicate (block - 512) 0
front_of_zeros bytes zeros block size low high =
    let split : block ≡ length bytes + (block - 512) = omega arith in
    ap (λ n. take n (bytes ++ drop 512 (replicate zeros 0))) split
    ∙ take-append-add bytes (drop 512 (replicate zeros 0)) (block - 512)
    ∙ ap (λ (l : List ℕ). bytes ++ l) (ap (λ (l : List ℕ). take (block - 512) l) (drop-replicate 512 zeros 0) ∙ take-replicate (block - 512) (zeros - 512) 0 (omega arith))
