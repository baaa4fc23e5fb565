-- Numbers within one unit have the same quotient, and quotients grow.
use Rattle.std.proofs.Common.{◌≡◌, ℕ, ◌+◌, ◌*◌, ◌/◌, ◌%◌, ◌<◌, ◌≤◌, ap, ◌∙◌, arith}
use Rattle.std.proofs.lemmas.Nat.{div-mul-add, div-add-mod', le-div}
use Rattle.std.proofs.Math.Nat.{div-mul-le_self}

pub same_quotient : (n i unit : ℕ) → n % unit + i < unit → (n + i) / unit ≡ n / unit
same_quotient n i unit within =
    let whole : n + i ≡ n / unit * unit + (n % unit + i) = omega (arith, div-add-mod' n unit) in
    ap (λ m. m / unit) whole ∙ div-mul-add (n / unit) unit (n % unit + i) within

pub next_remainder : (n i unit : ℕ) → n % unit + i < unit → (n + i) % unit ≡ n % unit + i
next_remainder n i unit within =
    let same : (n + i) / unit * unit ≡ n / unit * unit = ap (λ q. q * unit) (same_quotient n i unit within) in
    omega (arith, div-add-mod' n unit, div-add-mod' (n + i) unit)

pub quotient_grows : (n m unit : ℕ) → 0 < unit → n ≤ m → n / unit ≤ m / unit
quotient_grows n m unit some low = le-div (n / unit) m unit some (omega (arith, div-mul-le_self n unit))
