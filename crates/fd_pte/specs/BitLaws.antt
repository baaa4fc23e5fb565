-- Facts on bits that the laws of all architectures use.
use Rattle.std.proofs.Common.{◌≡◌, ℕ, ◌+◌, ◌*◌, ◌/◌, ◌%◌, ◌^◌, ◌==◌, ◌<◌, ◌≤◌, Bool, ap, arith, lit<, if◌then◌else◌, true, false}
use Rattle.std.proofs.Math.Nat.{mul-mod_left, pow-le-pow_right}
use Rattle.std.proofs.lemmas.Nat.{pow_pos, mod_below, shl_below}
use Rattle.fd_pte.specs.declared.entry.Kind.{Kind}
use Rattle.fd_pte.specs.Entry.{IsFrame, IsPlaced}

-- bits from `low` on that stay in their place are a multiple of 2 to `low`
pub frame_of : (width low n : ℕ) → width + low ≤ 56 → IsFrame (2 ^ low) (n / 2 ^ low % 2 ^ width * 2 ^ low)
frame_of width low n within =
    let taken : n / 2 ^ low % 2 ^ width < 2 ^ width = mod_below (n / 2 ^ low) (2 ^ width) (pow_pos width) in
    let within_width : n / 2 ^ low % 2 ^ width * 2 ^ low < 2 ^ (width + low) = shl_below (n / 2 ^ low % 2 ^ width) width low taken in
    let at_most : 2 ^ (width + low) ≤ 2 ^ 56 = pow-le-pow_right (lit< tt) within in
    record { aligned = mul-mod_left (n / 2 ^ low % 2 ^ width) (2 ^ low); short = omega arith }

-- of two kinds that are placed, the chosen one is
pub placed_if : (height : ℕ) (test : Bool) (x y : Kind) → IsPlaced height x → IsPlaced height y
    → IsPlaced height (if test then x else y)
placed_if height true x y first second = first
placed_if height false x y first second = second

-- the same digit gives the same bit
pub same_bit : (m n : ℕ) → m ≡ n → (m == 1) ≡ (n == 1)
same_bit m n same = ap (λ digit. digit == 1) same
