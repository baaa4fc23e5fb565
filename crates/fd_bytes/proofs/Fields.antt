-- A field that spells a number holds it.
use Rattle.std.proofs.Common.{◌≡◌, ℕ, ◌+◌, ◌<◌, ◌^◌, List, slice_range, sym, ◌∙◌, ap}
use Rattle.std.proofs.lemmas.Nat.{from_be_bytes-to_be_bytes_4, from_be_bytes-to_be_bytes_8, from_le_bytes-to_le_bytes_4, from_le_bytes-to_le_bytes_8}
use Rattle.std.specs.Int.{w32, w64, to_be_bytes, to_le_bytes, from_be_bytes, from_le_bytes}
use Rattle.fd_bytes.specs.Field.{u32_be_at, u32_le_at, u64_be_at, u64_le_at}

pub u32_be_at-spelled : (bytes : List ℕ) (at n : ℕ) → n < 2 ^ 32 → to_be_bytes w32 n ≡ slice_range bytes at (at + 4) → u32_be_at bytes at ≡ n
unfolding u32_be_at
u32_be_at-spelled bytes at n fits is = ap (λ (l : List ℕ). from_be_bytes w32 l) (sym is) ∙ from_be_bytes-to_be_bytes_4 n fits

pub u64_be_at-spelled : (bytes : List ℕ) (at n : ℕ) → n < 2 ^ 64 → to_be_bytes w64 n ≡ slice_range bytes at (at + 8) → u64_be_at bytes at ≡ n
unfolding u64_be_at
u64_be_at-spelled bytes at n fits is = ap (λ (l : List ℕ). from_be_bytes w64 l) (sym is) ∙ from_be_bytes-to_be_bytes_8 n fits

pub u32_le_at-spelled : (bytes : List ℕ) (at n : ℕ) → n < 2 ^ 32 → to_le_bytes w32 n ≡ slice_range bytes at (at + 4) → u32_le_at bytes at ≡ n
unfolding u32_le_at
u32_le_at-spelled bytes at n fits is = ap (λ (l : List ℕ). from_le_bytes w32 l) (sym is) ∙ from_le_bytes-to_le_bytes_4 n fits

pub u64_le_at-spelled : (bytes : List ℕ) (at n : ℕ) → n < 2 ^ 64 → to_le_bytes w64 n ≡ slice_range bytes at (at + 8) → u64_le_at bytes at ≡ n
unfolding u64_le_at
u64_le_at-spelled bytes at n fits is = ap (λ (l : List ℕ). from_le_bytes w64 l) (sym is) ∙ from_le_bytes-to_le_bytes_8 n fits
