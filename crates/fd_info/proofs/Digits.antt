-- What decimal and hexadecimal digits are.
use Rattle.std.proofs.Common.{◌≡◌, ℕ, ◌/◌, ◌%◌, ◌<◌, ◌≤◌, ◌^◌, Bool, true, false, ◌&&◌, List, [], ◌∷◌, refl, sym, ◌∙◌, arith}
use Rattle.std.proofs.lemmas.Bool.Decides.{nat_tests}
use Rattle.std.proofs.lemmas.Fmt.{decimal_is_IsNumeral, hex_byte}
use Rattle.std.proofs.lemmas.Str.Parse.{digit_from_value}
use Rattle.std.specs.Char.{digit_value}
use Rattle.std.specs.Fmt.{decimal, digit_glyph}
use Rattle.std.specs.Int.{IsInRange}
use Rattle.std.specs.List.{list_all}
use Rattle.std.specs.Str.Parse.{AllDigits}
use Rattle.fd_bytes.specs.Printed.{hex}
use Rattle.fd_bytes.proofs.Hex.{padded_hex}

-- a test that passes '0' to '9' passes decimal digits
all_digits : (test : ℕ → Bool) → ((c : ℕ) → 48 ≤ c → c ≤ 57 → test c ≡ true) → (ds : List ℕ) → AllDigits 10 ds → list_all test ds ≡ true
all_digits test passes [] digits = refl
all_digits test passes (c ∷ cs) digits =
    let range : IsInRange 48 57 c = digit_from_value c digits.0 in
    (λ i. passes c range.0 range.1 i && all_digits test passes cs digits.1 i)

pub decimal_passes : (test : ℕ → Bool) (n : ℕ) → n < 2 ^ 64 → ((c : ℕ) → 48 ≤ c → c ≤ 57 → test c ≡ true) → list_all test (decimal n) ≡ true
decimal_passes test n small passes = all_digits test passes (decimal n) (decimal_is_IsNumeral n small).0.1

-- two hexadecimal digits
pub hex_two : (n : ℕ) → n < 256 → hex 2 n ≡ digit_glyph false (n / 16) ∷ digit_glyph false (n % 16) ∷ []
hex_two n small = sym (padded_hex 2 n) ∙ hex_byte false n small

-- a digit's glyph is its number's
pub glyph_value : (d : ℕ) → d < 16 → digit_value (digit_glyph false d) ≡ d
glyph_value d small = grind (arith, nat_tests)

pub glyph_from : (d : ℕ) → 48 ≤ digit_glyph false d
glyph_from d = grind (arith, nat_tests)
