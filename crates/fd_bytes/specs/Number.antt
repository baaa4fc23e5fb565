-- Numbers as they are spelled on a command line.
use Rattle.std.specs.Prelude.{ℕ, ◌+◌, ◌*◌, ◌^◌, Bool, ◌&&◌, nat_lt, nat_le, if◌then◌else◌, List, [], ◌∷◌, length, take, drop, codes, Option, Some, None}
use Rattle.std.specs.Char.{digit_value, is_digit}
use Rattle.std.specs.List.{list_all}
use Rattle.std.specs.Str.{bytes_eq}

-- what digits are worth by their places: the last counts once, each before it `radix` times as much as the next
abbrev pub place_value : ℕ → List ℕ → ℕ
place_value radix [] = 0
place_value radix (digit ∷ digits) = digit_value digit * radix ^ length digits + place_value radix digits

-- 1 to `most` digits of the radix, in either case
abbrev pub is_numeral : ℕ → ℕ → List ℕ → Bool
is_numeral radix most text = nat_lt 0 (length text) && nat_le (length text) most && list_all (λ c. is_digit c radix) text

-- what a numeral spells, if it is below 2^64
unfoldable pub numeral : ℕ → ℕ → List ℕ → Option ℕ
numeral radix most text =
    if is_numeral radix most text && nat_lt (place_value radix text) (2 ^ 64) then Some (place_value radix text) else None

-- the number that a text spells: `0x` and 1 to 16 hexadecimal digits, or 1 to 20 decimal digits
unfoldable pub number_of : List ℕ → Option ℕ
number_of text = if bytes_eq (take 2 text) (codes "0x") then numeral 16 16 (drop 2 text) else numeral 10 20 text
