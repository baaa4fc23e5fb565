-- The text of the file bounds.
use Rattle.std.specs.Prelude.{ℕ, nat_le, if◌then◌else◌, List, [], ◌∷◌, ◌++◌, length, take, drop, ◌-◌, Option, Some, None}
use Rattle.std.specs.Fmt.{decimal}
use Rattle.std.specs.Str.{bytes_eq}
use Rattle.fd_bytes.specs.Number.{numeral}

-- the number, and a newline
abbrev pub bounds_text : ℕ → List ℕ
bounds_text number = decimal number ++ 10 ∷ []

-- a text without a newline at its end
abbrev pub without_newline : List ℕ → List ℕ
without_newline text =
    if bytes_eq (drop (length text - 1) text) (10 ∷ []) then take (length text - 1) text else text

-- the number of a saved dump, or 0 where there is none
abbrev pub number_or_zero : Option ℕ → ℕ
number_or_zero None = 0
number_or_zero (Some number) = if nat_le number 65535 then number else 0

-- what a text counts as: one to five decimal digits that spell the number of a saved dump, with or without a newline
-- behind them, as this number; every other text as 0
abbrev pub bounds_value : List ℕ → ℕ
bounds_value text = number_or_zero (numeral 10 5 (without_newline text))
