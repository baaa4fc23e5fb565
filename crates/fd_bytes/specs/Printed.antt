-- How numbers and refusals are printed.
use Rattle.std.specs.Prelude.{ℕ, ◌-◌, false, List, ◌++◌, length, replicate, codes}
use Rattle.std.specs.Fmt.{decimal, digits}

-- a number in hexadecimal digits, filled with zeros from the front
abbrev pub hex : (width n : ℕ) → List ℕ
hex width n = replicate (width - length (digits 16 false n)) 48 ++ digits 16 false n

-- the line of a refusal, without its newline
abbrev pub refused_line : (number : ℕ) (text : List ℕ) → List ℕ
refused_line number text = codes "refused " ++ (decimal number ++ (codes ": " ++ text))
