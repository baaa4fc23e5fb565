-- The lines of a text, as they are read.
use Rattle.std.specs.Prelude.{◌≡◌, ℕ, true, not, ◌==◌, List}
use Rattle.std.specs.List.{list_all}

-- no newline is in it
abbrev pub IsOneLine : List ℕ → Type 0
IsOneLine value = list_all (λ byte. not (byte == 10)) value ≡ true
