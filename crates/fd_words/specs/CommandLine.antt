-- The words after a command's name, by clap's own definitions of a simple command.
use Rattle.std.specs.Prelude.{ℕ, Bool, List, [], ◌∷◌, Option, Some, None, codes, length, ◌==◌, false, unwrap_or}
use Rattle.std.specs.Option.{option_map_or}
use Rattle.std.specs.Str.{bytes_eq}
use Rattle.clap.specs.Words.{App, Row, Rule, Text, fault_of, matches_of, new_app, new_rule, with_rule}
pub use Rattle.clap.specs.Words.{all_of, first_of}
use Rattle.clap.specs.Lexer.{usize_max}
use Rattle.clap.specs.declared.builder.action.ArgAction.TheVariants.{Set, SetTrue}

-- a flag of one letter
abbrev pub flag_rule : Text → ℕ → Rule
flag_rule id letter = record (new_rule id) { short = Some letter; action = Some SetTrue }

-- `-m` with one value
abbrev pub most_rule : Rule
most_rule = record (new_rule (codes "m")) { short = Some 109; action = Some Set }

-- any number of values, also none
abbrev pub values_rule : Rule
values_rule = record (new_rule (codes "values")) { range = Some (record { start_inclusive = 0; end_inclusive = usize_max }) }

-- the flags -C -c -f -k -i, the option -m, and the values
unfoldable pub command_line : App
command_line =
    with_rule (with_rule (with_rule (with_rule (with_rule (with_rule (with_rule (new_app (codes "crashway"))
    (flag_rule (codes "C") 67)) (flag_rule (codes "c") 99)) (flag_rule (codes "f") 102)) (flag_rule (codes "k") 107))
    (flag_rule (codes "i") 105)) most_rule) values_rule

-- clap finds no fault in the words, of which the first is the command's name
unfoldable pub is_command_line : List Text → Bool
is_command_line words = length (fault_of command_line words) == 0

-- what clap makes of them
unfoldable pub matches_in : List Text → List Row
matches_in = matches_of command_line

-- the flag of this letter was given
abbrev pub is_set : Text → List Row → Bool
is_set letter rows = option_map_or (λ t. bytes_eq t (codes "true")) (first_of letter rows) false

-- the values in their order
abbrev pub values_of : List Row → List Text
values_of rows = unwrap_or (all_of (codes "values") rows) []
