-- The forms of `savecore` (savecore(8)).
use Rattle.std.specs.Prelude.{ℕ, Bool, ◌&&◌, nat_le, if◌then◌else◌, List, Option, Some, None}
use Rattle.std.specs.Option.{option_map}
use Rattle.fd_bytes.specs.Number.{number_of}
use Rattle.fd_words.specs.Given.{asks_to_clear, asks_to_judge, asks_to_save}
use Rattle.fd_words.specs.declared.command.Command.{Command}
use Rattle.fd_words.specs.declared.command.Command.TheVariants.{Judge, Clear, Save}
use Rattle.fd_words.specs.declared.given.Given.{Given}

-- a maximum from 1 to 65536
abbrev pub most_of : Option ℕ → Option (Option ℕ)
most_of (Some number) = if nat_le 1 number && nat_le number 65536 then Some (Some number) else None
most_of None = None

-- the maximum that the value of `-m` spells, or none where it wasn't given
abbrev pub max_of : Option (List ℕ) → Option (Option ℕ)
max_of None = Some None
max_of (Some text) = most_of (number_of text)

-- to save: by force, and without clearing, or not; with a maximum, or none
abbrev pub save_of : (force keep : Bool) → Option (Option ℕ) → Option Command
save_of force keep max = option_map (λ most. Save (record { force = force; max = most }) keep) max

-- `-C [-f]`, `-c [-f]`, or `[-f] [-k] [-m N]`
abbrev pub savecore_of : Given → Option (List ℕ) → Option Command
savecore_of given most =
    if asks_to_judge given then Some (Judge given.force)
    else if asks_to_clear given then Some (Clear given.force)
    else if asks_to_save given then save_of given.force given.keep (max_of most)
    else None
