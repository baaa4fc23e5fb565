-- The options that were given, and what each form of a command asks of them.
use Rattle.std.specs.Prelude.{Bool, not, ◌&&◌, ◌||◌, List, codes, is_some}
use Rattle.clap.specs.Words.{Row}
use Rattle.fd_words.specs.CommandLine.{first_of, is_set}
use Rattle.fd_words.specs.declared.given.Given.{Given}

abbrev pub given_of : List Row → Given
given_of rows = record {
  judge = is_set (codes "C") rows;
  clear = is_set (codes "c") rows;
  force = is_set (codes "f") rows;
  keep = is_set (codes "k") rows;
  mark = is_set (codes "i") rows;
  most = is_some (first_of (codes "m") rows);
}

-- `-C [-f]`
abbrev pub asks_to_judge : Given → Bool
asks_to_judge g = g.judge && not (g.clear || (g.keep || (g.mark || g.most)))

-- `-c [-f]`
abbrev pub asks_to_clear : Given → Bool
asks_to_clear g = g.clear && not (g.judge || (g.keep || (g.mark || g.most)))

-- `[-f] [-k] [-m N]`
abbrev pub asks_to_save : Given → Bool
asks_to_save g = not (g.judge || (g.clear || g.mark))

-- `[-i]`
abbrev pub asks_to_dump : Given → Bool
asks_to_dump g = not (g.judge || (g.clear || (g.force || (g.keep || g.most))))

-- no option
abbrev pub asks_nothing : Given → Bool
asks_nothing g = not (g.judge || (g.clear || (g.force || (g.keep || (g.mark || g.most)))))
