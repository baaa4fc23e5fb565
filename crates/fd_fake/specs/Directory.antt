-- The files of a directory in memory.
use Rattle.std.specs.Prelude.{ℕ, List, map, Option, String, Vec}
use Rattle.std.specs.BTreeMap.{BTreeMap, get_by_text}
use Rattle.std.specs.Map.{lookup}
use Rattle.std.specs.Option.{option_map}
use Rattle.std.specs.Str.{bytes_eq}
use Rattle.std.specs.String.{string_bytes}
use Rattle.std.specs.declared.alloc.Global.{Global}

-- by name, as the code keeps them
abbrev pub Files : Type 0
Files = BTreeMap (String Global) (Vec ℕ Global)

-- the bytes of the file of this name
abbrev pub content : Files → List ℕ → Option (List ℕ)
content files q = option_map (λ v. v.items) (get_by_text files q)

-- each file with its name
abbrev pub listed : Files → List (List ℕ × List ℕ)
listed files = map (λ e. (string_bytes e.0, e.1.items)) files.entries

-- the file of this name, out of such a list
abbrev pub file_in : List (List ℕ × List ℕ) → List ℕ → Option (List ℕ)
file_in files q = lookup (bytes_eq q) files
