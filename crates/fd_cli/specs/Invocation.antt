-- What the words name that the system hands the program.
use Rattle.std.specs.Prelude.{ℕ, ◌^◌, nat_lt, if◌then◌else◌, List, [], ◌∷◌, Option, Some, None}
use Rattle.std.specs.String.{string_bytes}
use Rattle.fd_bytes.specs.Number.{number_of}
use Rattle.fd_cli.specs.declared.invocation.Invocation.{Invocation}

-- the directory of the files, the size of a block in bytes, and the command's words
pub record Invoked : Type 0 where
  pub directory : List ℕ
  pub block : ℕ
  pub words : List (List ℕ)

abbrev pub invoked : Invocation → Invoked
invoked i = record { directory = string_bytes i.directory; block = i.block; words = i.words.items }

-- a number below 2^32
abbrev pub below_32_bits : Option ℕ → Option ℕ
below_32_bits None = None
below_32_bits (Some n) = if nat_lt n (2 ^ 32) then Some n else None

-- the size of a block that a word spells
abbrev pub block_of : List ℕ → Option ℕ
block_of word = below_32_bits (number_of word)

abbrev pub with_block : (directory : List ℕ) → Option ℕ → List (List ℕ) → Option Invoked
with_block directory None words = None
with_block directory (Some block) words = Some (record { directory = directory; block = block; words = words })

-- the program's name, DIRECTORY, BLOCK and the command's words
abbrev pub invocation_of : List (List ℕ) → Option Invoked
invocation_of (program ∷ directory ∷ block ∷ words) = with_block directory (block_of block) words
invocation_of (program ∷ directory ∷ []) = None
invocation_of (program ∷ []) = None
invocation_of [] = None
