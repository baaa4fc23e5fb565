-- The names of the files that a saved dump is kept in (savecore(8)).
use Rattle.std.specs.Prelude.{ℕ, List, ◌++◌, codes}
use Rattle.std.specs.Fmt.{decimal}

-- the dump's bytes
abbrev pub vmcore_name : ℕ → List ℕ
vmcore_name number = codes "vmcore." ++ decimal number

-- what is known of it
abbrev pub info_name : ℕ → List ℕ
info_name number = codes "info." ++ decimal number

-- the number that comes next
abbrev pub bounds_name : List ℕ
bounds_name = codes "bounds"
