-- A list of which a part is written anew.
use Rattle.std.specs.Prelude.{ℕ, ◌+◌, List, ◌++◌, take, drop, slice_range}
use Rattle.std.specs.List.{refill}

-- the bytes, with ws in place of the len from the index at on
abbrev pub written : List ℕ → ℕ → ℕ → List ℕ → List ℕ
written bytes at len ws = take at bytes ++ (refill len (slice_range bytes at (at + len)) ws ++ drop (at + len) bytes)
