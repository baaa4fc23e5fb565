-- A page that is filled from its front.
use Rattle.std.specs.Prelude.{ℕ, ◌-◌, List, ◌++◌, length, replicate}

-- these bytes, and zeros to the end of so many
abbrev pub filled : (count : ℕ) → List ℕ → List ℕ
filled count bytes = bytes ++ replicate (count - length bytes) 0
