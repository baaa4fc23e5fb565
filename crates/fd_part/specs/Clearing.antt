-- A header that is marked as cleared.
use Rattle.std.specs.Prelude.{ℕ, List, [], ◌∷◌, ◌++◌, drop}
use Rattle.fd_site.specs.Contents.{whole_part}
use Rattle.fd_site.specs.Journal.{Entry}
use Rattle.fd_kdh.specs.Header.{cleared_magic}
use Rattle.fd_part.specs.Partition.{trailing_place}

-- a header's sector once its dump is cleared: another magic, and the rest as it was (KERNELDUMPMAGIC_CLEARED)
abbrev pub cleared_sector : List ℕ → List ℕ
cleared_sector sector = cleared_magic ++ drop 20 sector

-- clearing a dump: one write of one sector, the first of the trailing block
abbrev pub clearing : (size block : ℕ) → List ℕ → List Entry
clearing size block sector = whole_part (trailing_place size block) (cleared_sector sector) ∷ []
