-- What the writer of a dump asks of a partition, whole or stopped.
use Rattle.std.specs.Prelude.{◌≡◌, ℕ, ◌-◌, ◌%◌, List, [], ◌∷◌, ◌++◌, length, replicate}
use Rattle.std.specs.List.{concat}
use Rattle.fd_site.specs.Begun.{IsBegun}
use Rattle.fd_site.specs.Journal.{Entry, Sector, in_pieces, sectors_of}
use Rattle.fd_site.specs.Contents.{whole_part}
use Rattle.fd_kdh.specs.Header.{dump_header}
use Rattle.fd_kdh.specs.declared.header.Header.{Header}
use Rattle.fd_part.specs.Partition.{leading_place, dump_place, trailing_place}

-- a header's bytes, and zeros to the end of its block
abbrev pub header_block : Header → ℕ → List ℕ
header_block h block = dump_header h ++ replicate (block - 512) 0

-- writes of these pieces, each behind the one before
abbrev pub writes_from : ℕ → List (List ℕ) → List Entry
writes_from at pieces = in_pieces whole_part at pieces

-- each piece is of whole sectors
abbrev pub AllSectors : List (List ℕ) → Type 0
AllSectors [] = Unit {0}
AllSectors (piece ∷ pieces) = (length piece % 512 ≡ 0) × AllSectors pieces

-- a dump's journal: the body in pieces, then the leading block, then the trailing block, each sector kept
pub record IsDumpJournal (body : List ℕ) (h : Header) (size block : ℕ) (journal : List Entry) : Type 0 where
  pub pieces : List (List ℕ)
  pub sectors : AllSectors pieces
  pub joined : concat pieces ≡ body
  pub is : journal ≡
      writes_from (dump_place size block (length body)) pieces
      ++ whole_part (leading_place size block (length body)) (header_block h block)
      ∷ whole_part (trailing_place size block) (header_block h block)
      ∷ []

-- what a dump began to add: the first of its writes, and what failing the next may add
pub record IsBegunDump (body : List ℕ) (h : Header) (size block : ℕ) (added : List Entry) : Type 0 where
  pub planned : List Entry
  pub is_dump : IsDumpJournal body h size block planned
  pub begun : IsBegun planned added

-- the sectors of a dump, in the order in which they are written: the body's, the leading block's, the trailing block's
abbrev pub dump_sectors : List ℕ → Header → ℕ → ℕ → List Sector
dump_sectors body h size block =
    sectors_of (whole_part (dump_place size block (length body)) body)
    ++ (sectors_of (whole_part (leading_place size block (length body)) (header_block h block))
    ++ sectors_of (whole_part (trailing_place size block) (header_block h block)))
