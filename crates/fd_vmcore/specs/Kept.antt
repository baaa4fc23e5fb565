-- What is kept of the sizes of an open vmcore, and of its counts. No public clause cites this.
use Rattle.std.specs.Prelude.{◌≡◌, ℕ, ◌*◌, ◌^◌, ◌<◌, ◌≤◌, Bool, List, length}
use Rattle.std.specs.List.{All}
use Rattle.fd_bitmap.specs.Ranks.{IsIndexOf}
use Rattle.fd_mini.specs.Places.{places_of}
use Rattle.fd_mini.specs.declared.header.MiniHeader.{MiniHeader}

-- the pages' addresses are below 2^64
abbrev pub AreBelow : List ℕ → Type 0
AreBelow pages = All (λ page. page < 2 ^ 52) pages

-- no sum of the places and sizes leaves 64 bits, no page's address does, and the counts are those of the bits
pub record IsKept (header : MiniHeader) (pages : List ℕ) (map : List Bool) (counts : List ℕ) : Type 0 where
  pub bits : length map ≡ 8 * header.bitmapsize
  pub bitmap : header.bitmapsize ≤ 2 ^ 26
  pub dumped : (places_of header).pages < 2 ^ 36
  pub below : AreBelow pages
  pub index : IsIndexOf map counts
