-- What is said of the entries of every architecture. The height of an entry is the number of tables below it.
-- That a reserved or malformed entry is absent, and which attributes an expanded entry keeps, is this project's choice.
use Rattle.std.specs.Prelude.{◌≡◌, ℕ, ◌+◌, ◌-◌, ◌*◌, ◌%◌, ◌^◌, ◌<◌}
use Rattle.fd_pte.specs.declared.entry.Kind.{Kind}
use Rattle.fd_pte.specs.declared.entry.Kind.TheVariants.{Absent, Table, Leaf}

-- the bytes of the addresses under one entry: 4 KiB at height 0, 512 times as many at each height above
abbrev pub bytes_under : ℕ → ℕ
bytes_under height = 2 ^ (12 + 9 * height)

-- the entries of one height that stand for one entry of a height above
abbrev pub units_under : ℕ → ℕ → ℕ
units_under low high = 2 ^ (9 * (high - low))

-- the entry maps memory, from this physical address on
abbrev pub IsLeaf : Kind → Type 0
IsLeaf kind = (address : ℕ) × (kind ≡ Leaf address)

-- the address is a multiple of a size, and one of 56 bits
pub record IsFrame (size address : ℕ) : Type 0 where
  pub aligned : address % size ≡ 0
  pub short : address < 2 ^ 56

-- a table is named above height 0 alone and stands at a page; a leaf maps memory that begins at a multiple of its size
abbrev pub IsPlaced : ℕ → Kind → Type 0
IsPlaced height Absent = Unit {0}
IsPlaced height (Table address) = (0 < height) × IsFrame 4096 address
IsPlaced height (Leaf address) = IsFrame (bytes_under height) address

-- an entry of directory height is a leaf at this address, allows what the large leaf's bits allow, and has 64 bits
pub record IsExpanded (kind_of : ℕ → ℕ → Kind) (protection : ℕ → ℕ) (directory_height bits address unit : ℕ) : Type 0 where
  pub leaf : kind_of unit directory_height ≡ Leaf address
  pub same_protection : protection unit ≡ protection bits
  pub fits : unit < 2 ^ 64
