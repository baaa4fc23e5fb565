-- A walk from the topmost table down to a height, or to the first entry above it that names no table.
use Rattle.std.specs.Prelude.{◌≡◌, ℕ, Option, ◌+◌, ◌<◌, ◌≤◌}
use Rattle.fd_pte.specs.declared.entry.Kind.{Kind}
use Rattle.fd_pte.specs.declared.entry.Kind.TheVariants.{Table}
use Rattle.fd_walk.specs.PageTables.{PageTables, entry_at, kind_at}

-- the entry names a table
abbrev pub IsTable : Kind → Type 0
IsTable kind = (table : ℕ) × (kind ≡ Table table)

-- the walk for an address passes this entry of this height, in the table at this address: all entries above name tables
pub record IsOnWay (t : PageTables) (va height table : ℕ) (entry : Option ℕ) : Type 0 where
  pub high : height < t.levels
  pub found : entry ≡ entry_at t height va
  pub above : (h : ℕ) → height < h → h < t.levels → IsTable (kind_at t h va)
  pub named : height + 1 < t.levels → kind_at t (height + 1) va ≡ Table table
  pub top : height + 1 ≡ t.levels → table ≡ t.root

-- the walk for an address comes to the table at this address, whose entries have this height
abbrev pub IsInTable : PageTables → (va height table : ℕ) → Type 0
IsInTable t va height table = IsOnWay t va height table (entry_at t height va)

-- the walk ends at this entry: it is the lowest that is asked for, or names no table
pub record IsReached (t : PageTables) (lowest va height table : ℕ) (entry : Option ℕ) : Type 0 where
  pub way : IsOnWay t va height table entry
  pub low : lowest ≤ height
  pub end : lowest < height → ¬ IsTable (kind_at t height va)
