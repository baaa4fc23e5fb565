-- The leaf that maps an address.
use Rattle.std.specs.Prelude.{ℕ, zero, suc, Option, Some, None}
use Rattle.std.specs.Option.{option_or, option_and_then}
use Rattle.fd_pte.specs.declared.entry.Kind.{Kind}
use Rattle.fd_pte.specs.declared.entry.Kind.TheVariants.{Table, Leaf}
use Rattle.fd_walk.specs.PageTables.{PageTables, entry_at, kind_at}

-- a leaf: its height, its bits and the physical address of the memory that it maps
pub record MappedBy : Type 0 where
  pub height : ℕ
  pub bits : ℕ
  pub address : ℕ

-- the leaf of an entry, if that is one
abbrev pub leaf_of_kind : (height bits : ℕ) → Kind → Option MappedBy
leaf_of_kind height bits (Leaf address) = Some (record { height = height; bits = bits; address = address })
leaf_of_kind height bits kind = None

-- the leaf of an entry of this height, if there is an entry and it is one
abbrev pub leaf_of_entry : (ℕ → ℕ → Kind) → (height : ℕ) → Option ℕ → Option MappedBy
leaf_of_entry kind_of height entry = option_and_then (λ bits. leaf_of_kind height bits (kind_of bits height)) entry

-- the leaf of one height at an address
abbrev pub leaf_of_height : PageTables → (height va : ℕ) → Option MappedBy
leaf_of_height t height va = leaf_of_entry t.kind_of height (entry_at t height va)

-- the leaf at an address, of a height below this one
unfoldable pub leaf_below : PageTables → (height va : ℕ) → Option MappedBy
leaf_below t zero va = None
leaf_below t (suc height) va = option_or (leaf_of_height t height va) (leaf_below t height va)

-- the leaf at an address
abbrev pub leaf_at : PageTables → ℕ → Option MappedBy
leaf_at t va = leaf_below t t.levels va

-- the table of an entry, if it names one
abbrev pub table_of_kind : Kind → Option ℕ
table_of_kind (Table table) = Some table
table_of_kind kind = None

-- the last-level table for an address: the one that its entry of height 1 names
abbrev pub last_table : PageTables → ℕ → Option ℕ
last_table t va = table_of_kind (kind_at t 1 va)
