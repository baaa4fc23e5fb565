-- What the addresses of a range are mapped by: `bytes` addresses from `from` on.
use Rattle.std.specs.Prelude.{◌≡◌, ℕ, Option, Some, None, List, [], ◌==◌, if◌then◌else◌, max, min, ◌+◌, ◌-◌, ◌%◌, ◌^◌, ◌≤◌}
use Rattle.std.specs.List.{filter_map, range_with_len}
use Rattle.std.specs.Option.{option_and_then}
use Rattle.fd_pte.specs.Entry.{bytes_under}
use Rattle.fd_walk.specs.declared.leaf.Leaf.{Leaf}
use Rattle.fd_walk.specs.declared.rest.Rest.{Rest}
use Rattle.fd_walk.specs.PageTables.{PageTables}
use Rattle.fd_walk.specs.Descent.{IsInTable}
use Rattle.fd_walk.specs.Leaf.{MappedBy, leaf_at, last_table}
use Rattle.fd_walk.specs.Step.{first_under}

-- the part of a leaf in a range that ends before `end`, if it begins at this address: the leaf begins there, or the range does within the leaf
abbrev pub leaf_part : (from end va : ℕ) → MappedBy → Option Leaf
leaf_part from end va leaf =
    let start = first_under leaf.height va in
    if max from start == va
    then Some (record { va = va; pa = leaf.address + (va - start); size = min (start + bytes_under leaf.height) end - va; bits = leaf.bits })
    else None

-- the leaves that meet a range, by rising address, each cut to the range
unfoldable pub leaves_in : PageTables → (from bytes : ℕ) → List Leaf
leaves_in t from bytes =
    filter_map (λ va. option_and_then (leaf_part from (from + bytes) va) (leaf_at t va)) (range_with_len from bytes)

-- at no address there is none
pub leaves_in-none : (t : PageTables) (at : ℕ) → leaves_in t at 0 ≡ []
unfolding leaves_in
leaves_in-none t at = λ i. []

-- the last-level table of an entry of height 1, if that begins at this address, or the range does within it
abbrev pub table_part : PageTables → (from va : ℕ) → Option ℕ
table_part t from va = if max from (first_under 1 va) == va then last_table t va else None

-- the last-level tables that the entries of height 1 in a range name, in the order of these entries
unfoldable pub last_tables_in : PageTables → (from bytes : ℕ) → List ℕ
last_tables_in t from bytes = filter_map (table_part t from) (range_with_len from bytes)

pub last_tables_in-none : (t : PageTables) (at : ℕ) → last_tables_in t at 0 ≡ []
unfolding last_tables_in
last_tables_in-none t at = λ i. []

-- what is left of a range: the walk for its first address comes to its table, at this height or above
pub record IsRest (t : PageTables) (lowest : ℕ) (rest : Rest) : Type 0 where
  pub aligned : t.root % 4096 ≡ 0
  pub some_levels : 2 ≤ t.levels
  pub most_levels : t.levels ≤ 4
  pub within : rest.at + rest.left ≤ 2 ^ 64
  pub table : IsInTable t rest.at rest.place.height rest.place.table
  pub table_aligned : rest.place.table % 4096 ≡ 0
  pub low : lowest ≤ rest.place.height
  pub room : rest.place.table + 4096 ≤ 2 ^ 64
