-- Page tables written out as lists of entries, height by height.
-- The height of an entry is the number of tables below it; a table has 512 entries of eight bytes.
use Rattle.std.specs.Prelude.{ℕ, zero, suc, Option, List, [], Bool, find, ◌&&◌, nat_le, nat_lt, ◌+◌, ◌-◌, ◌*◌, ◌/◌, ◌%◌}
use Rattle.std.specs.List.{filter_map, flat_map, range_with_len}
use Rattle.std.specs.Option.{option_map, unwrap_or}
use Rattle.fd_pte.specs.declared.entry.Kind.{Kind}
use Rattle.fd_pte.specs.declared.entry.Kind.TheVariants.{Absent, Table}
use Rattle.fd_pte.specs.Entry.{bytes_under}

-- page tables in memory: the words at physical addresses, the kinds of entries, how many heights there are, and where the topmost table is
pub record PageTables : Type 0 where
  pub word_at : ℕ → Option ℕ
  pub kind_of : ℕ → ℕ → Kind
  pub levels : ℕ
  pub root : ℕ

-- these four as one
abbrev pub tables_of : (ℕ → Option ℕ) → (ℕ → ℕ → Kind) → (levels root : ℕ) → PageTables
tables_of word_at kind_of levels root = record { word_at = word_at; kind_of = kind_of; levels = levels; root = root }

-- an entry's bits, and the first of the addresses under it
pub record TableEntry : Type 0 where
  pub start : ℕ
  pub bits : ℕ

-- the entry of one index of the table at an address, where memory has its word
abbrev pub entry_of_index : PageTables → (height start table index : ℕ) → Option TableEntry
entry_of_index t height start table index =
    option_map (λ bits. record { start = start + index * bytes_under height; bits = bits }) (t.word_at (table + 8 * index))

-- the entries of the table at an address, whose own addresses begin at `start`
unfoldable pub entries_of_table : PageTables → (height start table : ℕ) → List TableEntry
entries_of_table t height start table = filter_map (entry_of_index t height start table) (range_with_len 0 512)

-- the entries of what an entry of the height above names
abbrev pub entries_of_kind : PageTables → (height start : ℕ) → Kind → List TableEntry
entries_of_kind t height start (Table table) = entries_of_table t height start table
entries_of_kind t height start kind = []

-- the entries right below an entry
abbrev pub entries_under : PageTables → ℕ → TableEntry → List TableEntry
entries_under t height e = entries_of_kind t height e.start (t.kind_of e.bits (height + 1))

-- the entries of one height, with so many heights above it
unfoldable pub entries_below : PageTables → (above height : ℕ) → List TableEntry
entries_below t zero height = entries_of_table t height 0 t.root
entries_below t (suc above) height = flat_map (entries_under t height) (entries_below t above (height + 1))

-- all entries of one height, by rising address
abbrev pub entries_of_height : PageTables → ℕ → List TableEntry
entries_of_height t height = entries_below t (t.levels - 1 - height) height

-- the part of an address that the tables see
abbrev pub seen_part : PageTables → ℕ → ℕ
seen_part t va = va % bytes_under t.levels

-- whether an address is under an entry
abbrev pub is_under : (height low : ℕ) → TableEntry → Bool
is_under height low e = nat_le e.start low && nat_lt low (e.start + bytes_under height)

-- the bits of the entry of one height that an address is under
unfoldable pub entry_at : PageTables → (height va : ℕ) → Option ℕ
entry_at t height va = option_map (λ e. e.bits) (find (is_under height (seen_part t va)) (entries_of_height t height))

-- the index of an address in a table whose entries have this height
abbrev pub index_at : (height va : ℕ) → ℕ
index_at height va = va / bytes_under height % 512

-- the kind of an entry, absent where there is none
abbrev pub kind_of_entry : (ℕ → ℕ → Kind) → (height : ℕ) → Option ℕ → Kind
kind_of_entry kind_of height entry = unwrap_or (option_map (λ bits. kind_of bits height) entry) Absent

-- the kind of the entry of one height that an address is under
abbrev pub kind_at : PageTables → (height va : ℕ) → Kind
kind_at t height va = kind_of_entry t.kind_of height (entry_at t height va)
