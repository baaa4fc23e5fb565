-- Of all entries of one height, an address is under the one that its indices lead to.
use Rattle.std.proofs.Common.{◌≡◌, ◌∙◌, ℕ, ◌+◌, ◌-◌, ◌*◌, ◌/◌, ◌%◌, ◌<◌, ◌≤◌, ◌⊎◌, inl, inr, true, false}
use Rattle.std.proofs.Common.{Option, Some, None, [], ◌++◌, zero, suc, refl, ap, sym, arith, lit<, nat_le, nat_lt, ◌&&◌}
use Rattle.std.specs.List.{filter, filter_map, flat_map, range_with_len}
use Rattle.std.specs.Option.{option_map, option_and_then, option_to_list, unwrap_or}
use Rattle.std.proofs.lemmas.Bool.{cases_lt}
use Rattle.std.proofs.lemmas.Bool.Decides.{nat_tests}
use Rattle.std.proofs.lemmas.List.{append-nil}
use Rattle.std.proofs.lemmas.Nat.{row_fits, mod_below}
use Rattle.std.proofs.Math.Nat.{le_refl}
use Rattle.fd_pte.specs.declared.entry.Kind.{Kind}
use Rattle.fd_pte.specs.declared.entry.Kind.TheVariants.{Absent, Table, Leaf}
use Rattle.fd_pte.specs.Entry.{bytes_under}
use Rattle.fd_walk.specs.PageTables.{PageTables, TableEntry, entry_of_index, entries_of_table, entries_of_kind, entries_under}
use Rattle.fd_walk.specs.PageTables.{entries_below, seen_part, is_under, entry_at, index_at, kind_at}
use Rattle.fd_walk.proofs.Addresses.{bytes_under-above, place_of, place_of-top}
use Rattle.fd_walk.proofs.Lists.{filter-flat_map, flat_map-filter, first, find-filter, first-option_to_list, filter-cons_kept, filter-cons_dropped}

-- the two sides of the test that an address is under an entry
within-true : (start size low : ℕ) → start ≤ low → low < start + size → (nat_le start low && nat_lt low (start + size)) ≡ true
within-true start size low from to = grind (arith, nat_tests)

within-false : (start size low : ℕ) → (low < start) ⊎ (start + size ≤ low) → (nat_le start low && nat_lt low (start + size)) ≡ false
within-false start size low (inl below) = grind (arith, nat_tests)
within-false start size low (inr above) = grind (arith, nat_tests)

-- an address is under no entry of indices that all lie on other sides of it
indices_apart : (t : PageTables) (height start table low count first : ℕ)
    → ((j : ℕ) → first ≤ j → j < first + count → (low < start + j * bytes_under height) ⊎ (start + j * bytes_under height + bytes_under height ≤ low))
    → filter (is_under height low) (filter_map (entry_of_index t height start table) (range_with_len first count)) ≡ []
indices_apart t height start table low zero first apart = refl
indices_apart t height start table low (suc count) first apart =
    filter-cons_dropped (is_under height low) (λ bits. record { start = start + first * bytes_under height; bits = bits })
    (t.word_at (table + 8 * first)) (filter_map (entry_of_index t height start table) (range_with_len (first + 1) count))
    (λ bits. within-false (start + first * bytes_under height) (bytes_under height) low (apart first (omega arith) (omega arith)))
    ∙ indices_apart t height start table low count (first + 1) (λ j from to. apart j (omega arith) (omega arith))

-- an address is under the entry of its own index alone
index_found : (t : PageTables) (height start table low index count first : ℕ)
    → start + index * bytes_under height ≤ low → low < start + index * bytes_under height + bytes_under height
    → first ≤ index → index < first + count
    → filter (is_under height low) (filter_map (entry_of_index t height start table) (range_with_len first count))
    ≡ option_to_list (entry_of_index t height start table index)
index_found t height start table low index zero first from to at_first at_last = absurd (omega arith)
index_found t height start table low index (suc count) first from to at_first at_last =
    elim (cases_lt first index) [
      | inl earlier ↦
          filter-cons_dropped (is_under height low) (λ bits. record { start = start + first * bytes_under height; bits = bits })
          (t.word_at (table + 8 * first)) (filter_map (entry_of_index t height start table) (range_with_len (first + 1) count))
          (λ bits. within-false (start + first * bytes_under height) (bytes_under height) low
          (inr (omega (arith, row_fits first (bytes_under height) index (bytes_under height) earlier (le_refl (bytes_under height))))))
          ∙ index_found t height start table low index count (first + 1) from to (omega arith) (omega arith)
      | inr later ↦
          let same : first ≡ index = omega arith in
          let place = ap (λ j. j * bytes_under height) same in
          filter-cons_kept (is_under height low) (λ bits. record { start = start + first * bytes_under height; bits = bits })
          (t.word_at (table + 8 * first)) (filter_map (entry_of_index t height start table) (range_with_len (first + 1) count))
          (λ bits. within-true (start + first * bytes_under height) (bytes_under height) low (omega arith) (omega arith))
          ∙ ap (λ rest. option_to_list (entry_of_index t height start table first) ++ rest)
          (indices_apart t height start table low count (first + 1)
          (λ j after before. inl (omega (arith, row_fits index (bytes_under height) j (bytes_under height) (omega arith) (le_refl (bytes_under height))))))
          ∙ append-nil (option_to_list (entry_of_index t height start table first))
          ∙ ap (λ j. option_to_list (entry_of_index t height start table j)) same
    ]

-- the same of a whole table
table_found : (t : PageTables) (height start table low index base : ℕ)
    → index < 512 → base ≡ start + index * bytes_under height → base ≤ low → low < base + bytes_under height
    → filter (is_under height low) (entries_of_table t height start table)
    ≡ option_to_list (option_map (λ bits. record { start = base; bits = bits }) (t.word_at (table + 8 * index)))
unfolding entries_of_table
table_found t height start table low index base within place from to =
    index_found t height start table low index 512 0 (omega arith) (omega arith) (omega arith) within
    ∙ ap (λ b. option_to_list (option_map (λ bits. record { start = b; bits = bits }) (t.word_at (table + 8 * index)))) (sym place)

table_apart : (t : PageTables) (height start table low : ℕ) → (low < start) ⊎ (start + bytes_under (height + 1) ≤ low)
    → filter (is_under height low) (entries_of_table t height start table) ≡ []
unfolding entries_of_table
table_apart t height start table low (inl below) =
    indices_apart t height start table low 512 0 (λ j from to. inl (omega arith))
table_apart t height start table low (inr above) =
    indices_apart t height start table low 512 0
    (λ j from to. inr (omega (arith, bytes_under-above height, row_fits j (bytes_under height) 512 (bytes_under height) to (le_refl (bytes_under height)))))

-- an address that is not under an entry lies before or behind it
outside : (start size low : ℕ) → (nat_le start low && nat_lt low (start + size)) ≡ false → (low < start) ⊎ (start + size ≤ low)
outside start size low fails =
    elim (cases_lt low start) [
      | inl below ↦ inl below
      | inr from ↦ elim (cases_lt low (start + size)) [
        | inl to ↦ let passes = within-true start size low from to in absurd (let no_such : true ≡ false = sym passes ∙ fails in cc)
        | inr above ↦ inr above
      ]
    ]

kind_apart : (t : PageTables) (height start low : ℕ) (kind : Kind) → (low < start) ⊎ (start + bytes_under (height + 1) ≤ low)
    → filter (is_under height low) (entries_of_kind t height start kind) ≡ []
kind_apart t height start low (Table table) apart = table_apart t height start table low apart
kind_apart t height start low (Leaf address) apart = refl
kind_apart t height start low Absent apart = refl

-- the word that an address leads to, below an entry of this kind
abbrev pub word_under : PageTables → (height va : ℕ) → Kind → Option ℕ
word_under t height va (Table table) = t.word_at (table + 8 * index_at height va)
word_under t height va kind = None

-- the bits that an address leads to, one index a height, from the topmost table on
path : PageTables → (above height va : ℕ) → Option ℕ
path t zero height va = t.word_at (t.root + 8 * index_at height va)
path t (suc above) height va =
    option_and_then (λ bits. word_under t height va (t.kind_of bits (height + 1))) (path t above (height + 1) va)

-- the entry of one height with the bits that are found for an address
abbrev pub entry_from : PageTables → (height va : ℕ) → Option ℕ → Option TableEntry
entry_from t height va found =
    option_map (λ bits. record { start = seen_part t va - seen_part t va % bytes_under height; bits = bits }) found

kind_found : (t : PageTables) (height va : ℕ) (kind : Kind) → height < t.levels
    → filter (is_under height (seen_part t va))
    (entries_of_kind t height (seen_part t va - seen_part t va % bytes_under (height + 1)) kind)
    ≡ option_to_list (entry_from t height va (word_under t height va kind))
kind_found t height va (Table table) within =
    let place = place_of t.levels height va within in
    table_found t height (seen_part t va - seen_part t va % bytes_under (height + 1)) table (seen_part t va) (index_at height va)
    (seen_part t va - seen_part t va % bytes_under height) (mod_below (va / bytes_under height) 512 (lit< tt)) place.entry place.from place.to
kind_found t height va (Leaf address) within = refl
kind_found t height va Absent within = refl

step_found : (t : PageTables) (height va : ℕ) (found : Option ℕ) → height < t.levels
    → flat_map (λ e. filter (is_under height (seen_part t va)) (entries_under t height e)) (option_to_list (entry_from t (height + 1) va found))
    ≡ option_to_list (entry_from t height va (option_and_then (λ bits. word_under t height va (t.kind_of bits (height + 1))) found))
step_found t height va None within = refl
step_found t height va (Some bits) within =
    append-nil (filter (is_under height (seen_part t va)) (entries_under t height (record { start = seen_part t va - seen_part t va % bytes_under (height + 1); bits = bits })))
    ∙ kind_found t height va (t.kind_of bits (height + 1)) within

-- of all entries of a height, an address is under the one that its indices lead to, and under no other
path_found : (t : PageTables) (above height va : ℕ) → above + height + 1 ≡ t.levels
    → filter (is_under height (seen_part t va)) (entries_below t above height) ≡ option_to_list (entry_from t height va (path t above height va))
unfolding entries_below path
path_found t zero height va top =
    let place = place_of t.levels height va (omega arith) in
    table_found t height 0 t.root (seen_part t va) (index_at height va) (seen_part t va - seen_part t va % bytes_under height)
    (mod_below (va / bytes_under height) 512 (lit< tt))
    (omega (arith, place.entry, place_of-top t.levels height va (omega arith))) place.from place.to
path_found t (suc above) height va levels =
    filter-flat_map (is_under height (seen_part t va)) (entries_under t height) (entries_below t above (height + 1))
    ∙ flat_map-filter (is_under (height + 1) (seen_part t va)) (λ e. filter (is_under height (seen_part t va)) (entries_under t height e))
    (λ e apart. kind_apart t height e.start (seen_part t va) (t.kind_of e.bits (height + 1)) (outside e.start (bytes_under (height + 1)) (seen_part t va) apart))
    (entries_below t above (height + 1))
    ∙ ap (λ es. flat_map (λ e. filter (is_under height (seen_part t va)) (entries_under t height e)) es) (path_found t above (height + 1) va (omega arith))
    ∙ step_found t height va (path t above (height + 1) va) (omega arith)

bits_of-entry_from : (t : PageTables) (height va : ℕ) (found : Option ℕ) → option_map (λ e. e.bits) (entry_from t height va found) ≡ found
bits_of-entry_from t height va None = refl
bits_of-entry_from t height va (Some bits) = refl

entry_at-path : (t : PageTables) (height va : ℕ) → height < t.levels → entry_at t height va ≡ path t (t.levels - 1 - height) height va
unfolding entry_at
entry_at-path t height va within =
    let above = t.levels - 1 - height in
    ap (λ o. option_map (λ e. e.bits) o)
    (find-filter (is_under height (seen_part t va)) (entries_below t above height)
    ∙ ap first (path_found t above height va (omega arith))
    ∙ first-option_to_list (entry_from t height va (path t above height va)))
    ∙ bits_of-entry_from t height va (path t above height va)

-- the entry of the greatest height is in the topmost table
pub entry_at-top : (t : PageTables) (height va : ℕ) → height + 1 ≡ t.levels → entry_at t height va ≡ t.word_at (t.root + 8 * index_at height va)
unfolding path
entry_at-top t height va top =
    entry_at-path t height va (omega arith)
    ∙ ap (λ above. path t above height va) (let none : t.levels - 1 - height ≡ 0 = omega arith in none)

word_under-kind_at : (t : PageTables) (height va : ℕ) (found : Option ℕ)
    → option_and_then (λ bits. word_under t height va (t.kind_of bits (height + 1))) found
    ≡ word_under t height va (unwrap_or (option_map (λ bits. t.kind_of bits (height + 1)) found) Absent)
word_under-kind_at t height va None = refl
word_under-kind_at t height va (Some bits) = refl

-- every other entry is in the table that the entry above it names
pub entry_at-below : (t : PageTables) (height va : ℕ) → height + 1 < t.levels → entry_at t height va ≡ word_under t height va (kind_at t (height + 1) va)
unfolding path
entry_at-below t height va within =
    entry_at-path t height va (omega arith)
    ∙ ap (λ above. path t above height va) (let more : t.levels - 1 - height ≡ suc (t.levels - 1 - (height + 1)) = omega arith in more)
    ∙ ap (λ found. option_and_then (λ bits. word_under t height va (t.kind_of bits (height + 1))) found) (sym (entry_at-path t (height + 1) va within))
    ∙ word_under-kind_at t height va (entry_at t (height + 1) va)
