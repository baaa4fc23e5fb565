-- Absent entries that stand one behind the other in a table are passed at once.
use Rattle.std.proofs.Common.{◌≡◌, ◌∙◌, ℕ, zero, suc, ◌+◌, ◌-◌, ◌*◌, ◌/◌, ◌%◌, ◌^◌, ◌<◌, ◌≤◌, min, Option, Some, None, List, [], refl, ap, sym, suc-mul, arith, inl, inr}
use Rattle.std.proofs.lemmas.Bool.{cases_lt}
use Rattle.std.proofs.lemmas.Nat.{shr-shr, mod_below, div-mul-add, div-add-mod'}
use Rattle.fd_pte.specs.declared.entry.Kind.{Kind}
use Rattle.fd_pte.specs.declared.entry.Kind.TheVariants.{Absent, Table}
use Rattle.fd_pte.specs.Entry.{bytes_under}
use Rattle.fd_walk.specs.PageTables.{PageTables, index_at, kind_of_entry}
use Rattle.fd_walk.specs.Descent.{IsOnWay, IsInTable, IsReached}
use Rattle.fd_walk.specs.Leaf.{leaf_of_kind, leaf_of_entry, table_of_kind}
use Rattle.fd_walk.specs.Ranges.{leaves_in, last_tables_in, leaves_in-none, last_tables_in-none}
use Rattle.fd_walk.proofs.Spans.{table_beside, way_in_table}
use Rattle.fd_walk.proofs.RangeParts.{some_under, part_under, end_multiple, leaves_in-no_leaf, last_tables_in-parts}

-- what an address is divided into by an entry above and by one below it
above_by_index : (height va : ℕ) → va / bytes_under (height + 1) ≡ va / bytes_under height / 512
above_by_index height va =
    ap (λ e. va / 2 ^ e) (let exponents : 12 + 9 * (height + 1) ≡ 12 + 9 * height + 9 = omega arith in exponents)
    ∙ sym (shr-shr va (12 + 9 * height) 9)

-- the address behind an entry is in the next entry of the table, where the table has one
record IsNext (height at next : ℕ) : Type 0 where
  index : index_at height next ≡ index_at height at + 1
  above : at / bytes_under (height + 1) ≡ next / bytes_under (height + 1)

next_entry : (height at next : ℕ) → next ≡ at - at % bytes_under height + bytes_under height → index_at height at + 1 < 512 → IsNext height at next
next_entry height at next behind within =
    let size = bytes_under height in
    let place : next ≡ (at / size + 1) * size + 0 = omega (arith, div-add-mod' at size) in
    let more : next / size ≡ at / size + 1 = ap (λ n. n / size) place ∙ div-mul-add (at / size + 1) size 0 (some_under height) in
    let row : at / size / 512 ≡ next / size / 512 = omega arith in
    record {
      index = omega arith;
      above = above_by_index height at ∙ row ∙ sym (above_by_index height next);
    }

module _ {A : Type 0} (t : PageTables) (height table : ℕ) (list_in : ℕ → ℕ → List A) (none : (at : ℕ) → list_in at 0 ≡ [])
    (passed : (at left : ℕ) (word : Option ℕ) → IsOnWay t at height table word → kind_of_entry t.kind_of height word ≡ Absent → 0 < left
    → list_in at left ≡ list_in (at + part_under height at left) (left - part_under height at left)) where
  same_rest : (at left later rest : ℕ) → at ≡ later → left ≡ rest → list_in at left ≡ list_in later rest
  same_rest at left later rest same_at same_left = ap (λ n. list_in n left) same_at ∙ ap (λ n. list_in later n) same_left

  nothing_left : (at left later rest : ℕ) → left ≡ 0 → rest ≡ 0 → list_in at left ≡ list_in later rest
  nothing_left at left later rest all last =
      ap (λ n. list_in at n) all ∙ none at ∙ sym (none later) ∙ ap (λ n. list_in later n) (sym last)

  -- how many of so many addresses from one on are under this entry and those behind it
  abbrev bytes_of : (count at left : ℕ) → ℕ
  bytes_of count at left = min left (count * bytes_under height - at % bytes_under height)

  -- so many entries from the address's on are passed where they are absent
  abbrev Passes : ℕ → Type 0
  Passes count = (at left : ℕ) → IsInTable t at height table → index_at height at + count ≤ 512
      → ((k : ℕ) → index_at height at ≤ k → k < index_at height at + count → kind_of_entry t.kind_of height (t.word_at (table + 8 * k)) ≡ Absent)
      → list_in at left ≡ list_in (at + bytes_of count at left) (left - bytes_of count at left)

  -- one more, where more addresses are left than it has
  behind_first : (count at left : ℕ) → Passes count → IsInTable t at height table → index_at height at + suc count ≤ 512
      → ((k : ℕ) → index_at height at ≤ k → k < index_at height at + suc count → kind_of_entry t.kind_of height (t.word_at (table + 8 * k)) ≡ Absent)
      → bytes_under height - at % bytes_under height < left
      → list_in (at + part_under height at left) (left - part_under height at left)
      ≡ list_in (at + bytes_of (suc count) at left) (left - bytes_of (suc count) at left)
  behind_first count at left again in_table fits absent more =
      let size = bytes_under height in
      let inside = mod_below at size (some_under height) in
      let whole : at % size ≤ at = omega (arith, div-add-mod' at size) in
      let sum : suc count * size ≡ count * size + size = suc-mul count size in
      elim (cases_lt 0 count) [
        | inr last ↦
            let empty : count * size ≡ 0 * size = ap (λ n. n * size) (let same : count ≡ 0 = omega arith in same) in
            same_rest _ _ _ _ (omega arith) (omega arith)
        | inl others ↦
            let next : ℕ = at + (size - at % size) in
            let is : IsNext height at next = next_entry height at next (omega arith) (omega arith) in
            let begins : next % size ≡ 0 = end_multiple height at next (omega arith) in
            same_rest _ _ next (left - (size - at % size)) (omega arith) (omega arith)
            ∙ again next (left - (size - at % size)) (table_beside t at next height table _ in_table is.above)
            (omega (arith, is.index)) (λ k from to. absent k (omega (arith, is.index)) (omega (arith, is.index)))
            ∙ same_rest _ _ _ _ (omega arith) (omega arith)
      ]

  pub absent_passed : (count : ℕ) → Passes count
  absent_passed zero at left in_table fits absent = same_rest at left _ _ (omega arith) (omega arith)
  absent_passed (suc count) at left in_table fits absent =
      let size = bytes_under height in
      let word = t.word_at (table + 8 * index_at height at) in
      let inside = mod_below at size (some_under height) in
      let sum : suc count * size ≡ count * size + size = suc-mul count size in
      elim (cases_lt 0 left) [
        | inr all ↦ nothing_left at left _ _ (omega arith) (omega arith)
        | inl some ↦
            passed at left word (way_in_table t at height table word in_table refl) (absent (index_at height at) (omega arith) (omega arith)) some
            ∙ (elim (cases_lt (size - at % size) left) [
              | inr last ↦ nothing_left _ _ _ _ (omega arith) (omega arith)
              | inl more ↦ behind_first count at left (absent_passed count) in_table fits absent more
            ])
      ]

-- an absent entry is no leaf, and names no table
no_leaf : (kind_of : ℕ → ℕ → Kind) (height : ℕ) (word : Option ℕ) → kind_of_entry kind_of height word ≡ Absent → leaf_of_entry kind_of height word ≡ None
no_leaf kind_of height None absent = refl
no_leaf kind_of height (Some bits) absent = ap (λ kind. leaf_of_kind height bits kind) absent

reached_absent : (t : PageTables) (lowest at height table : ℕ) (word : Option ℕ) → lowest ≤ height → IsOnWay t at height table word
    → kind_of_entry t.kind_of height word ≡ Absent → IsReached t lowest at height table word
reached_absent t lowest at height table word low way absent = record {
  way = way;
  low = low;
  end = λ above names.
      let no_such : Absent ≡ Table names.0 = sym absent ∙ ap (λ e. kind_of_entry t.kind_of height e) way.found ∙ names.1 in
      let never : ⊥ = cc in never;
}

-- so absent entries have no leaves
pub leaves_in-absent : (t : PageTables) (height table count at left : ℕ) → IsInTable t at height table → index_at height at + count ≤ 512
    → ((k : ℕ) → index_at height at ≤ k → k < index_at height at + count → kind_of_entry t.kind_of height (t.word_at (table + 8 * k)) ≡ Absent)
    → (bytes : ℕ) → bytes ≡ min left (count * bytes_under height - at % bytes_under height)
    → leaves_in t at left ≡ leaves_in t (at + bytes) (left - bytes)
leaves_in-absent t height table count at left in_table fits absent bytes is_bytes =
    absent_passed t height table (leaves_in t) (leaves_in-none t)
    (λ at left word way none some. leaves_in-no_leaf t at left height table (part_under height at left) word
    (reached_absent t 0 at height table word (omega arith) way none) some refl (no_leaf t.kind_of height word none))
    count at left in_table fits absent
    ∙ ap (λ n. leaves_in t (at + n) (left - n)) (sym is_bytes)

-- nor tables, above height 0
pub last_tables_in-absent : (t : PageTables) (height table count at left : ℕ) → 1 ≤ height → IsInTable t at height table → index_at height at + count ≤ 512
    → ((k : ℕ) → index_at height at ≤ k → k < index_at height at + count → kind_of_entry t.kind_of height (t.word_at (table + 8 * k)) ≡ Absent)
    → (bytes : ℕ) → bytes ≡ min left (count * bytes_under height - at % bytes_under height)
    → last_tables_in t at left ≡ last_tables_in t (at + bytes) (left - bytes)
last_tables_in-absent t height table count at left above in_table fits absent bytes is_bytes =
    absent_passed t height table (last_tables_in t) (last_tables_in-none t)
    (λ at left word way none some. last_tables_in-parts t at left height table (part_under height at left) word None
    (reached_absent t 1 at height table word above way none) some refl (ap table_of_kind (sym none)))
    count at left in_table fits absent
    ∙ ap (λ n. last_tables_in t (at + n) (left - n)) (sym is_bytes)
