-- A range is what its first entry gives, and then what the addresses behind that entry give.
use Rattle.std.proofs.Common.{◌≡◌, ◌∙◌, ℕ, zero, suc, ◌+◌, ◌-◌, ◌*◌, ◌/◌, ◌%◌, ◌^◌, ◌<◌, ◌≤◌, ◌==◌, ◌⊎◌, max, min, Option}
use Rattle.std.proofs.Common.{Some, None, List, [], ◌∷◌, ◌++◌, Bool, true, false, refl, ap, sym, subst, arith, inl, inr, if◌then◌else◌}
use Rattle.std.specs.List.{filter_map, range_with_len}
use Rattle.std.specs.Option.{option_and_then, option_to_list}
use Rattle.std.proofs.lemmas.Bool.{cases_lt, cases_eq, ne_eqb, eq-eqb}
use Rattle.std.proofs.lemmas.Nat.{mod_below, pow_pos, div-add-mod', mul-le}
use Rattle.std.proofs.Math.Nat.{mul-mod_left, mod-eq_of_lt, le_refl}
use Rattle.std.proofs.Math.Pow.{mod-mod-pow}
use Rattle.fd_pte.specs.declared.entry.Kind.TheVariants.{Table}
use Rattle.fd_pte.specs.declared.entry.Kind.TheVariants as kinds
use Rattle.fd_pte.specs.Entry.{bytes_under}
use Rattle.fd_walk.specs.declared.leaf.Leaf.{Leaf}
use Rattle.fd_walk.specs.PageTables.{PageTables, kind_at, kind_of_entry}
use Rattle.fd_walk.specs.Descent.{IsReached}
use Rattle.fd_walk.specs.Leaf.{MappedBy, leaf_of_entry, leaf_at, last_table, table_of_kind}
use Rattle.fd_walk.specs.Step.{first_under}
use Rattle.fd_walk.specs.Ranges.{leaf_part, leaves_in, table_part, last_tables_in}
use Rattle.fd_walk.proofs.Ways.{leaf_of_entry-is, leaf_below-is, nothing_below, no_table}
use Rattle.fd_walk.proofs.Spans.{kind_at-same, reached-same, leaf_at-same, same_span, same_span_back, filter_map-parts}

-- an entry maps some bytes
pub some_under : (height : ℕ) → 0 < bytes_under height
some_under height = pow_pos (12 + 9 * height)

-- how many of so many addresses from `at` on are under its entry of this height
abbrev pub part_under : (height at left : ℕ) → ℕ
part_under height at left = min left (bytes_under height - at % bytes_under height)

-- a multiple of what an entry maps is a multiple of what a lower one maps
multiple_below : (low high n : ℕ) → low ≤ high → n % bytes_under high ≡ 0 → n % bytes_under low ≡ 0
multiple_below low high n at_least multiple =
    let exponents : 12 + 9 * high ≡ 9 * (high - low) + (12 + 9 * low) = omega arith in
    let P : ℕ → Type 0 = λ e. n % 2 ^ e ≡ 0 in
    sym (mod-mod-pow n (9 * (high - low)) (12 + 9 * low))
    ∙ ap (λ r. r % bytes_under low) (subst P exponents multiple)
    ∙ mod-eq_of_lt (some_under low)

-- the end of an entry is a multiple of what it maps
pub end_multiple : (height at b : ℕ) → b ≡ at - at % bytes_under height + bytes_under height → b % bytes_under height ≡ 0
end_multiple height at b end =
    let size = bytes_under height in
    let place : b ≡ (at / size + 1) * size = omega (arith, div-add-mod' at size) in
    ap (λ n. n % size) place ∙ mul-mod_left (at / size + 1) size

-- a multiple of a size that is not 0 is at least that size
at_least_one : (r size : ℕ) → r % size ≡ 0 → 0 < r → size ≤ r
at_least_one r size multiple some =
    elim (cases_lt 0 (r / size)) [
      | inl more ↦ omega (arith, div-add-mod' r size, mul-le 1 size (r / size) size more (le_refl size))
      | inr none ↦ let zero_times : r / size ≡ 0 = omega arith in
          absurd (omega (arith, div-add-mod' r size, ap (λ q. q * size) zero_times))
    ]

-- a leaf at the end of an entry that a walk has ended at begins there
leaf_begins : (t : PageTables) (at height table b : ℕ) (entry : Option ℕ) (m : MappedBy) → IsReached t 0 at height table entry
    → b ≡ at - at % bytes_under height + bytes_under height → leaf_at t b ≡ Some m → first_under m.height b ≡ b
leaf_begins t at height table b entry m reached end found =
    let is = leaf_below-is t b t.levels m found in
    let multiple = end_multiple height at b end in
    elim (cases_lt height m.height) [
      | inr lower ↦ let begins = multiple_below m.height height b lower multiple in omega arith
      | inl higher ↦
          elim (cases_lt 0 (b % bytes_under m.height)) [
            | inr here ↦ omega arith
            | inl inside ↦
                let exponents : 12 + 9 * m.height ≡ 9 * (m.height - height) + (12 + 9 * height) = omega arith in
                let P : ℕ → Type 0 = λ e. b % 2 ^ e % bytes_under height ≡ b % bytes_under height in
                let rest = subst P (sym exponents) (mod-mod-pow b (9 * (m.height - height)) (12 + 9 * height)) ∙ multiple in
                let far = at_least_one (b % bytes_under m.height) (bytes_under height) rest inside in
                let same = same_span_back at b (bytes_under m.height) (some_under m.height) (omega (arith, mod_below at (bytes_under height) (some_under height))) (omega arith) in
                let names = reached.way.above m.height higher is.0 in
                let no_such : Table names.0 ≡ kinds.Leaf m.address = sym names.1 ∙ kind_at-same t m.height at b m.height same (le_refl m.height) is.0 ∙ is.1 in
                absurd (let never : ⊥ = cc in never)
          ]
    ]

-- ---- where parts begin

-- nothing begins at an address behind the range's first that is not the first of its entry
begins_not : (from start va : ℕ) → from < va → start < va → (max from start == va) ≡ false
begins_not from start va behind inside = ne_eqb (max from start) va (λ same. omega arith)

-- at the first address of a range something begins
begins_first : (at start : ℕ) → start ≤ at → (max at start == at) ≡ true
begins_first at start before = eq-eqb (max at start) at (omega arith)

-- behind a range's part the rest of it begins the same, if an entry begins where the rest does
begins_same : (from later start va : ℕ) → start ≤ va → from < later → later ≤ va → (va ≡ later → start ≡ va)
    → (max from start == va) ≡ (max later start == va)
begins_same from later start va before shorter within first =
    elim (cases_eq start va) [
      | inl here ↦ eq-eqb (max from start) va (omega arith) ∙ sym (eq-eqb (max later start) va (omega arith))
      | inr inside ↦
          ne_eqb (max from start) va (λ same. omega arith)
          ∙ sym (elim (cases_eq va later) [
            | inl at_later ↦ absurd (inside (first at_later))
            | inr behind ↦ ne_eqb (max later start) va (λ same. omega arith)
          ])
    ]

-- ---- leaves

leaf_part-none : (from end va : ℕ) (leaf : Option MappedBy) → from < va
    → ((m : MappedBy) → leaf ≡ Some m → first_under m.height va < va) → option_and_then (leaf_part from end va) leaf ≡ None
leaf_part-none from end va None behind inside = refl
leaf_part-none from end va (Some m) behind inside =
    rw (begins_not from (first_under m.height va) va behind (inside m refl))

leaf_part-same : (from later end va : ℕ) (leaf : Option MappedBy) → from < later → later ≤ va
    → (va ≡ later → (m : MappedBy) → leaf ≡ Some m → first_under m.height va ≡ va)
    → option_and_then (leaf_part from end va) leaf ≡ option_and_then (leaf_part later end va) leaf
leaf_part-same from later end va None shorter within first = refl
leaf_part-same from later end va (Some m) shorter within first =
    rw (begins_same from later (first_under m.height va) va (omega arith) shorter within (λ at_later. first at_later m refl))

-- the place of a part: how many addresses it has, and that it ends with its entry or with the range
record IsPart (height at left : ℕ) : Type 0 where
  some : 0 < part_under height at left
  all : left ≡ part_under height at left + (left - part_under height at left)
  end : part_under height at left < left → at + part_under height at left ≡ at - at % bytes_under height + bytes_under height
  within : at + part_under height at left ≤ at - at % bytes_under height + bytes_under height

part_of : (height at left : ℕ) → 0 < left → IsPart height at left
part_of height at left some =
    let inside = mod_below at (bytes_under height) (some_under height) in
    let whole : at % bytes_under height ≤ at = omega (arith, div-add-mod' at (bytes_under height)) in
    record { some = omega arith; all = omega arith; end = λ shorter. omega arith; within = omega arith }

-- the first address of its entry is not behind the range's
first_before : (size at n : ℕ) → at / size ≡ n / size → n - n % size ≤ at
first_before size at n same = omega (arith, div-add-mod' n size, div-add-mod' at size, ap (λ q. q * size) same)

-- a range's leaves, by the entry that a walk for its first address has ended at
leaves_in-parts : (t : PageTables) (at left height table : ℕ) (entry : Option ℕ) → IsReached t 0 at height table entry → 0 < left
    → leaves_in t at left
    ≡ option_to_list (option_and_then (leaf_part at (at + left) at) (leaf_of_entry t.kind_of height entry))
    ++ leaves_in t (at + part_under height at left) (left - part_under height at left)
unfolding leaves_in
leaves_in-parts t at left height table entry reached some =
    let size = bytes_under height in
    let part = part_under height at left in
    let rest = left - part in
    let is_part = part_of height at left some in
    let leaf_from : ℕ → ℕ → ℕ → Option Leaf = λ from end va. option_and_then (leaf_part from end va) (leaf_at t va) in
    let none : (n : ℕ) → at < n → n < at + part → leaf_from at (at + left) n ≡ None = λ n behind before.
    let same : at / size ≡ n / size = same_span at n size (some_under height) (omega arith) (omega (arith, is_part.within)) in
    let start : first_under height n < n = omega (arith, first_before size at n same) in
    let P : ℕ → Type 0 = λ h. first_under h n < n in
    ap (λ leaf. option_and_then (leaf_part at (at + left) n) leaf) (leaf_at-same t at n height table entry reached same)
    ∙ leaf_part-none at (at + left) n (leaf_of_entry t.kind_of height entry) behind
    (λ m found. subst P (leaf_of_entry-is t.kind_of height entry m found).0 start) in
    let same : (n : ℕ) → at + part ≤ n → n < at + part + rest → leaf_from at (at + left) n ≡ leaf_from (at + part) (at + part + rest) n = λ n from to.
    leaf_part-same at (at + part) (at + left) n (leaf_at t n) (omega (arith, is_part.some)) from
    (λ first m found. leaf_begins t at height table n entry m reached (first ∙ is_part.end (omega arith)) found)
    ∙ ap (λ end. leaf_from (at + part) end n) (omega (arith, is_part.all)) in
    ap (λ n. filter_map (leaf_from at (at + left)) (range_with_len at n)) is_part.all
    ∙ filter_map-parts (leaf_from at (at + left)) (leaf_from (at + part) (at + part + rest)) at part rest is_part.some none same
    ∙ ap (λ leaf. option_to_list (option_and_then (leaf_part at (at + left) at) leaf)
    ++ filter_map (leaf_from (at + part) (at + part + rest)) (range_with_len (at + part) rest))
    (leaf_at-same t at at height table entry reached refl)

-- a leaf's part at the first address of a range
abbrev pub part_at : (at size bytes bits address : ℕ) → Leaf
part_at at size bytes bits address = record { va = at; pa = address + at % size; size = bytes; bits = bits }

leaf_part-first : (at left : ℕ) (m : MappedBy)
    → leaf_part at (at + left) at m ≡ Some (part_at at (bytes_under m.height) (part_under m.height at left) m.bits m.address)
leaf_part-first at left m =
    let size = bytes_under m.height in
    let whole : at % size ≤ at = omega (arith, div-add-mod' at size) in
    let make : ℕ → ℕ → Option Leaf = λ inside bytes. Some (record { va = at; pa = m.address + inside; size = bytes; bits = m.bits }) in
    let inside : at - first_under m.height at ≡ at % size = omega arith in
    let bytes : min (first_under m.height at + size) (at + left) - at ≡ part_under m.height at left = omega (arith, mod_below at size (some_under m.height)) in
    rw (begins_first at (first_under m.height at) (omega arith))
    (ap (λ i. make i (min (first_under m.height at + size) (at + left) - at)) inside ∙ ap (λ n. make (at % size) n) bytes)

-- a range begins with the leaf that was found
pub leaves_in-leaf : (t : PageTables) (at left height table bits address bytes : ℕ) (entry : Option ℕ)
    → IsReached t 0 at height table entry → 0 < left → bytes ≡ part_under height at left
    → leaf_of_entry t.kind_of height entry ≡ Some (record { height = height; bits = bits; address = address })
    → leaves_in t at left ≡ part_at at (bytes_under height) bytes bits address ∷ leaves_in t (at + bytes) (left - bytes)
leaves_in-leaf t at left height table bits address bytes entry reached some is_part found =
    leaves_in-parts t at left height table entry reached some
    ∙ ap (λ leaf. option_to_list leaf ++ leaves_in t (at + part_under height at left) (left - part_under height at left))
    (ap (λ leaf. option_and_then (leaf_part at (at + left) at) leaf) found
    ∙ leaf_part-first at left (record { height = height; bits = bits; address = address }))
    ∙ ap (λ n. part_at at (bytes_under height) n bits address ∷ leaves_in t (at + n) (left - n)) (sym is_part)

-- or with nothing, where none was
pub leaves_in-no_leaf : (t : PageTables) (at left height table bytes : ℕ) (entry : Option ℕ)
    → IsReached t 0 at height table entry → 0 < left → bytes ≡ part_under height at left
    → leaf_of_entry t.kind_of height entry ≡ None → leaves_in t at left ≡ leaves_in t (at + bytes) (left - bytes)
leaves_in-no_leaf t at left height table bytes entry reached some is_part found =
    leaves_in-parts t at left height table entry reached some
    ∙ ap (λ leaf. option_to_list (option_and_then (leaf_part at (at + left) at) leaf)
    ++ leaves_in t (at + part_under height at left) (left - part_under height at left)) found
    ∙ ap (λ n. leaves_in t (at + n) (left - n)) (sym is_part)

-- an address at which a range goes on does not wrap, and where nothing is left it does not matter
pub goes_on : {A : Type 0} (list_in : ℕ → ℕ → List A) → ((at : ℕ) → list_in at 0 ≡ []) → (at left next rest : ℕ)
    → at + left ≤ 2 ^ 64 → next ≡ at % 2 ^ 64 → rest ≡ left → list_in at left ≡ list_in next rest
goes_on list_in none at zero next rest within is_next is_rest =
    none at ∙ sym (none next) ∙ ap (λ n. list_in next n) (sym is_rest)
goes_on list_in none at (suc left) next rest within is_next is_rest =
    ap (λ va. list_in va (suc left)) (let same : at ≡ next = omega arith in same) ∙ ap (λ n. list_in next n) (sym is_rest)

-- ---- last-level tables

same_either : {A : Type 0} (test : Bool) (x : A) → (if test then x else x) ≡ x
same_either true x = refl
same_either false x = refl

table_part-none : (t : PageTables) (from va : ℕ) → from < va → (first_under 1 va < va) ⊎ (last_table t va ≡ None) → table_part t from va ≡ None
table_part-none t from va behind (inl inside) = rw (begins_not from (first_under 1 va) va behind inside)
table_part-none t from va behind (inr none) = rw none (same_either (max from (first_under 1 va) == va) None)

table_part-same : (t : PageTables) (from later va : ℕ) → from < later → later ≤ va → (va ≡ later → first_under 1 va ≡ va)
    → table_part t from va ≡ table_part t later va
table_part-same t from later va shorter within first =
    rw (begins_same from later (first_under 1 va) va (omega arith) shorter within first)

-- an entry above height 1 that a walk has ended at names no table
ended_without : (t : PageTables) (a height table : ℕ) (entry : Option ℕ) → IsReached t 1 a height table entry → 1 < height
    → table_of_kind (kind_of_entry t.kind_of height entry) ≡ None
ended_without t a height table entry reached above =
    no_table (kind_of_entry t.kind_of height entry)
    (λ names. reached.end above (names.0, ap (λ e. kind_of_entry t.kind_of height e) (sym reached.way.found) ∙ names.1))

-- the last-level table of an address, by the entry that a walk to height 1 has ended at
last_table-same : (t : PageTables) (a b height table : ℕ) (entry : Option ℕ) → IsReached t 1 a height table entry
    → a / bytes_under height ≡ b / bytes_under height → last_table t b ≡ table_of_kind (kind_of_entry t.kind_of height entry)
last_table-same t a b height table entry reached same =
    let there = reached-same t 1 a b height table entry reached same in
    elim (cases_lt 1 height) [
      | inl above ↦
          ap (λ e. table_of_kind (kind_of_entry t.kind_of 1 e))
          (nothing_below t b height there.way.high (there.end above) (height - 1 - 1) 1 (omega arith))
          ∙ sym (ended_without t b height table entry there above)
      | inr at_one ↦
          let one : 1 ≡ height = omega (arith, reached.low) in
          ap (λ h. table_of_kind (kind_at t h b)) one ∙ ap (λ e. table_of_kind (kind_of_entry t.kind_of height e)) (sym there.way.found)
    ]

-- a range's tables, by the entry that a walk to height 1 for its first address has ended at
pub last_tables_in-parts : (t : PageTables) (at left height table bytes : ℕ) (entry found : Option ℕ)
    → IsReached t 1 at height table entry → 0 < left → bytes ≡ part_under height at left
    → found ≡ table_of_kind (kind_of_entry t.kind_of height entry)
    → last_tables_in t at left ≡ option_to_list found ++ last_tables_in t (at + bytes) (left - bytes)
unfolding last_tables_in
last_tables_in-parts t at left height table bytes entry found reached some all_bytes is_found =
    let part = part_under height at left in
    let rest = left - part in
    let is_part = part_of height at left some in
    let none : (n : ℕ) → at < n → n < at + part → table_part t at n ≡ None = λ n behind before.
    let same : at / bytes_under height ≡ n / bytes_under height =
    same_span at n (bytes_under height) (some_under height) (omega arith) (omega (arith, is_part.within)) in
    table_part-none t at n behind (elim (cases_lt 1 height) [
      | inl above ↦ inr (last_table-same t at n height table entry reached same ∙ ended_without t at height table entry reached above)
      | inr at_one ↦
          let one : height ≡ 1 = omega (arith, reached.low) in
          let P : ℕ → Type 0 = λ h. first_under h n < n in
          let start : first_under height n < n = omega (arith, first_before (bytes_under height) at n same) in
          inl (subst P one start)
    ]) in
    let same : (n : ℕ) → at + part ≤ n → n < at + part + rest → table_part t at n ≡ table_part t (at + part) n = λ n from to.
    table_part-same t at (at + part) n (omega (arith, is_part.some)) from (λ first.
    let multiple = multiple_below 1 height n reached.low (end_multiple height at n (first ∙ is_part.end (omega arith))) in omega arith) in
    let head : table_part t at at ≡ found =
    rw (begins_first at (first_under 1 at) (omega arith)) (last_table-same t at at height table entry reached refl ∙ sym is_found) in
    ap (λ n. filter_map (table_part t at) (range_with_len at n)) is_part.all
    ∙ filter_map-parts (table_part t at) (table_part t (at + part)) at part rest is_part.some none same
    ∙ ap (λ o. option_to_list o ++ filter_map (table_part t (at + part)) (range_with_len (at + part) rest)) head
    ∙ ap (λ n. option_to_list found ++ filter_map (table_part t (at + n)) (range_with_len (at + n) (left - n))) (sym all_bytes)
