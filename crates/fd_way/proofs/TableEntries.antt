-- The entries of page tables that an address leads to, height by height.
use Rattle.std.proofs.Common.{◌≡◌, ℕ, zero, suc, ◌+◌, ◌-◌, ◌*◌, ◌<◌, ◌≤◌, ◌^◌, Option, Some, None, refl, sym, ◌∙◌, ap, subst, arith, inl, inr}
use Rattle.std.specs.Option.{option_or}
use Rattle.std.proofs.lemmas.Bool.{cases_lt}
use Rattle.fd_pte.specs.declared.entry.Kind.{Kind}
use Rattle.fd_pte.specs.declared.entry.Kind.TheVariants.{Absent, Table, Leaf}
use Rattle.fd_walk.specs.Descent.{IsTable}
use Rattle.fd_walk.specs.Leaf.{MappedBy, leaf_of_kind, leaf_of_entry, leaf_of_height, leaf_below, leaf_at}
use Rattle.fd_walk.specs.PageTables.{PageTables, entry_at, index_at, kind_of_entry, kind_at}
use Rattle.fd_walk.proofs.TablePath.{word_under, entry_at-top, entry_at-below}
use Rattle.fd_walk.proofs.Ways.{nothing_below, leaf_below-only}

-- an entry below one is found only where that names a table
word_under-table : (t : PageTables) (height va word : ℕ) (kind : Kind) → word_under t height va kind ≡ Some word → IsTable kind
word_under-table t height va word (Table table) is = (table, refl)
word_under-table t height va word (Leaf address) is = cc
word_under-table t height va word Absent is = cc

-- an entry whose kind isn't absent is one
entry_of_kind : (kind_of : ℕ → ℕ → Kind) (height table : ℕ) (entry : Option ℕ) → kind_of_entry kind_of height entry ≡ Table table → (bits : ℕ) × (entry ≡ Some bits)
entry_of_kind kind_of height table None names = cc
entry_of_kind kind_of height table (Some bits) names = (bits, refl)

module _ (t : PageTables) where
  -- each entry above an entry names a table
  table_above : (height va bits : ℕ) → height + 1 < t.levels → entry_at t height va ≡ Some bits → IsTable (kind_at t (height + 1) va)
  table_above height va bits within some =
      word_under-table t height va bits (kind_at t (height + 1) va) (sym (entry_at-below t height va within) ∙ some)

  tables_above : (va : ℕ) (more height bits : ℕ) → height + more + 1 < t.levels → entry_at t height va ≡ Some bits → IsTable (kind_at t (height + more + 1) va)
  tables_above va zero height bits within some =
      let here : height + 1 ≡ height + 0 + 1 = omega arith in
      subst (λ h. IsTable (kind_at t h va)) here (table_above height va bits (omega arith) some)
  tables_above va (suc more) height bits within some =
      let next = table_above height va bits (omega arith) some in
      let entry = entry_of_kind t.kind_of (height + 1) next.0 (entry_at t (height + 1) va) next.1 in
      let here : height + 1 + more + 1 ≡ height + suc more + 1 = omega arith in
      subst (λ h. IsTable (kind_at t h va)) here (tables_above va more (height + 1) entry.0 (omega arith) entry.1)

  -- the leaf at an address is that of its lowest entry
  pub leaf_at-lowest :
      (height va bits : ℕ) → height < t.levels → entry_at t height va ≡ Some bits → ((h : ℕ) → h < height → entry_at t h va ≡ None)
      → leaf_at t va ≡ leaf_of_kind height bits (t.kind_of bits height)
  leaf_at-lowest height va bits within some none =
      leaf_below-only t va height
      (λ h above high.
      let here : height + (h - height - 1) + 1 ≡ h = omega arith in
      subst (λ n. IsTable (kind_at t n va)) here (tables_above va (h - height - 1) height bits (omega arith) some))
      none t.levels within (omega arith)
      ∙ ap (λ entry. leaf_of_entry t.kind_of height entry) some

  pub leaf_at-no_table :
      (height va bits : ℕ) → height < t.levels → entry_at t height va ≡ Some bits → ¬ IsTable (t.kind_of bits height)
      → leaf_at t va ≡ leaf_of_kind height bits (t.kind_of bits height)
  leaf_at-no_table height va bits within some no_table =
      let is : kind_at t height va ≡ t.kind_of bits height = ap (λ entry. kind_of_entry t.kind_of height entry) some in
      leaf_at-lowest height va bits within some
      (λ h below. nothing_below t va height within (λ names. no_table (names.0, sym is ∙ names.1)) (height - h - 1) h (omega arith))

  -- without an entry there is none below
  pub none_below : (height va : ℕ) → height < t.levels → entry_at t height va ≡ None → (h : ℕ) → h ≤ height → entry_at t h va ≡ None
  none_below height va within none h low =
      elim (cases_lt h height) [
        | inl below ↦
            let is : kind_at t height va ≡ Absent = ap (λ entry. kind_of_entry t.kind_of height entry) none in
            nothing_below t va height within (λ names. let no_such : Absent ≡ Table names.0 = sym is ∙ names.1 in cc) (height - h - 1) h (omega arith)
        | inr here ↦ let same : height ≡ h = omega arith in subst (λ n. entry_at t n va ≡ None) same none
      ]

  -- addresses that lead to the same entries have the same leaf
  pub leaf_below-same : (va v n : ℕ) → ((h : ℕ) → h < n → entry_at t h va ≡ entry_at t h v) → leaf_below t n va ≡ leaf_below t n v
  unfolding leaf_below
  leaf_below-same va v zero same = refl
  leaf_below-same va v (suc n) same =
      ap (λ entry. option_or (leaf_of_entry t.kind_of n entry) (leaf_below t n va)) (same n (omega arith))
      ∙ ap (λ leaf. option_or (leaf_of_height t n v) leaf) (leaf_below-same va v n (λ h below. same h (omega arith)))

  -- a leaf is that of an entry
  pub record IsLeafOf (va n : ℕ) (leaf : MappedBy) : Type 0 where
    pub below : leaf.height < n
    pub entry : entry_at t leaf.height va ≡ Some leaf.bits
    pub kind : t.kind_of leaf.bits leaf.height ≡ Leaf leaf.address

  leaf_from_kind :
      (va height bits : ℕ) (leaf : MappedBy) (kind : Kind) → entry_at t height va ≡ Some bits → t.kind_of bits height ≡ kind
      → leaf_of_kind height bits kind ≡ Some leaf → IsLeafOf va (suc height) leaf
  leaf_from_kind va height bits leaf (Leaf address) some is found =
      let same : record { height = height; bits = bits; address = address } ≡ leaf = cc in
      subst (λ l. IsLeafOf va (suc height) l) same (record { below = omega arith; entry = some; kind = is })
  leaf_from_kind va height bits leaf (Table table) some is found = cc
  leaf_from_kind va height bits leaf Absent some is found = cc

  leaf_from_entry : (va height : ℕ) (leaf : MappedBy) (entry : Option ℕ) → entry_at t height va ≡ entry → leaf_of_entry t.kind_of height entry ≡ Some leaf → IsLeafOf va (suc height) leaf
  leaf_from_entry va height leaf None some found = cc
  leaf_from_entry va height leaf (Some bits) some found = leaf_from_kind va height bits leaf (t.kind_of bits height) some refl found

  leaf_from_first :
      (va n : ℕ) (leaf : MappedBy) (first later : Option MappedBy) → option_or first later ≡ Some leaf → (first ≡ Some leaf → IsLeafOf va (suc n) leaf)
      → (later ≡ Some leaf → IsLeafOf va n leaf) → IsLeafOf va (suc n) leaf
  leaf_from_first va n leaf (Some first) later is here below = here is
  leaf_from_first va n leaf None later is here below =
      let found : IsLeafOf va n leaf = below is in
      record { below = omega (arith, found.below); entry = found.entry; kind = found.kind }

  pub leaf_found : (va n : ℕ) (leaf : MappedBy) → leaf_below t n va ≡ Some leaf → IsLeafOf va n leaf
  unfolding leaf_below
  leaf_found va zero leaf is = cc
  leaf_found va (suc n) leaf is =
      leaf_from_first va n leaf (leaf_of_height t n va) (leaf_below t n va) is (leaf_from_entry va n leaf (entry_at t n va) refl) (leaf_found va n leaf)

  -- each entry is a word of memory
  pub entry_short : ((pa word : ℕ) → t.word_at pa ≡ Some word → word < 2 ^ 64) → (height va bits : ℕ) → height < t.levels → entry_at t height va ≡ Some bits → bits < 2 ^ 64
  entry_short short height va bits within some =
      elim (cases_lt (height + 1) t.levels) [
        | inl below ↦ short_under (kind_at t (height + 1) va) (sym (entry_at-below t height va below) ∙ some)
        | inr top ↦ short (t.root + 8 * index_at height va) bits (sym (entry_at-top t height va (omega arith)) ∙ some)
      ]
    where
      short_under : (kind : Kind) → word_under t height va kind ≡ Some bits → bits < 2 ^ 64
      short_under (Table table) is = short (table + 8 * index_at height va) bits is
      short_under (Leaf address) is = cc
      short_under Absent is = cc
