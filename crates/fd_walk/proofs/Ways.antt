-- Walks, entry by entry, and what they tell of an address.
use Rattle.std.proofs.Common.{◌≡◌, ◌∙◌, ℕ, zero, suc, ◌+◌, ◌-◌, ◌*◌, ◌<◌, ◌≤◌, ◌==◌, ◌⊎◌, Option, Some, None, refl, ap, sym, subst, arith, inl, inr}
use Rattle.std.specs.Option.{option_or, option_and_then, option_map, unwrap_or}
use Rattle.std.specs.Bool.{then_some}
use Rattle.std.proofs.lemmas.Bool.{cases_lt, cases_Bool, eqb-true}
use Rattle.fd_pte.specs.declared.entry.Kind.{Kind}
use Rattle.fd_pte.specs.declared.entry.Kind.TheVariants.{Absent, Table, Leaf}
use Rattle.fd_walk.specs.PageTables.{PageTables, entry_at, index_at, kind_at, kind_of_entry}
use Rattle.fd_walk.specs.Descent.{IsTable, IsOnWay, IsInTable, IsReached}
use Rattle.fd_walk.specs.Step.{step_at, step_of}
use Rattle.fd_walk.specs.Leaf.{MappedBy, leaf_of_kind, leaf_of_entry, leaf_of_height, leaf_below, leaf_at, table_of_kind, last_table}
use Rattle.fd_walk.proofs.TablePath.{word_under, entry_at-below}

-- a walk begins in the topmost table
pub topmost_table : (t : PageTables) (va height table : ℕ) → height + 1 ≡ t.levels → table ≡ t.root → IsInTable t va height table
topmost_table t va height table top is_root = record {
  high = omega arith;
  found = refl;
  above = λ h higher within. absurd (omega arith);
  named = λ within. absurd (omega arith);
  top = λ highest. is_root;
}

-- and goes on in the table that an entry names
pub way_down : (t : PageTables) (va height table below lower : ℕ) (entry next : Option ℕ) → IsOnWay t va height table entry
    → kind_of_entry t.kind_of height entry ≡ Table below → lower + 1 ≡ height
    → next ≡ t.word_at (below + 8 * index_at lower va) → IsOnWay t va lower below next
way_down t va height table below lower entry next way names one_lower word =
    let named : kind_at t height va ≡ Table below = ap (λ e. kind_of_entry t.kind_of height e) (sym way.found) ∙ names in
    let right_above : kind_at t (lower + 1) va ≡ Table below = ap (λ h. kind_at t h va) one_lower ∙ named in
    record {
      high = omega (arith, way.high);
      found = word ∙ sym (entry_at-below t lower va (omega (arith, way.high)) ∙ ap (λ kind. word_under t lower va kind) right_above);
      above = λ h higher within.
          elim (cases_lt height h) [
            | inl farther ↦ way.above h farther within
            | inr nearer ↦ (below, ap (λ k. kind_at t k va) (let same : h ≡ height = omega arith in same) ∙ named)
          ];
      named = λ within. right_above;
      top = λ highest. absurd (omega (arith, way.high));
    }

-- nothing is found in place of a table by an entry that names none
word_under-none : (t : PageTables) (height va : ℕ) (kind : Kind) → ¬ IsTable kind → word_under t height va kind ≡ None
word_under-none t height va (Table table) names_none = absurd (names_none (table, refl))
word_under-none t height va (Leaf address) names_none = refl
word_under-none t height va Absent names_none = refl

-- there is no entry below one that names no table
pub nothing_below : (t : PageTables) (va height : ℕ) → height < t.levels → ¬ IsTable (kind_at t height va)
    → (deeper h : ℕ) → h + deeper + 1 ≡ height → entry_at t h va ≡ None
nothing_below t va height within names_none zero h below =
    entry_at-below t h va (omega arith)
    ∙ word_under-none t h va (kind_at t (h + 1) va)
    (subst (λ k. ¬ IsTable (kind_at t k va)) (let same : height ≡ h + 1 = omega arith in same) names_none)
nothing_below t va height within names_none (suc deeper) h below =
    let none_above : entry_at t (h + 1) va ≡ None = nothing_below t va height within names_none deeper (h + 1) (omega arith) in
    entry_at-below t h va (omega arith)
    ∙ ap (λ entry. word_under t h va (kind_of_entry t.kind_of (h + 1) entry)) none_above

-- an entry that names a table is no leaf
leaf_of_height-table : (kind_of : ℕ → Kind) (height table : ℕ) (entry : Option ℕ)
    → unwrap_or (option_map kind_of entry) Absent ≡ Table table
    → option_and_then (λ bits. leaf_of_kind height bits (kind_of bits)) entry ≡ None
leaf_of_height-table kind_of height table None names = refl
leaf_of_height-table kind_of height table (Some bits) names = ap (λ kind. leaf_of_kind height bits kind) names

leaf_below-none : (t : PageTables) (va height : ℕ) → ((h : ℕ) → h < height → entry_at t h va ≡ None) → leaf_below t height va ≡ None
unfolding leaf_below
leaf_below-none t va zero none = refl
leaf_below-none t va (suc height) none =
    rw (ap (λ entry. option_and_then (λ bits. leaf_of_kind height bits (t.kind_of bits height)) entry) (none height (omega arith)))
    (leaf_below-none t va height (λ h below. none h (omega arith)))

option_or-none : {A : Type 0} (o p : Option A) → p ≡ None → option_or o p ≡ o
option_or-none None p none = none
option_or-none (Some x) p none = refl

-- where the entries above name tables and there are none below, the leaf is that of this height
pub leaf_below-only : (t : PageTables) (va height : ℕ)
    → ((h : ℕ) → height < h → h < t.levels → IsTable (kind_at t h va)) → ((h : ℕ) → h < height → entry_at t h va ≡ None)
    → (n : ℕ) → height < n → n ≤ t.levels → leaf_below t n va ≡ leaf_of_height t height va
unfolding leaf_below
leaf_below-only t va height tables none zero at_least within = absurd (omega arith)
leaf_below-only t va height tables none (suc n) at_least within =
    elim (cases_lt height n) [
      | inl higher ↦
          let names = tables n higher (omega arith) in
          rw (leaf_of_height-table (λ bits. t.kind_of bits n) n names.0 (entry_at t n va) names.1)
          (leaf_below-only t va height tables none n higher (omega arith))
      | inr here ↦
          let same : n ≡ height = omega arith in
          option_or-none (leaf_of_height t n va) (leaf_below t n va) (leaf_below-none t va n (λ h below. none h (omega arith)))
          ∙ ap (λ h. leaf_of_height t h va) same
    ]

-- where a walk has ended, with nothing below, is the leaf of the address
pub leaf_at-reached : (t : PageTables) (va height table : ℕ) (entry : Option ℕ) → IsOnWay t va height table entry
    → ((h : ℕ) → h < height → entry_at t h va ≡ None)
    → leaf_at t va ≡ leaf_of_entry t.kind_of height entry
leaf_at-reached t va height table entry way none =
    leaf_below-only t va height way.above none t.levels way.high (omega arith)
    ∙ ap (λ e. leaf_of_entry t.kind_of height e) (sym way.found)

-- there is nothing below where a walk to the pages has ended
pub reached-nothing_below : (t : PageTables) (va height table : ℕ) (entry : Option ℕ) → IsReached t 0 va height table entry
    → (h : ℕ) → h < height → entry_at t h va ≡ None
reached-nothing_below t va height table entry reached h below =
    nothing_below t va height reached.way.high (reached.end (omega arith)) (height - h - 1) h (omega arith)

-- a kind that names no table has none
pub no_table : (kind : Kind) → ¬ IsTable kind → table_of_kind kind ≡ None
no_table (Table table) names_none = absurd (names_none (table, refl))
no_table (Leaf address) names_none = refl
no_table Absent names_none = refl

-- a walk was sent to a last-level table exactly where it came to height 0
pub last_table-reached : (t : PageTables) (va height table : ℕ) (entry : Option ℕ) → 2 ≤ t.levels → IsReached t 0 va height table entry
    → (height ≡ 0 → last_table t va ≡ Some table) × (0 < height → last_table t va ≡ None)
last_table-reached t va height table entry levels reached = (
  λ at_page.
      ap (λ h. table_of_kind (kind_at t h va)) (let one : 1 ≡ height + 1 = omega arith in one)
      ∙ ap table_of_kind (reached.way.named (omega arith)),
  λ above.
      elim (cases_lt 1 height) [
        | inl higher ↦ ap (λ e. table_of_kind (kind_of_entry t.kind_of 1 e)) (reached-nothing_below t va height table entry reached 1 higher)
        | inr one ↦
            let same : height ≡ 1 = omega arith in
            no_table (kind_at t 1 va) (subst (λ h. ¬ IsTable (kind_at t h va)) same (reached.end above))
      ],
)

-- what is looked up is the leaf of the entry that the walk came to
pub step_at-reached : (t : PageTables) (va height table : ℕ) (entry last : Option ℕ) → 2 ≤ t.levels → IsReached t 0 va height table entry
    → (height ≡ 0 → last ≡ Some table) → (0 < height → last ≡ None)
    → step_at t va ≡ step_of va last (leaf_of_entry t.kind_of height entry)
step_at-reached t va height table entry last levels reached at_page above =
    let tables = last_table-reached t va height table entry levels reached in
    ap (λ leaf. step_of va (last_table t va) leaf)
    (leaf_at-reached t va height table entry reached.way (reached-nothing_below t va height table entry reached))
    ∙ ap (λ l. step_of va l (leaf_of_entry t.kind_of height entry))
    (elim (cases_lt 0 height) [
      | inl is_above ↦ tables.1 is_above ∙ sym (above is_above)
      | inr is_page ↦ let page : height ≡ 0 = omega arith in tables.0 page ∙ sym (at_page page)
    ])

-- the same where the table is told at height 0 alone
pub step_at-told : (t : PageTables) (va height table : ℕ) (entry last : Option ℕ) → 2 ≤ t.levels → IsReached t 0 va height table entry
    → last ≡ then_some (height == 0) table → step_at t va ≡ step_of va last (leaf_of_entry t.kind_of height entry)
step_at-told t va height table entry last levels reached told =
    step_at-reached t va height table entry last levels reached
    (λ page. told ∙ ap (λ h. then_some (h == 0) table) page)
    (λ above. elim (cases_Bool (height == 0)) [
      | inl page ↦ let at_page = eqb-true height 0 page in absurd (omega arith)
      | inr not_page ↦ told ∙ ap (λ b. then_some b table) not_page
    ])

-- a leaf that was found is its entry's
leaf_of_kind-is : (height bits : ℕ) (kind : Kind) (m : MappedBy) → leaf_of_kind height bits kind ≡ Some m
    → (height ≡ m.height) × (bits ≡ m.bits) × (kind ≡ Leaf m.address)
leaf_of_kind-is height bits (Leaf address) m found = (
  ap (λ o. unwrap_or (option_map (λ x. x.height) o) 0) found,
  ap (λ o. unwrap_or (option_map (λ x. x.bits) o) 0) found,
  ap (λ o. Leaf (unwrap_or (option_map (λ x. x.address) o) 0)) found,
)
leaf_of_kind-is height bits (Table table) m found = cc
leaf_of_kind-is height bits Absent m found = cc

pub leaf_of_entry-is : (kind_of : ℕ → ℕ → Kind) (height : ℕ) (entry : Option ℕ) (m : MappedBy)
    → leaf_of_entry kind_of height entry ≡ Some m → (height ≡ m.height) × (kind_of_entry kind_of height entry ≡ Leaf m.address)
leaf_of_entry-is kind_of height None m found = cc
leaf_of_entry-is kind_of height (Some bits) m found =
    let is = leaf_of_kind-is height bits (kind_of bits height) m found in (is.0, is.2)

option_or-some : {A : Type 0} (o p : Option A) (x : A) → option_or o p ≡ Some x → (o ≡ Some x) ⊎ (p ≡ Some x)
option_or-some None p x is = inr is
option_or-some (Some y) p x is = inl is

-- the leaf of an address is a leaf of its height there
pub leaf_below-is : (t : PageTables) (va n : ℕ) (m : MappedBy) → leaf_below t n va ≡ Some m
    → (m.height < n) × (kind_at t m.height va ≡ Leaf m.address)
unfolding leaf_below
leaf_below-is t va zero m found = cc
leaf_below-is t va (suc n) m found =
    elim (option_or-some (leaf_of_height t n va) (leaf_below t n va) m found) [
      | inl here ↦
          let is = leaf_of_entry-is t.kind_of n (entry_at t n va) m here in
          (omega (arith, is.0), ap (λ h. kind_at t h va) (sym is.0) ∙ is.1)
      | inr lower ↦
          let is = leaf_below-is t va n m lower in (omega (arith, is.0), is.1)
    ]
