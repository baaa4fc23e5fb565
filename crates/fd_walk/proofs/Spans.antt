-- The addresses under one entry: a walk for one of them is a walk for each.
use Rattle.std.proofs.Common.{◌≡◌, ◌∙◌, ℕ, zero, suc, ◌+◌, ◌-◌, ◌*◌, ◌/◌, ◌%◌, ◌^◌, ◌<◌, ◌≤◌, Option}
use Rattle.std.proofs.Common.{Some, None, List, [], ◌∷◌, ◌++◌, inl, inr, refl, ap, sym, subst, arith, zero-add}
use Rattle.std.specs.List.{filter_map, range_with_len, cons_option}
use Rattle.std.specs.Option.{option_to_list}
use Rattle.std.proofs.lemmas.Nat.{shr-shr, mod_below, div-add-mod', div-mul-add, pow_pos, row_fits}
use Rattle.std.proofs.Math.Nat.{add-mul-mod_self_right, le_refl}
use Rattle.std.proofs.lemmas.Bool.{cases_lt}
use Rattle.std.proofs.lemmas.List.{append-nil}
use Rattle.std.proofs.lemmas.List.Elements.{filter_map-append}
use Rattle.fd_pte.specs.declared.entry.Kind.{Kind}
use Rattle.fd_pte.specs.declared.entry.Kind.TheVariants.{Absent, Table, Leaf}
use Rattle.fd_pte.specs.Entry.{bytes_under}
use Rattle.fd_walk.specs.PageTables.{PageTables, entry_at, index_at, kind_at, kind_of_entry}
use Rattle.fd_walk.specs.Descent.{IsOnWay, IsInTable, IsReached}
use Rattle.fd_walk.specs.Leaf.{leaf_of_entry, leaf_at}
use Rattle.fd_walk.proofs.Addresses.{bytes_under-above}
use Rattle.fd_walk.proofs.TablePath.{word_under, entry_at-top, entry_at-below}
use Rattle.fd_walk.proofs.Ways.{leaf_at-reached, reached-nothing_below}

-- addresses under one entry are under one entry of each greater height
pub same_above : (low high a b : ℕ) → low ≤ high → a / bytes_under low ≡ b / bytes_under low → a / bytes_under high ≡ b / bytes_under high
same_above low high a b above same =
    let exponents : 12 + 9 * high ≡ 12 + 9 * low + 9 * (high - low) = omega arith in
    let divided = λ (n : ℕ). sym (shr-shr n (12 + 9 * low) (9 * (high - low))) in
    let P : ℕ → Type 0 = λ e. a / 2 ^ e ≡ b / 2 ^ e in
    subst P (sym exponents) (divided a ∙ ap (λ n. n / 2 ^ (9 * (high - low))) same ∙ sym (divided b))

word_under-same : (t : PageTables) (height a b : ℕ) (kind : Kind) → a / bytes_under height ≡ b / bytes_under height
    → word_under t height a kind ≡ word_under t height b kind
word_under-same t height a b (Table table) same = ap (λ n. t.word_at (table + 8 * (n % 512))) same
word_under-same t height a b (Leaf address) same = refl
word_under-same t height a b Absent same = refl

-- and lead to the same entries there
pub entry_at-same : (t : PageTables) (low a b : ℕ) → a / bytes_under low ≡ b / bytes_under low
    → (above height : ℕ) → height + above + 1 ≡ t.levels → low ≤ height → entry_at t height a ≡ entry_at t height b
entry_at-same t low a b same zero height levels at_least =
    entry_at-top t height a (omega arith)
    ∙ ap (λ n. t.word_at (t.root + 8 * (n % 512))) (same_above low height a b at_least same)
    ∙ sym (entry_at-top t height b (omega arith))
entry_at-same t low a b same (suc above) height levels at_least =
    entry_at-below t height a (omega arith)
    ∙ word_under-same t height a b (kind_at t (height + 1) a) (same_above low height a b at_least same)
    ∙ ap (λ e. word_under t height b (kind_of_entry t.kind_of (height + 1) e))
    (entry_at-same t low a b same above (height + 1) (omega arith) (omega arith))
    ∙ sym (entry_at-below t height b (omega arith))

pub kind_at-same : (t : PageTables) (low a b height : ℕ) → a / bytes_under low ≡ b / bytes_under low → low ≤ height → height < t.levels
    → kind_at t height a ≡ kind_at t height b
kind_at-same t low a b height same at_least within =
    ap (λ e. kind_of_entry t.kind_of height e) (entry_at-same t low a b same (t.levels - 1 - height) height (omega arith) at_least)

-- a walk ends at the same entry for every address under it
pub reached-same : (t : PageTables) (lowest a b height table : ℕ) (entry : Option ℕ) → IsReached t lowest a height table entry
    → a / bytes_under height ≡ b / bytes_under height → IsReached t lowest b height table entry
reached-same t lowest a b height table entry reached same =
    let within = reached.way.high in
    record {
      way = record {
        high = within;
        found = reached.way.found ∙ entry_at-same t height a b same (t.levels - 1 - height) height (omega arith) (omega arith);
        above = λ h higher below.
            let names = reached.way.above h higher below in
            (names.0, sym (kind_at-same t height a b h same (omega arith) below) ∙ names.1);
        named = λ below. sym (kind_at-same t height a b (height + 1) same (omega arith) below) ∙ reached.way.named below;
        top = reached.way.top;
      };
      low = reached.low;
      end = λ above names.
          reached.end above (names.0, kind_at-same t height a b height same (omega arith) within ∙ names.1);
    }

-- the entry for an address is in the table that a walk came to for another under the same entry above
entry_beside : (t : PageTables) (a b height table : ℕ) (entry : Option ℕ) → IsOnWay t a height table entry
    → a / bytes_under (height + 1) ≡ b / bytes_under (height + 1) → entry_at t height b ≡ t.word_at (table + 8 * index_at height b)
entry_beside t a b height table entry way same =
    elim (cases_lt (height + 1) t.levels) [
      | inl within ↦
          entry_at-below t height b within
          ∙ ap (λ kind. word_under t height b kind)
          (sym (kind_at-same t (height + 1) a b (height + 1) same (omega arith) within) ∙ way.named within)
      | inr highest ↦
          let top : height + 1 ≡ t.levels = omega (arith, way.high) in
          entry_at-top t height b top ∙ ap (λ root. t.word_at (root + 8 * index_at height b)) (sym (way.top top))
    ]

-- so the walk for one is the walk for the other but for its last step
pub way_beside : (t : PageTables) (a b height table : ℕ) (entry beside : Option ℕ) → IsOnWay t a height table entry
    → a / bytes_under (height + 1) ≡ b / bytes_under (height + 1) → beside ≡ t.word_at (table + 8 * index_at height b)
    → IsOnWay t b height table beside
way_beside t a b height table entry beside way same word = record {
  high = way.high;
  found = word ∙ sym (entry_beside t a b height table entry way same);
  above = λ h higher below.
      let names = way.above h higher below in
      (names.0, sym (kind_at-same t (height + 1) a b h same (omega arith) below) ∙ names.1);
  named = λ below. sym (kind_at-same t (height + 1) a b (height + 1) same (omega arith) below) ∙ way.named below;
  top = way.top;
}

-- a walk comes to the table that it came to for another address under the same entry above
pub table_beside : (t : PageTables) (a b height table : ℕ) (entry : Option ℕ) → IsOnWay t a height table entry
    → a / bytes_under (height + 1) ≡ b / bytes_under (height + 1) → IsInTable t b height table
table_beside t a b height table entry way same =
    way_beside t a b height table entry (entry_at t height b) way same (entry_beside t a b height table entry way same)

-- and passes the entry that it finds there
pub way_in_table : (t : PageTables) (va height table : ℕ) (entry : Option ℕ) → IsInTable t va height table
    → entry ≡ t.word_at (table + 8 * index_at height va) → IsOnWay t va height table entry
way_in_table t va height table entry in_table word =
    way_beside t va va height table (entry_at t height va) entry in_table refl word

-- the leaf of every address under the entry that a walk to the pages ended at
pub leaf_at-same : (t : PageTables) (a b height table : ℕ) (entry : Option ℕ) → IsReached t 0 a height table entry
    → a / bytes_under height ≡ b / bytes_under height → leaf_at t b ≡ leaf_of_entry t.kind_of height entry
leaf_at-same t a b height table entry reached same =
    let there = reached-same t 0 a b height table entry reached same in
    leaf_at-reached t b height table entry there.way (reached-nothing_below t b height table entry there)

-- an address and one behind it, before the end of the entry, are under it together
pub same_span : (a b size : ℕ) → 0 < size → a ≤ b → b < a - a % size + size → a / size ≡ b / size
same_span a b size some behind before =
    let base : a - a % size ≡ a / size * size = omega (arith, div-add-mod' a size) in
    let whole : a / size * size ≤ a = omega (arith, div-add-mod' a size) in
    let place : b ≡ a / size * size + (b - a / size * size) = omega arith in
    sym (ap (λ n. n / size) place ∙ div-mul-add (a / size) size (b - a / size * size) (omega arith))

-- the units of a page of entries are under one entry of the height above
pub same_page : (base page unit size height : ℕ) → size ≡ bytes_under height → base % (512 * bytes_under height) ≡ 0 → unit < 512
    → (base + page * (512 * size)) / bytes_under (height + 1) ≡ (base + page * (512 * size) + unit * size) / bytes_under (height + 1)
same_page base page unit size height is_size aligned within =
    let table : bytes_under (height + 1) ≡ 512 * size = bytes_under-above height ∙ ap (λ s. 512 * s) (sym is_size) in
    let start : base % (512 * size) ≡ 0 = ap (λ s. base % (512 * s)) is_size ∙ aligned in
    let first = base + page * (512 * size) in
    let whole : first % (512 * size) ≡ 0 = add-mul-mod_self_right base page (512 * size) ∙ start in
    let some : 0 < size = subst (λ s. 0 < s) (sym is_size) (pow_pos (12 + 9 * height)) in
    let inside = row_fits unit size 512 size within (le_refl size) in
    subst (λ s. first / s ≡ (first + unit * size) / s) (sym table)
    (same_span first (first + unit * size) (512 * size) (omega arith) (omega arith) (omega arith))

-- and one before it, behind the entry's beginning
pub same_span_back : (a b size : ℕ) → 0 < size → a ≤ b → b - b % size ≤ a → a / size ≡ b / size
same_span_back a b size some before behind =
    let whole = div-add-mod' b size in
    let rest : b % size < size = mod_below b size some in
    let place : a ≡ b / size * size + (a - b / size * size) = omega arith in
    ap (λ n. n / size) place ∙ div-mul-add (b / size) size (a - b / size * size) (omega arith)

-- ---- parts of a range

filter_map-none : {A : Type 0} (f : ℕ → Option A) (count first : ℕ) → ((n : ℕ) → first ≤ n → n < first + count → f n ≡ None)
    → filter_map f (range_with_len first count) ≡ []
filter_map-none f zero first none = refl
filter_map-none f (suc count) first none =
    ap (λ o. cons_option o (filter_map f (range_with_len (first + 1) count))) (none first (omega arith) (omega arith))
    ∙ filter_map-none f count (first + 1) (λ n from to. none n (omega arith) (omega arith))

filter_map-same : {A : Type 0} (f g : ℕ → Option A) (count first : ℕ) → ((n : ℕ) → first ≤ n → n < first + count → f n ≡ g n)
    → filter_map f (range_with_len first count) ≡ filter_map g (range_with_len first count)
filter_map-same f g zero first same = refl
filter_map-same f g (suc count) first same =
    ap (λ o. cons_option o (filter_map f (range_with_len (first + 1) count))) (same first (omega arith) (omega arith))
    ∙ ap (λ rest. cons_option (g first) rest) (filter_map-same f g count (first + 1) (λ n from to. same n (omega arith) (omega arith)))

range_with_len-split : (first m n : ℕ) → range_with_len first (m + n) ≡ range_with_len first m ++ range_with_len (first + m) n
range_with_len-split first zero n =
    ap (λ k. range_with_len first k) (zero-add n) ∙ ap (λ k. range_with_len k n) (let same : first ≡ first + 0 = omega arith in same)
range_with_len-split first (suc m) n =
    ap (λ k. range_with_len first k) (let sum : suc m + n ≡ suc (m + n) = omega arith in sum)
    ∙ ap (λ ns. first ∷ ns)
    (range_with_len-split (first + 1) m n
    ∙ ap (λ k. range_with_len (first + 1) m ++ range_with_len k n) (let same : first + 1 + m ≡ first + suc m = omega arith in same))

cons_option-append : {A : Type 0} (o : Option A) (xs : List A) → cons_option o xs ≡ option_to_list o ++ xs
cons_option-append None xs = refl
cons_option-append (Some x) xs = refl

-- a range is what stands at its first address, and what the addresses behind its first part give
pub filter_map-parts : {A : Type 0} (f g : ℕ → Option A) (at part rest : ℕ) → 0 < part
    → ((n : ℕ) → at < n → n < at + part → f n ≡ None)
    → ((n : ℕ) → at + part ≤ n → n < at + part + rest → f n ≡ g n)
    → filter_map f (range_with_len at (part + rest)) ≡ option_to_list (f at) ++ filter_map g (range_with_len (at + part) rest)
filter_map-parts f g at zero rest some none same = absurd (omega arith)
filter_map-parts f g at (suc more) rest some none same =
    ap (λ ns. filter_map f ns) (range_with_len-split at (suc more) rest)
    ∙ filter_map-append f (range_with_len at (suc more)) (range_with_len (at + suc more) rest)
    ∙ ap (λ ys. cons_option (f at) ys ++ filter_map f (range_with_len (at + suc more) rest))
    (filter_map-none f more (at + 1) (λ n from to. none n (omega arith) (omega arith)))
    ∙ ap (λ ys. ys ++ filter_map f (range_with_len (at + suc more) rest)) (cons_option-append (f at) [] ∙ append-nil (option_to_list (f at)))
    ∙ ap (λ ys. option_to_list (f at) ++ ys) (filter_map-same f g rest (at + suc more) same)
