-- Entries of the page directory, from walks to them.
use Rattle.std.proofs.Common.{◌≡◌, ◌∙◌, ℕ, zero, suc, ◌+◌, ◌-◌, ◌*◌, ◌/◌, ◌%◌, ◌^◌, ◌<◌, Option, Some}
use Rattle.std.proofs.Common.{None, List, [], ◌∷◌, ◌++◌, refl, ap, sym, subst, arith, take, length, add-one, zero-add}
use Rattle.std.specs.List.{flat_map, range_with_len}
use Rattle.std.specs.Option.{unwrap_or}
use Rattle.std.specs.Int.{w64, to_le_bytes}
use Rattle.std.proofs.lemmas.List.{append-nil, take_all}
use Rattle.std.proofs.lemmas.List.Concat.{flat_map-append}
use Rattle.std.proofs.lemmas.Nat.{shr_below, mod_below, pow_pos}
use Rattle.fd_pte.specs.declared.entry.Kind.TheVariants.{Absent, Table}
use Rattle.fd_pte.specs.Entry.{bytes_under, units_under}
use Rattle.fd_walk.specs.PageTables.{PageTables, entry_at, index_at, kind_of_entry, kind_at}
use Rattle.fd_walk.specs.Descent.{IsTable, IsOnWay, IsReached}
use Rattle.fd_walk.specs.Leaf.{MappedBy, leaf_of_entry, leaf_at}
use Rattle.fd_walk.specs.Directory.{DirectoryForm, expanded_leaf, entry_or_expanded, directory_entry, directory_bytes}
use Rattle.fd_walk.proofs.Ways.{leaf_at-reached, nothing_below}
use Rattle.fd_walk.proofs.Spans.{same_above, reached-same, way_beside}

absent_names_none : ¬ IsTable Absent
absent_names_none names = let no_such : Absent ≡ Table names.0 = names.1 in cc

-- where the walk came to directory height, the entry stands as it is, or there is none and no leaf
stands : (t : PageTables) (form : DirectoryForm) (va table : ℕ) (entry : Option ℕ)
    → IsOnWay t va form.height table entry → unwrap_or entry 0 ≡ directory_entry t form va
stands t form va table (Some bits) way = ap (λ e. entry_or_expanded form va e (leaf_at t va)) way.found
stands t form va table None way =
    let names_none : ¬ IsTable (kind_at t form.height va) =
    λ names. absent_names_none (names.0, ap (λ e. kind_of_entry t.kind_of form.height e) way.found ∙ names.1) in
    sym (ap (λ e. entry_or_expanded form va e (leaf_at t va)) (sym way.found)
    ∙ ap (λ leaf. expanded_leaf form va leaf)
    (leaf_at-reached t va form.height table None way
    (λ h below. nothing_below t va form.height way.high names_none (form.height - h - 1) h (omega arith))))

-- also where the walk was for another address of the page
pub entry_stands : (t : PageTables) (form : DirectoryForm) (walked va height table : ℕ) (entry word : Option ℕ)
    → height ≡ form.height → IsOnWay t walked height table entry
    → walked / bytes_under (form.height + 1) ≡ va / bytes_under (form.height + 1)
    → word ≡ t.word_at (table + 8 * index_at form.height va) → unwrap_or word 0 ≡ directory_entry t form va
entry_stands t form walked va height table entry word here way same is_word =
    stands t form va table word
    (way_beside t walked va form.height table entry word (subst (λ h. IsOnWay t walked h table entry) here way) same is_word)

-- where it ended above, the leaf that it found is expanded, or the entry is 0
pub leaf_stands : (t : PageTables) (form : DirectoryForm) (walked va height table : ℕ) (entry : Option ℕ) (leaf : Option MappedBy)
    → IsReached t form.height walked height table entry → form.height < height
    → walked / bytes_under (form.height + 1) ≡ va / bytes_under (form.height + 1)
    → leaf_of_entry t.kind_of height entry ≡ leaf → expanded_leaf form va leaf ≡ directory_entry t form va
leaf_stands t form walked va height table entry leaf walk above same found =
    let reached = reached-same t form.height walked va height table entry walk (same_above (form.height + 1) height walked va (omega arith) same) in
    let none : (h : ℕ) → h < height → entry_at t h va ≡ None =
    λ h below. nothing_below t va height reached.way.high (reached.end (omega arith)) (height - h - 1) h (omega arith) in
    sym (ap (λ e. entry_or_expanded form va e (leaf_at t va)) (none form.height above)
    ∙ ap (λ leaf. expanded_leaf form va leaf) (leaf_at-reached t va height table entry reached.way none ∙ found))

-- the unit of an address within a larger leaf is one of the leaf's
pub unit_within : (va low high : ℕ) → low < high → va % bytes_under high / bytes_under low < units_under low high
unit_within va low high larger =
    let exponents : 12 + 9 * high ≡ 9 * (high - low) + (12 + 9 * low) = omega arith in
    shr_below (va % bytes_under high) (9 * (high - low)) (12 + 9 * low)
    (subst (λ e. va % bytes_under high < 2 ^ e) exponents (mod_below va (bytes_under high) (pow_pos (12 + 9 * high))))

pub unit_index_within : (va low high small large : ℕ) → small ≡ bytes_under low → large ≡ bytes_under high → low < high
    → va % large / small < units_under low high
unit_index_within va low high small large is_small is_large larger =
    let P : ℕ → ℕ → Type 0 = λ s l. va % l / s < units_under low high in
    subst (λ s. P s large) (sym is_small) (subst (λ l. P (bytes_under low) l) (sym is_large) (unit_within va low high larger))

-- one number more
range_with_len-suc : (first count : ℕ) → range_with_len first (suc count) ≡ range_with_len first count ++ (first + count) ∷ []
range_with_len-suc first zero = ap (λ n. n ∷ []) (let same : first ≡ first + 0 = omega arith in same)
range_with_len-suc first (suc count) =
    let same : first + 1 + count ≡ first + suc count = omega arith in
    ap (λ ns. first ∷ ns) (range_with_len-suc (first + 1) count ∙ ap (λ n. range_with_len (first + 1) count ++ n ∷ []) same)

-- one entry more
pub directory_bytes-more : (t : PageTables) (form : DirectoryForm) (first count : ℕ)
    → directory_bytes t form first (count + 1)
    ≡ directory_bytes t form first count ++ to_le_bytes w64 (directory_entry t form (first + count * bytes_under form.height))
unfolding directory_bytes
directory_bytes-more t form first count =
    let bytes_of = λ (unit : ℕ). to_le_bytes w64 (directory_entry t form (first + unit * bytes_under form.height)) in
    ap (λ n. flat_map bytes_of (range_with_len 0 n)) (add-one count)
    ∙ ap (λ units. flat_map bytes_of units) (range_with_len-suc 0 count)
    ∙ flat_map-append bytes_of (range_with_len 0 count) ((0 + count) ∷ [])
    ∙ ap (λ bytes. flat_map bytes_of (range_with_len 0 count) ++ bytes) (append-nil (bytes_of (0 + count)) ∙ ap bytes_of (zero-add count))

-- a page in which another entry is written holds one entry more
pub page_grows : (t : PageTables) (form : DirectoryForm) (first unit entry : ℕ) (page page' : List ℕ)
    → take (8 * unit) page ≡ directory_bytes t form first unit
    → take (8 * unit + 8) page' ≡ take (8 * unit) page ++ to_le_bytes w64 entry
    → entry ≡ directory_entry t form (first + unit * bytes_under form.height)
    → take (8 * (unit + 1)) page' ≡ directory_bytes t form first (unit + 1)
page_grows t form first unit entry page page' so_far written is_entry =
    ap (λ n. take n page') (let places : 8 * (unit + 1) ≡ 8 * unit + 8 = omega arith in places)
    ∙ written
    ∙ ap (λ bytes. bytes ++ to_le_bytes w64 entry) so_far
    ∙ ap (λ e. directory_bytes t form first unit ++ to_le_bytes w64 e) is_entry
    ∙ sym (directory_bytes-more t form first unit)

-- a page of 512 entries is whole
pub page_whole : (t : PageTables) (form : DirectoryForm) (first unit : ℕ) (page : List ℕ) → unit ≡ 512 → length page ≡ 4096
    → take (8 * unit) page ≡ directory_bytes t form first unit → page ≡ directory_bytes t form first 512
page_whole t form first unit page all long so_far =
    sym (take_all (8 * unit) page (omega arith)) ∙ so_far ∙ ap (λ n. directory_bytes t form first n) all

-- no entry
pub directory_bytes-none : (t : PageTables) (form : DirectoryForm) (first : ℕ) → directory_bytes t form first 0 ≡ []
unfolding directory_bytes
directory_bytes-none t form first = refl
