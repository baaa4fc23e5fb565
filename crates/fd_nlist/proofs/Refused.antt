-- The first field that is refused of two lists of fields.
use Rattle.std.proofs.Common.{◌≡◌, ℕ, ◌/◌, Bool, true, false, List, [], ◌∷◌, ◌++◌, length, Some, None, Ok, Err, refl, sym, ap, ◌∙◌}
use Rattle.fd_elf.specs.Header.{first_refused}
use Rattle.fd_elf.specs.declared.header.HeaderField.{HeaderField}
use Rattle.fd_nlist.specs.Sections.{linked_tables, section_at, string_fields, symbol_fields, tables_by, tables_with}
use Rattle.fd_nlist.specs.declared.sections.SectionHeader.{SectionHeader}
use Rattle.fd_nlist.specs.declared.sections.Tables.{Tables}

-- one of the first list comes first
pub refused_before : (xs ys : List HeaderField) (place : ℕ) → first_refused xs ≡ Some place → first_refused (xs ++ ys) ≡ Some place
refused_before [] ys place is = absurd (cc)
refused_before (x ∷ xs) ys place is = by_test x.is_taken (refused_before xs ys place) is
  where
    by_test :
        (t : Bool) → (first_refused xs ≡ Some place → first_refused (xs ++ ys) ≡ Some place)
        → first_refused (record { place = x.place; is_taken = t } ∷ xs) ≡ Some place
        → first_refused (record { place = x.place; is_taken = t } ∷ (xs ++ ys)) ≡ Some place
    by_test true rest is = rest is
    by_test false rest is = is

-- where none of the first list is refused, one of the second is first
pub refused_behind : (xs ys : List HeaderField) → first_refused xs ≡ None → first_refused (xs ++ ys) ≡ first_refused ys
refused_behind [] ys none = refl
refused_behind (x ∷ xs) ys none = by_test x.is_taken (refused_behind xs ys) none
  where
    by_test :
        (t : Bool) → (first_refused xs ≡ None → first_refused (xs ++ ys) ≡ first_refused ys)
        → first_refused (record { place = x.place; is_taken = t } ∷ xs) ≡ None
        → first_refused (record { place = x.place; is_taken = t } ∷ (xs ++ ys)) ≡ first_refused ys
    by_test true rest none = rest none
    by_test false rest none = absurd (cc)

-- What is answered of the two tables' section headers, by what is refused of them.
pub symbols_refused :
    (start : ℕ) (headers : List ℕ) (symbols : SectionHeader) (fields : List HeaderField) (place : ℕ)
    → fields ≡ symbol_fields (length headers / 64) symbols → first_refused fields ≡ Some place
    → Err place ≡ linked_tables start headers symbols
unfolding linked_tables
symbols_refused start headers symbols fields place are refused =
    let t = tables_with start headers symbols in
    sym (ap (λ r. tables_by r t) (refused_before (symbol_fields (length headers / 64) symbols) (string_fields t) place (ap first_refused (sym are) ∙ refused)))

both : (start : ℕ) (headers : List ℕ) (symbols strings : SectionHeader) (fields others : List HeaderField)
    → fields ≡ symbol_fields (length headers / 64) symbols → first_refused fields ≡ None
    → strings ≡ section_at start headers symbols.sh_link → others ≡ string_fields (record { symbols = symbols; strings = strings })
    → tables_by (first_refused others) (record { symbols = symbols; strings = strings }) ≡ linked_tables start headers symbols
unfolding linked_tables
both start headers symbols strings fields others are none link rest =
    let t = tables_with start headers symbols in
    let same : record { symbols = symbols; strings = strings } ≡ t = ap {B = Tables} (λ s. record { symbols = symbols; strings = s }) link in
    let behind : first_refused (symbol_fields (length headers / 64) symbols ++ string_fields t) ≡ first_refused (string_fields t) =
    refused_behind (symbol_fields (length headers / 64) symbols) (string_fields t) (ap first_refused (sym are) ∙ none) in
    ap (λ r. tables_by r (record { symbols = symbols; strings = strings })) (ap first_refused (rest ∙ ap string_fields same) ∙ sym behind)
    ∙ ap (tables_by (first_refused (symbol_fields (length headers / 64) symbols ++ string_fields t))) same

pub strings_refused :
    (start : ℕ) (headers : List ℕ) (symbols strings : SectionHeader) (fields others : List HeaderField) (place : ℕ)
    → fields ≡ symbol_fields (length headers / 64) symbols → first_refused fields ≡ None
    → strings ≡ section_at start headers symbols.sh_link → others ≡ string_fields (record { symbols = symbols; strings = strings })
    → first_refused others ≡ Some place → Err place ≡ linked_tables start headers symbols
strings_refused start headers symbols strings fields others place are none link rest refused =
    ap (λ r. tables_by r (record { symbols = symbols; strings = strings })) (sym refused) ∙ both start headers symbols strings fields others are none link rest

pub none_refused :
    (start : ℕ) (headers : List ℕ) (symbols strings : SectionHeader) (fields others : List HeaderField)
    → fields ≡ symbol_fields (length headers / 64) symbols → first_refused fields ≡ None
    → strings ≡ section_at start headers symbols.sh_link → others ≡ string_fields (record { symbols = symbols; strings = strings })
    → first_refused others ≡ None → Ok (record { symbols = symbols; strings = strings }) ≡ linked_tables start headers symbols
none_refused start headers symbols strings fields others are none link rest taken =
    ap (λ r. tables_by r (record { symbols = symbols; strings = strings })) (sym taken) ∙ both start headers symbols strings fields others are none link rest
