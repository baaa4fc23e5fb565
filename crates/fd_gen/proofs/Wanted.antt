-- The wanted pages rise.
use Rattle.std.proofs.Common.{◌≡◌, ℕ, zero, suc, ◌+◌, ◌*◌, ◌%◌, ◌^◌, ◌<◌, ◌≤◌, ◌==◌, Bool, true, false, not, cond, List, [], ◌∷◌, ◌++◌, length, map, zip, None, refl, sym, ap, ◌∙◌, arith, append-nil}
use Rattle.std.specs.List.{All, filter, range_with_len}
use Rattle.std.proofs.lemmas.Bool.Decides.{nat_tests}
use Rattle.std.proofs.lemmas.List.{length-map, map-append}
use Rattle.std.proofs.lemmas.List.Elements.{All-nil, All-cons, filter-append}
use Rattle.std.proofs.lemmas.List.Filters.{length-filter_both}
use Rattle.std.proofs.lemmas.List.FromFn.{length-range_with_len}
use Rattle.fd_image.specs.Image.{is_page_aligned, is_page_at_or_after, next_address, first_failing, bad_wanted_page}
use Rattle.fd_image.proofs.Places.{first_failing-none}
use Rattle.fd_gen.specs.Layout.{data_address}
use Rattle.fd_gen.specs.Generated.{wanted_pages}
use Rattle.fd_gen.proofs.Numbers.{numbers-more}

-- pages that rise from an address on
abbrev RiseFrom : ℕ → List ℕ → Type 0
RiseFrom low [] = Unit {0}
RiseFrom low (page ∷ pages) = (is_page_aligned page ≡ true) × (low ≤ page) × RiseFrom (page + 1) pages

all_after : (low : ℕ) (pages : List ℕ) → RiseFrom low pages → All (λ p. is_page_at_or_after p ≡ true) (zip (low ∷ map next_address pages) pages)
all_after low [] rise = All-nil (λ p. is_page_at_or_after p ≡ true)
all_after low (page ∷ pages) rise =
    All-cons (λ p. is_page_at_or_after p ≡ true) (low, page) (zip ((page + 1) ∷ map next_address pages) pages) (at_or_after low page rise.0 rise.1) (all_after (page + 1) pages rise.2)
  where
    at_or_after : (low page : ℕ) → is_page_aligned page ≡ true → low ≤ page → is_page_at_or_after (low, page) ≡ true
    at_or_after low page aligned above = grind (arith, nat_tests)

rise_is_good : (pages : List ℕ) → RiseFrom 0 pages → bad_wanted_page pages ≡ None
rise_is_good pages rise =
    first_failing-none is_page_at_or_after (zip (0 ∷ map next_address pages) pages) (0, 0) (λ k within. all_after 0 pages rise k (0, 0) within)

module _ (pages : ℕ) (few : pages < 2 ^ 15) where
  aligned : (page : ℕ) → is_page_aligned (data_address pages page) ≡ true
  aligned page = grind (arith, nat_tests)

  next_is_higher : (page : ℕ) → data_address pages page + 1 ≤ data_address pages (page + 1)
  next_is_higher page = grind (arith, nat_tests)

  chosen_rise : (test : ℕ → Bool) (low first count : ℕ) → low ≤ data_address pages first → RiseFrom low (map (data_address pages) (filter test (range_with_len first count)))
  chosen_rise test low first zero above = tt
  chosen_rise test low first (suc count) above =
      elim (test first) as (λ b. RiseFrom low (map (data_address pages) (cond b (first ∷ filter test (range_with_len (first + 1) count)) (filter test (range_with_len (first + 1) count))))) [
        | true ↦ (aligned first, above, chosen_rise test (data_address pages first + 1) (first + 1) count (next_is_higher first))
        | false ↦ chosen_rise test low (first + 1) count (omega (arith, above, next_is_higher first))
      ]

  behind_tables : (page : ℕ) → 0x8000_0001 ≤ data_address pages page
  behind_tables page = grind (arith, nat_tests)

  pub wanted_pages-good : bad_wanted_page (wanted_pages pages) ≡ None
  unfolding wanted_pages
  wanted_pages-good =
      rise_is_good (wanted_pages pages) (refl, omega arith, chosen_rise (λ page. page % 6 == 2) 0x8000_0001 0 pages (behind_tables 0))

  pub wanted_pages-few : length (wanted_pages pages) ≤ pages + 1
  unfolding wanted_pages
  wanted_pages-few =
      let wanted = filter (λ page. page % 6 == 2) (range_with_len 0 pages) in
      omega (
        arith,
        length-map wanted (data_address pages),
        length-filter_both (λ page. page % 6 == 2) (λ page. not (page % 6 == 2)) (λ page. refl) (range_with_len 0 pages),
        length-range_with_len 0 pages,
      )

-- one page more is looked at
chosen-more : (f : ℕ → ℕ) (test : ℕ → Bool) (count : ℕ)
    → map f (filter test (range_with_len 0 (count + 1))) ≡ map f (filter test (range_with_len 0 count)) ++ map f (filter test (count ∷ []))
chosen-more f test count =
    ap (λ l. map f (filter test l)) (numbers-more count)
    ∙ (ap (map f) (filter-append test (range_with_len 0 count) (count ∷ [])) ∙ map-append f (filter test (range_with_len 0 count)) (filter test (count ∷ [])))

-- the wanted pages among so many
abbrev pub wanted_among : (pages count : ℕ) → List ℕ
wanted_among pages count = 0x8000_0000 ∷ map (data_address pages) (filter (λ page. page % 6 == 2) (range_with_len 0 count))

pub wanted_among-taken : (pages count address : ℕ) (now next : List ℕ) → now ≡ wanted_among pages count → count % 6 ≡ 2 → address ≡ data_address pages count
    → next ≡ now ++ address ∷ [] → next ≡ wanted_among pages (count + 1)
wanted_among-taken pages count address now next is third place pushed =
    let test : (count % 6 == 2) ≡ true = grind (arith, nat_tests) in
    pushed
    ∙ ((λ i. is i ++ place i ∷ [])
    ∙ ap (λ l. 0x8000_0000 ∷ l)
    (sym (chosen-more (data_address pages) (λ page. page % 6 == 2) count
    ∙ ap (λ b. map (data_address pages) (filter (λ page. page % 6 == 2) (range_with_len 0 count)) ++ map
    (data_address pages) (cond b (count ∷ []) [])) test)))

pub wanted_among-passed : (pages count : ℕ) (now : List ℕ) → now ≡ wanted_among pages count → (count % 6 ≡ 2 → ⊥) → now ≡ wanted_among pages (count + 1)
wanted_among-passed pages count now is other =
    let test : (count % 6 == 2) ≡ false = grind (arith, nat_tests) in
    is
    ∙ ap (λ l. 0x8000_0000 ∷ l)
    (sym (chosen-more (data_address pages) (λ page. page % 6 == 2) count
    ∙ (ap (λ b. map (data_address pages) (filter (λ page. page % 6 == 2) (range_with_len 0 count)) ++ map
    (data_address pages) (cond b (count ∷ []) [])) test
    ∙ append-nil (map (data_address pages) (filter (λ page. page % 6 == 2) (range_with_len 0 count))))))
