-- The bitmap of the dumped pages, from the marks of its three kinds of pages.
use Rattle.std.proofs.Common.{◌≡◌, ◌∙◌, ℕ, suc, ◌+◌, ◌-◌, ◌*◌, ◌<◌, ◌≤◌, Bool, true, false, ◌&&◌, ◌||◌, List, [], ◌∷◌, length, get_or, map, replicate, refl, ap, sym, subst, arith}
use Rattle.std.specs.Prelude.{nat_le, nat_lt, All}
use Rattle.std.specs.List.{list_any}
use Rattle.std.proofs.lemmas.Bool.Decides.{nat_tests}
use Rattle.std.proofs.lemmas.List.Elements.{All-append}
use Rattle.std.proofs.lemmas.List.FromFn.{length-range_with_len, get_or-range_with_len}
use Rattle.fd_bitmap.specs.Pages.{pages_of, consecutive, first_page, end_page}
use Rattle.fd_image.specs.Image.{MachineImage, IsValid, is_range_of_pages}
use Rattle.fd_image.specs.declared.parts.Windows.{Windows}
use Rattle.fd_dump.specs.Dumped.{is_available, is_reached, is_wanted, is_mapped, is_last_table, dumps_last_tables, is_dumped, dumped_bits}
use Rattle.fd_dump.specs.Marks.{marked, is_markable}
use Rattle.fd_dump.proofs.Limits.{pairs_of_pages}
use Rattle.fd_dump.proofs.Marking.{marked-or, marked-clear}

-- an address is in a range
abbrev is_in : ℕ → ℕ × ℕ → Bool
is_in pa pair = nat_le pair.0 pa && nat_lt pa pair.1

or-true : (b : Bool) → (b || true) ≡ true
or-true true = refl
or-true false = refl

-- each page of a range is in it
in_pair : (pair : ℕ × ℕ) (page : ℕ) → is_range_of_pages pair ≡ true → first_page pair ≤ page → page < end_page pair → is_in (page * 4096) pair ≡ true
in_pair pair page whole from to = grind (arith, nat_tests)

in_first : (pair : ℕ × ℕ) (pairs : List (ℕ × ℕ)) → is_range_of_pages pair ≡ true
    → All (λ page. list_any (is_in (page * 4096)) (pair ∷ pairs) ≡ true) (consecutive (first_page pair) (end_page pair - first_page pair))
unfolding consecutive
in_first pair pairs whole k d within =
    let count = end_page pair - first_page pair in
    let below : k < count = omega (arith, length-range_with_len (first_page pair) count) in
    let is : get_or (consecutive (first_page pair) (end_page pair - first_page pair)) k d ≡ first_page pair + k = get_or-range_with_len (first_page pair) count k d below in
    let here : is_in ((first_page pair + k) * 4096) pair ≡ true = in_pair pair (first_page pair + k) whole (omega arith) (omega arith) in
    let P : ℕ → Type 0 = λ page. list_any (is_in (page * 4096)) (pair ∷ pairs) ≡ true in
    subst P (sym is) (ap (λ b. b || list_any (is_in ((first_page pair + k) * 4096)) pairs) here)

all_available : (pairs : List (ℕ × ℕ)) → All (λ pair. is_range_of_pages pair ≡ true) pairs
    → All (λ page. list_any (is_in (page * 4096)) pairs ≡ true) (pages_of pairs)
all_available [] whole = λ k d within. absurd (omega arith)
all_available (pair ∷ pairs) whole =
    All-append (λ page. list_any (is_in (page * 4096)) (pair ∷ pairs) ≡ true) (consecutive (first_page pair) (end_page pair - first_page pair)) (pages_of pairs)
    (in_first pair pairs (whole 0 pair (omega arith)))
    (λ k d within. ap (λ b. is_in (get_or (pages_of pairs) k d * 4096) pair || b) (all_available pairs (λ i e h. whole (suc i) e (omega arith)) k d within)
    ∙ or-true (is_in (get_or (pages_of pairs) k d * 4096) pair))

-- a page is wanted, mapped or a table that is dumped
abbrev is_chosen : MachineImage → ℕ → Bool
is_chosen m page = is_wanted m page || is_mapped m page || (dumps_last_tables m.arch && is_last_table m page)

dumped_here : (m : MachineImage) (page : ℕ) → is_available m (page * 4096) ≡ true → is_markable m.windows (is_chosen m) page ≡ is_dumped m (page * 4096)
unfolding is_dumped
dumped_here m page available = sym (ap (λ b. b && is_reached m.windows (page * 4096) && is_chosen m (page * 4096)) available)

dumped_from : (m : MachineImage) (pages : List ℕ) → All (λ page. is_available m (page * 4096) ≡ true) pages
    → map (is_markable m.windows (is_chosen m)) pages ≡ map (is_dumped m) (map (λ page. page * 4096) pages)
dumped_from m [] available = refl
dumped_from m (page ∷ pages) available =
    let here = dumped_here m page (available 0 0 (omega arith)) in
    let later = dumped_from m pages (λ k d h. available (suc k) d (omega arith)) in
    cc

pub marked_is_dumped : (m : MachineImage) (w : Windows) (pages : List ℕ) → IsValid m → w ≡ m.windows → pages ≡ pages_of m.avail
    → marked w (λ page. dumps_last_tables m.arch && is_last_table m page) pages (marked w (is_mapped m) pages (marked w (is_wanted m) pages (replicate (length pages) false)))
    ≡ dumped_bits m
marked_is_dumped m w pages valid is_w is_pages =
    rw (is_w, is_pages)
    (sym (marked-or m.windows (λ page. is_wanted m page || is_mapped m page) (λ page. dumps_last_tables m.arch && is_last_table m page) (pages_of m.avail) (replicate (length (pages_of m.avail)) false)
    ∙ ap (marked m.windows (λ page. dumps_last_tables m.arch && is_last_table m page) (pages_of m.avail))
    (marked-or m.windows (is_wanted m) (is_mapped m) (pages_of m.avail) (replicate (length (pages_of m.avail)) false)))
    ∙ marked-clear m.windows (is_chosen m) (pages_of m.avail)
    ∙ dumped_from m (pages_of m.avail) (all_available m.avail (pairs_of_pages m valid)))
