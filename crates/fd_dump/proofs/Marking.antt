-- Bits that are set for the pages that pass a test.
use Rattle.std.proofs.Common.{◌≡◌, ◌∙◌, ℕ, suc, ◌+◌, ◌-◌, ◌*◌, ◌/◌, ◌%◌, ◌<◌, ◌≤◌, ◌^◌, min, max, Bool, true, false, ◌&&◌, ◌||◌, List, []}
use Rattle.std.proofs.Common.{◌∷◌, length, get_or, drop, map, replicate, refl, ap, sym, arith, inl, inr, add-one, drop-cons}
use Rattle.std.specs.Prelude.{◌==◌}
use Rattle.std.specs.Int.{div_ceil}
use Rattle.std.specs.List.{list_any}
use Rattle.std.proofs.lemmas.List.{drop_all}
use Rattle.std.proofs.lemmas.Bool.{ne_eqb}
use Rattle.std.proofs.lemmas.Bool.Decides.{eqb_tells, nat_tests}
use Rattle.fd_bitmap.specs.Pages.{is_among, joined}
use Rattle.fd_image.specs.declared.parts.Windows.{Windows}
use Rattle.fd_image.specs.Image.{direct_map_end}
use Rattle.fd_walk.specs.declared.leaf.Leaf.{Leaf}
use Rattle.fd_dump.specs.Dumped.{is_reached, is_under_leaf}
use Rattle.fd_dump.specs.Marks.{is_markable, marked}

-- tests that agree set the same bits
joined-same : (test other : ℕ → Bool) (pages : List ℕ) (bits : List Bool) → ((page : ℕ) → test page ≡ other page) → joined test pages bits ≡ joined other pages bits
joined-same test other [] bits same = refl
joined-same test other (page ∷ pages) [] same = refl
joined-same test other (page ∷ pages) (bit ∷ bits) same =
    let here = same page in
    let later = joined-same test other pages bits same in
    cc

or-false : (b : Bool) → (b || false) ≡ b
or-false true = refl
or-false false = refl

or_swap : (a b c : Bool) → ((a || b) || c) ≡ (a || (c || b))
or_swap true b c = refl
or_swap false true true = refl
or_swap false true false = refl
or_swap false false true = refl
or_swap false false false = refl

-- a test that no page passes sets no bit
joined-none : (test : ℕ → Bool) (pages : List ℕ) (bits : List Bool) → ((k : ℕ) → k < length pages → test (get_or pages k 0) ≡ false) → joined test pages bits ≡ bits
joined-none test [] bits none = refl
joined-none test (page ∷ pages) [] none = refl
joined-none test (page ∷ pages) (bit ∷ bits) none =
    let here : (bit || test page) ≡ bit = ap (λ b. bit || b) (none 0 (omega arith)) ∙ or-false bit in
    let later : joined test pages bits ≡ bits = joined-none test pages bits (λ k h. none (suc k) (omega arith)) in
    cc

-- one test after another
joined-twice : (test other : ℕ → Bool) (pages : List ℕ) (bits : List Bool)
    → joined other pages (joined test pages bits) ≡ joined (λ page. other page || test page) pages bits
joined-twice test other [] bits = refl
joined-twice test other (page ∷ pages) [] = refl
joined-twice test other (page ∷ pages) (bit ∷ bits) =
    let here = or_swap bit (test page) (other page) in
    let later = joined-twice test other pages bits in
    cc

and-false : (b : Bool) → (b && false) ≡ false
and-false true = refl
and-false false = refl

-- a test that no page passes which the direct map reaches
pub marked-none : (w : Windows) (test : ℕ → Bool) (pages : List ℕ) (bits : List Bool) → ((page : ℕ) → is_markable w test page ≡ false) → bits ≡ marked w test pages bits
unfolding marked
marked-none w test pages bits none = sym (joined-none (is_markable w test) pages bits (λ k h. none (get_or pages k 0)))

pub marked-ragged : (w : Windows) (pa : ℕ) (pages : List ℕ) (bits : List Bool) → (pa % 4096 ≡ 0 → ⊥) → bits ≡ marked w (λ address. pa == address) pages bits
marked-ragged w pa pages bits ragged = marked-none w (λ address. pa == address) pages bits
    (λ page. ap (λ b. is_reached w (page * 4096) && b) (ne_eqb pa (page * 4096) (λ e. ragged (omega arith))) ∙ and-false (is_reached w (page * 4096)))

pub marked-unreached : (w : Windows) (pa : ℕ) (pages : List ℕ) (bits : List Bool) → is_reached w pa ≡ false → bits ≡ marked w (λ address. pa == address) pages bits
marked-unreached w pa pages bits unreached = marked-none w (λ address. pa == address) pages bits
    (λ page. elim (eqb_tells pa (page * 4096)) [
      | inl same ↦ ap (λ b. b && (pa == page * 4096)) (ap (is_reached w) (sym same.1) ∙ unreached)
      | inr other ↦ ap (λ b. is_reached w (page * 4096) && b) other.0 ∙ and-false (is_reached w (page * 4096))
    ])

split_test : (reached here later : Bool) → (reached && (here || later)) ≡ ((reached && later) || (reached && here))
split_test false here later = refl
split_test true true true = refl
split_test true true false = refl
split_test true false true = refl
split_test true false false = refl

pub marked-or : (w : Windows) (test other : ℕ → Bool) (pages : List ℕ) (bits : List Bool)
    → marked w (λ address. test address || other address) pages bits ≡ marked w other pages (marked w test pages bits)
unfolding marked
marked-or w test other pages bits =
    joined-same (is_markable w (λ address. test address || other address)) (λ page. is_markable w other page || is_markable w test page) pages bits
    (λ page. split_test (is_reached w (page * 4096)) (test (page * 4096)) (other (page * 4096)))
    ∙ sym (joined-twice (is_markable w test) (is_markable w other) pages bits)

-- by the first of a list, and then by the others
pub marked-each : {X : Type 0} (w : Windows) (names : ℕ → X → Bool) (x : X) (xs : List X) (pages : List ℕ) (bits : List Bool)
    → marked w (λ address. list_any (names address) (x ∷ xs)) pages bits
    ≡ marked w (λ address. list_any (names address) xs) pages (marked w (λ address. names address x) pages bits)
marked-each w names x xs pages bits = marked-or w (λ address. names address x) (λ address. list_any (names address) xs) pages bits

pub marked-empty : {X : Type 0} (w : Windows) (names : ℕ → X → Bool) (pages : List ℕ) (bits : List Bool)
    → marked w (λ address. list_any (names address) []) pages bits ≡ bits
marked-empty {X = X} w names pages bits = sym (marked-none w (λ address. list_any (names address) []) pages bits (λ page. and-false (is_reached w (page * 4096))))

-- no bit was set before
joined-clear : (test : ℕ → Bool) (pages : List ℕ) → joined test pages (replicate (length pages) false) ≡ map test pages
joined-clear test [] = refl
joined-clear test (page ∷ pages) = ap (λ later. test page ∷ later) (joined-clear test pages)

pub marked-clear : (w : Windows) (test : ℕ → Bool) (pages : List ℕ) → marked w test pages (replicate (length pages) false) ≡ map (is_markable w test) pages
unfolding marked
marked-clear w test pages = joined-clear (is_markable w test) pages

-- by the item at a place of a list, and then by the later ones
pub marked-next : {X : Type 0} (w : Windows) (names : ℕ → X → Bool) (xs : List X) (i : ℕ) (d : X) (pages : List ℕ) (bits : List Bool) → i < length xs
    → marked w (λ address. list_any (names address) (drop i xs)) pages bits
    ≡ marked w (λ address. list_any (names address) (drop (i + 1) xs)) pages (marked w (λ address. names address (get_or xs i d)) pages bits)
marked-next {X = X} w names xs i d pages bits within =
    let parts : drop i xs ≡ get_or xs i d ∷ drop (i + 1) xs = drop-cons xs i d within ∙ ap (λ n. get_or xs i d ∷ drop n xs) (sym (add-one i)) in
    ap (λ ys. marked w (λ address. list_any (names address) ys) pages bits) parts
    ∙ marked-each w names (get_or xs i d) (drop (i + 1) xs) pages bits

pub marked-past : {X : Type 0} (w : Windows) (names : ℕ → X → Bool) (xs : List X) (i : ℕ) (pages : List ℕ) (bits : List Bool) → length xs ≤ i
    → marked w (λ address. list_any (names address) (drop i xs)) pages bits ≡ bits
marked-past w names xs i pages bits past =
    ap (λ ys. marked w (λ address. list_any (names address) ys) pages bits) (drop_all i xs past) ∙ marked-empty w names pages bits

-- the page of an address that the direct map reaches
pub marked-page : (w : Windows) (pa : ℕ) (pages : List ℕ) (bits : List Bool) → pa % 4096 ≡ 0 → is_reached w pa ≡ true
    → joined (is_among (pa / 4096) (pa / 4096 + 1)) pages bits ≡ marked w (λ address. pa == address) pages bits
unfolding marked
marked-page w pa pages bits aligned reached = joined-same (is_among (pa / 4096) (pa / 4096 + 1)) (is_markable w (λ address. pa == address)) pages bits here
  where
    here : (page : ℕ) → is_among (pa / 4096) (pa / 4096 + 1) page ≡ is_markable w (λ address. pa == address) page
    here page = grind (arith, nat_tests)

-- the pages that a leaf maps and the direct map reaches
pub marked-leaf : (w : Windows) (leaf : Leaf) (start end first last : ℕ) (pages : List ℕ) (bits : List Bool)
    → start ≡ max leaf.pa w.dmapphys → end ≡ min (min (leaf.pa + leaf.size) (2 ^ 64 - 1)) (direct_map_end w) → direct_map_end w ≤ 2 ^ 56
    → first ≡ div_ceil start 4096 → last ≡ div_ceil end 4096
    → joined (is_among first last) pages bits ≡ marked w (λ address. is_under_leaf address leaf) pages bits
unfolding marked
marked-leaf w leaf start end first last pages bits is_start is_end low is_first is_last =
    joined-same (is_among first last) (is_markable w (λ address. is_under_leaf address leaf)) pages bits here
  where
    here : (page : ℕ) → is_among first last page ≡ is_markable w (λ address. is_under_leaf address leaf) page
    here page = grind (arith, nat_tests)

pub ruleset marks = (marked-page, marked-ragged, marked-unreached)

pub ruleset loops = (marked-next, marked-past)

-- no page is marked where none is to be
pub marked-unless : (w : Windows) (dumps : Bool) (test : ℕ → Bool) (pages : List ℕ) (bits : List Bool) → dumps ≡ false → bits ≡ marked w (λ address. dumps && test address) pages bits
marked-unless w dumps test pages bits not_dumped = marked-none w (λ address. dumps && test address) pages bits
    (λ page. rw not_dumped (and-false (is_reached w (page * 4096))))

pub marked-when : (w : Windows) (dumps : Bool) (test : ℕ → Bool) (pages : List ℕ) (bits : List Bool) → dumps ≡ true → marked w (λ address. dumps && test address) pages bits ≡ marked w test pages bits
marked-when w dumps test pages bits dumped = ap (λ b. marked w (λ address. b && test address) pages bits) dumped

pub ruleset clear = (marked-unless, marked-when)
