-- Lists that are made of numbers one after another, and their pages.
use Rattle.std.proofs.Common.{◌≡◌, ◌∙◌, ℕ, zero, suc, ◌+◌, ◌-◌, ◌*◌, ◌≤◌, List, [], ◌∷◌, ◌++◌, length, get_or, replicate, slice_range, refl}
use Rattle.std.proofs.Common.{ap, sym, arith, length-append, append-nil, mul-suc, zero-add}
use Rattle.std.specs.List.{flat_map, range_with_len}
use Rattle.std.proofs.lemmas.List.{replicate-append-replicate}
use Rattle.std.proofs.lemmas.List.Concat.{flat_map-append}
use Rattle.fd_dump.specs.Sections.{nth_page}
use Rattle.fd_dump.proofs.Stands.{Stands, range-Stands}

-- what is made of so many numbers, from this one on
abbrev pub made_of : (ℕ → List ℕ) → (first count : ℕ) → List ℕ
made_of made first count = flat_map made (range_with_len first count)

-- numbers in two parts
range_parts : (first few more : ℕ) → range_with_len first (few + more) ≡ range_with_len first few ++ range_with_len (first + few) more
range_parts first zero more = ap (λ n. range_with_len first n) (zero-add more) ∙ ap (λ n. range_with_len n more) (omega arith)
range_parts first (suc few) more =
    let e : suc few + more ≡ suc (few + more) = omega arith in
    let next : first + 1 + few ≡ first + suc few = omega arith in
    ap (λ n. range_with_len first n) e ∙ ap (λ ns. first ∷ ns) (range_parts (first + 1) few more ∙ ap (λ n. range_with_len (first + 1) few ++ range_with_len n more) next)

pub made-parts : (made : ℕ → List ℕ) (first few more : ℕ) → made_of made first (few + more) ≡ made_of made first few ++ made_of made (first + few) more
made-parts made first few more = ap (flat_map made) (range_parts first few more) ∙ flat_map-append made (range_with_len first few) (range_with_len (first + few) more)

-- of one number more
pub made-more : (made : ℕ → List ℕ) (first count : ℕ) → made_of made first (count + 1) ≡ made_of made first count ++ made (first + count)
made-more made first count = made-parts made first count 1 ∙ ap (λ l. made_of made first count ++ l) (append-nil (made (first + count)))

-- the same of what is made of later numbers
pub made-shifted : (made other : ℕ → List ℕ) (few first count : ℕ) → ((n : ℕ) → made (few + n) ≡ other n) → made_of made (few + first) count ≡ made_of other first count
made-shifted made other few first zero same = refl
made-shifted made other few first (suc count) same =
    let here = same first in
    let next : few + first + 1 ≡ few + (first + 1) = omega arith in
    let later = ap (λ n. made_of made n count) next ∙ made-shifted made other few (first + 1) count same in
    cc

-- as many bytes of each
pub length-made : (made : ℕ → List ℕ) (size : ℕ) → ((n : ℕ) → length (made n) ≡ size) → (first count : ℕ) → length (made_of made first count) ≡ size * count
length-made made size each first zero = omega arith
length-made made size each first (suc count) =
    omega (arith, length-append (made first) (made_of made (first + 1) count), each first, length-made made size each (first + 1) count, mul-suc size count)

-- zeros of each
pub made-zeros : (made : ℕ → List ℕ) (size first count : ℕ) → ((n : ℕ) → first ≤ n → made n ≡ replicate size 0) → made_of made first count ≡ replicate (size * count) 0
made-zeros made size first zero each = let none : 0 ≡ size * 0 = omega arith in ap (λ n. replicate n 0) none
made-zeros made size first (suc count) each =
    let all : size + size * count ≡ size * suc count = omega (arith, mul-suc size count) in
    ap (λ l. l ++ made_of made (first + 1) count) (each first (omega arith))
    ∙ ap (λ l. replicate size 0 ++ l) (made-zeros made size (first + 1) count (λ n above. each n (omega arith)))
    ∙ replicate-append-replicate size (size * count) 0
    ∙ ap (λ n. replicate n 0) all

-- the elements of a list by their places
pub made-listed : {X : Type 0} (f : X → List ℕ) (xs : List X) (d : X) → made_of (λ i. f (get_or xs i d)) 0 (length xs) ≡ flat_map f xs
made-listed f [] d = refl
made-listed f (x ∷ xs) d =
    ap (λ l. f x ++ l) (made-shifted (λ i. f (get_or (x ∷ xs) i d)) (λ i. f (get_or xs i d)) 1 0 (length xs) (λ n. let e : 1 + n ≡ suc n = omega arith in ap (λ i. f (get_or (x ∷ xs) i d)) e)
    ∙ made-listed f xs d)

-- a part of equal parts
pub Stands-made : (made : ℕ → List ℕ) (size : ℕ) → ((n : ℕ) → length (made n) ≡ size) → (first few count later : ℕ)
    → Stands (made_of made (first + few) count) (size * few) (made_of made first (few + (count + later)))
Stands-made made size each first few count later = record {
  front = made_of made first few;
  rest = made_of made (first + few + count) later;
  before = length-made made size each first few;
  joined = made-parts made first few (count + later) ∙ ap (λ l. made_of made first few ++ l) (made-parts made (first + few) count later);
}

-- a page, made of so many numbers
pub page-made : (made : ℕ → List ℕ) (size per total index : ℕ) → ((n : ℕ) → length (made n) ≡ size) → size * per ≡ 4096 → size * (per * index) ≡ 4096 * index → per * index + per ≤ total
    → nth_page (made_of made 0 total) index ≡ made_of made (per * index) per
page-made made size per total index each whole place within =
    let few : ℕ = per * index in
    let later : ℕ = total - (few + per) in
    let all : total ≡ few + (per + later) = omega arith in
    let first : 0 + few ≡ few = omega arith in
    ap (λ n. nth_page (made_of made 0 n) index) all
    ∙ ap (λ n. slice_range (made_of made 0 (few + (per + later))) n (n + 4096)) (sym place)
    ∙ range-Stands (made_of made (0 + few) per) (made_of made 0 (few + (per + later))) (size * few) 4096 (Stands-made made size each 0 few per later)
    (length-made made size each (0 + few) per ∙ whole)
    ∙ ap (λ n. made_of made n per) first
