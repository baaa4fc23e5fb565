-- Parts of known sizes that stand one behind the other.
use Rattle.std.proofs.Common.{◌≡◌, ℕ, zero, suc, ◌+◌, ◌<◌, List, [], ◌∷◌, ◌++◌, length, get_or, take, drop, refl, sym, ◌∙◌, ap, arith, add-zero}
use Rattle.std.proofs.Common.{append_assoc, length-append}
use Rattle.std.proofs.lemmas.List.{drop-drop, drop_at, get_or-drop, take_at}
use Rattle.std.specs.List.{concat, slice_index}

-- the parts have these sizes
abbrev pub AreSized : List ℕ → List (List ℕ) → Type 0
AreSized [] [] = Unit {0}
AreSized [] (p ∷ ps) = ⊥
AreSized (n ∷ ns) [] = ⊥
AreSized (n ∷ ns) (p ∷ ps) = (length p ≡ n) × AreSized ns ps

-- where the part of this index begins
abbrev pub start : ℕ → List ℕ → ℕ
start zero ns = 0
start (suc i) [] = 0
start (suc i) (n ∷ ns) = n + start i ns

-- a part is what stands there
pub part : (ns : List ℕ) (ps : List (List ℕ)) (rest : List ℕ) (i : ℕ) → AreSized ns ps → i < length ns → take (get_or ns i 0) (drop (start i ns) (concat ps ++ rest)) ≡ get_or ps i []
part [] ps rest i sized below = absurd (omega arith)
part (n ∷ ns) [] rest i sized below = absurd sized
part (n ∷ ns) (p ∷ ps) rest zero sized below = ap (λ (l : List ℕ). take n l) (append_assoc p (concat ps) rest) ∙ take_at p (concat ps ++ rest) n sized.0
part (n ∷ ns) (p ∷ ps) rest (suc i) sized below =
    ap (λ (l : List ℕ). take (get_or ns i 0) l)
    (ap (λ (l : List ℕ). drop (n + start i ns) l) (append_assoc p (concat ps) rest)
    ∙ sym (drop-drop (start i ns) n (p ++ (concat ps ++ rest)))
    ∙ ap (λ (l : List ℕ). drop (start i ns) l) (drop_at p (concat ps ++ rest) n sized.0))
    ∙ part ns ps rest i sized.1 (omega arith)

pub length-parts : (ns : List ℕ) (ps : List (List ℕ)) → AreSized ns ps → length (concat ps) ≡ start (length ns) ns
length-parts [] [] sized = refl
length-parts [] (p ∷ ps) sized = absurd sized
length-parts (n ∷ ns) [] sized = absurd sized
length-parts (n ∷ ns) (p ∷ ps) sized = omega (arith, length-append p (concat ps), sized.0, length-parts ns ps sized.1)

-- the one element of a part
pub element : (bytes : List ℕ) (at x : ℕ) → take 1 (drop at bytes) ≡ x ∷ [] → slice_index bytes at ≡ x
element bytes at x is = ap (λ i. slice_index bytes i) (sym (add-zero at)) ∙ sym (get_or-drop at bytes 0 0) ∙ first (drop at bytes) is
  where
    first : (l : List ℕ) → take 1 l ≡ x ∷ [] → slice_index l 0 ≡ x
    first [] is = absurd (cc)
    first (y ∷ ys) is = cc
