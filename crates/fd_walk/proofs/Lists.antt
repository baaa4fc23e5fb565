-- Lists that are filtered, and what a filter leaves of them.
use Rattle.std.proofs.Common.{◌≡◌, ◌∙◌, Bool, true, false, Option, Some, None, List, [], ◌∷◌, ◌++◌, refl, ap, find, inl, inr}
use Rattle.std.specs.List.{filter, flat_map, cons_option}
use Rattle.std.specs.Option.{option_map, option_to_list}
use Rattle.std.proofs.lemmas.Bool.{cases_Bool}
use Rattle.std.proofs.lemmas.List.Elements.{filter-append}

-- a filter of joined lists is the filters joined
pub filter-flat_map : {X Y : Type 0} (p : Y → Bool) (f : X → List Y) (xs : List X)
    → filter p (flat_map f xs) ≡ flat_map (λ x. filter p (f x)) xs
filter-flat_map p f [] = refl
filter-flat_map p f (x ∷ xs) =
    filter-append p (f x) (flat_map f xs) ∙ ap (λ ys. filter p (f x) ++ ys) (filter-flat_map p f xs)

-- elements that give nothing may be left out before lists are joined
pub flat_map-filter : {X Y : Type 0} (q : X → Bool) (g : X → List Y) → ((x : X) → q x ≡ false → g x ≡ [])
    → (xs : List X) → flat_map g xs ≡ flat_map g (filter q xs)
flat_map-filter q g nothing [] = refl
flat_map-filter q g nothing (x ∷ xs) =
    elim (cases_Bool (q x)) [
      | inl kept ↦ rw kept (ap (λ ys. g x ++ ys) (flat_map-filter q g nothing xs))
      | inr left_out ↦ rw (left_out, nothing x left_out) (flat_map-filter q g nothing xs)
    ]

-- the first element of a list
abbrev pub first : {X : Type 0} → List X → Option X
first [] = None
first (x ∷ xs) = Some x

-- the element found is the first that the filter keeps
pub find-filter : {X : Type 0} (p : X → Bool) (xs : List X) → find p xs ≡ first (filter p xs)
find-filter p [] = refl
find-filter p (x ∷ xs) =
    elim (cases_Bool (p x)) [ inl kept ↦ rw kept | inr left_out ↦ rw left_out (find-filter p xs) ]

pub first-option_to_list : {X : Type 0} (o : Option X) → first (option_to_list o) ≡ o
first-option_to_list None = refl
first-option_to_list (Some x) = refl

-- an element in front that passes is kept
pub filter-cons_kept : {A X : Type 0} (p : X → Bool) (make : A → X) (o : Option A) (rest : List X)
    → ((a : A) → p (make a) ≡ true)
    → filter p (cons_option (option_map make o) rest) ≡ option_to_list (option_map make o) ++ filter p rest
filter-cons_kept p make None rest passes = refl
filter-cons_kept p make (Some a) rest passes = rw (passes a)

-- an element in front that fails is left out
pub filter-cons_dropped : {A X : Type 0} (p : X → Bool) (make : A → X) (o : Option A) (rest : List X)
    → ((a : A) → p (make a) ≡ false)
    → filter p (cons_option (option_map make o) rest) ≡ filter p rest
filter-cons_dropped p make None rest fails = refl
filter-cons_dropped p make (Some a) rest fails = rw (fails a)
