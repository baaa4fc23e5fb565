-- What is written behind a file's bytes, piece after piece.
use Rattle.std.proofs.Common.{◌≡◌, ℕ, ◌+◌, ◌<◌, ◌≤◌, ◌^◌, List, [], ◌∷◌, ◌++◌, length, take, drop, get_or, Option, IsSome, Result}
use Rattle.std.proofs.Common.{Ok, Err, IfOk, OnErr, OnOk, refl, sym, subst, ◌∙◌, ap, append_assoc, arith, length-append}
use Rattle.std.specs.List.{flat_map}
use Rattle.std.proofs.lemmas.List.{append-nil, take-append-drop, take_more}
use Rattle.std.proofs.lemmas.List.Concat.{flat_map-append}
use Rattle.fd_site.specs.Contents.{Adds, Contents, IsFailedFile, Told, file_of, with_entries}
use Rattle.fd_site.specs.FileJournal.{IsBegunFile, IsWrittenFile}
use Rattle.fd_site.specs.Journal.{Write}
use Rattle.fd_site.proofs.FileJournals.{adds_begun_at_write, adds_written_more, told_there}
use Rattle.fd_site.specs.Writing.{BeginsOn, IsWrittenTo, WritesOn}

-- One more item.
pub flat_map_push : {X : Type 0} (f : X → List ℕ) (xs : List X) (x : X) (done : List ℕ) → flat_map f xs ≡ done → flat_map f (xs ++ x ∷ []) ≡ done ++ f x
flat_map_push f xs x done is = flat_map-append f xs (x ∷ []) ∙ (ap (λ (l : List ℕ). flat_map f xs ++ l) (append-nil (f x)) ∙ ap (λ (l : List ℕ). l ++ f x) is)

pub on_err : {T E P : Type 0} (r : Result T E) → P → OnErr r P
on_err (Ok x) p = tt
on_err (Err e) p = p

pub when_ok : {T E P Q : Type 0} (r : Result T E) → OnOk r P → (P → Q) → OnOk r Q
when_ok (Ok x) p step = step p
when_ok (Err e) p step = tt

pub when_err : {T E P Q : Type 0} (r : Result T E) → OnErr r P → (P → Q) → OnErr r Q
when_err (Ok x) p step = tt
when_err (Err e) p step = step p

pub if_ok : {T E : Type 0} (P Q : T → Type 0) (r : Result T E) → IfOk r P → ((x : T) → P x → Q x) → IfOk r Q
if_ok P Q (Ok x) p step = step x p
if_ok P Q (Err e) p step = tt

-- Items that are written in turn.
pub items_split : {X : Type 0} (f : X → List ℕ) (xs : List X) (n : ℕ) → flat_map f xs ≡ flat_map f (take n xs) ++ flat_map f (drop n xs)
items_split f xs n = ap (flat_map f) (sym (take-append-drop n xs)) ∙ flat_map-append f (take n xs) (drop n xs)

pub items_more : {X : Type 0} (f : X → List ℕ) (xs : List X) (i : ℕ) (d : X) → i < length xs → flat_map f (take (i + 1) xs) ≡ flat_map f (take i xs) ++ f (get_or xs i d)
items_more f xs i d within = ap (flat_map f) (take_more xs i d within) ∙ flat_map_push f (take i xs) (get_or xs i d) (flat_map f (take i xs)) refl

-- the first items take no more bytes than all
pub items_within : {X : Type 0} (f : X → List ℕ) (xs : List X) (n : ℕ) → length (flat_map f (take n xs)) ≤ length (flat_map f xs)
items_within f xs n =
    let split : length (flat_map f xs) ≡ length (flat_map f (take n xs) ++ flat_map f (drop n xs)) = ap length (items_split f xs n) in
    omega (arith, split, length-append (flat_map f (take n xs)) (flat_map f (drop n xs)))

module _ (name : List ℕ) where
  pub is_there : (at : ℕ) (told : Option Contents) → IsWrittenTo name at told → Told told (λ c. IsSome (file_of c name))
  is_there at told w = told_there name w.front w.base told w.made

  pub written_to : (at end : ℕ) (bytes : List ℕ) (old new : Option Contents) → IsWrittenTo name at old → WritesOn name at bytes old new → end ≡ at + length bytes → IsWrittenTo name end new
  written_to at end bytes old new w writes place = record {
    base = w.base;
    front = w.front ++ bytes;
    place = omega (arith, place, w.place, length-append w.front bytes);
    made = writes.written w.base w.front w.place w.made;
  }

  pub writes_nothing : (at : ℕ) (told : Option Contents) → WritesOn name at [] told told
  writes_nothing at told = record { written = λ base front place made. subst (λ (l : List ℕ). Adds (IsWrittenFile name l) base told) (sym (append-nil front)) made }

  pub writes_piece : (at : ℕ) (piece : List ℕ) (old new : Option Contents) → new ≡ with_entries old (Write name at piece ∷ []) → WritesOn name at piece old new
  writes_piece at piece old new told = record { written = λ base front place made. adds_written_more name base old new front piece at place made told }

  pub begins_piece : (at : ℕ) (piece : List ℕ) (old new : Option Contents) → Adds (IsFailedFile name) old new → BeginsOn name at piece old new
  begins_piece at piece old new failed = record { begun = λ base front rest place made. adds_begun_at_write name base old new front (piece ++ rest) made failed }

  module _ (at mid : ℕ) (xs ys : List ℕ) (a b c : Option Contents) (place : mid ≡ at + length xs) where
    pub writes_then : WritesOn name at xs a b → WritesOn name mid ys b c → WritesOn name at (xs ++ ys) a c
    writes_then first second = record {
      written =
          λ base front is made. subst (λ (l : List ℕ). Adds (IsWrittenFile name l) base c) (append_assoc front xs ys)
          (second.written base (front ++ xs) (omega (arith, place, is, length-append front xs)) (first.written base front is made));
    }

    pub begins_then : WritesOn name at xs a b → BeginsOn name mid ys b c → BeginsOn name at (xs ++ ys) a c
    begins_then first second = record {
      begun =
          λ base front rest is made. subst (λ (l : List ℕ). Adds (IsBegunFile name l) base c)
          (append_assoc front xs (ys ++ rest) ∙ ap (λ (l : List ℕ). front ++ l) (sym (append_assoc xs ys rest)))
          (second.begun base (front ++ xs) rest (omega (arith, place, is, length-append front xs)) (first.written base front is made));
    }

  pub begins_first : (at : ℕ) (xs ys : List ℕ) (a b : Option Contents) → BeginsOn name at xs a b → BeginsOn name at (xs ++ ys) a b
  begins_first at xs ys a b first = record {
    begun =
        λ base front rest is made. subst (λ (l : List ℕ). Adds (IsBegunFile name (front ++ l)) base b) (sym (append_assoc xs ys rest))
        (first.begun base front (ys ++ rest) is made);
  }

-- An item of a list, written behind those before it.
module _ (name : List ℕ) {X : Type 0} (f : X → List ℕ) (xs : List X) (i : ℕ) (x : X) (at next : ℕ) (within : i < length xs) (is : x ≡ get_or xs i x)
    (place : next ≡ at + length (flat_map f (take i xs))) where
  more : flat_map f (take i xs) ++ f x ≡ flat_map f (take (i + 1) xs)
  more = ap (λ y. flat_map f (take i xs) ++ f y) is ∙ sym (items_more f xs i x within)

  longer : length (flat_map f (take (i + 1) xs)) ≡ length (flat_map f (take i xs)) + length (f x)
  longer = sym (ap length more) ∙ length-append (flat_map f (take i xs)) (f x)

  pub item_fits : at + length (flat_map f xs) < 2 ^ 64 → next + length (f x) < 2 ^ 64
  item_fits fits = omega (arith, fits, place, longer, items_within f xs (i + 1))

  pub item_ends : (end : ℕ) → end ≡ next + length (f x) → end ≡ at + length (flat_map f (take (i + 1) xs))
  item_ends end behind = omega (arith, behind, place, longer)

  module _ (a b c : Option Contents) (before : WritesOn name at (flat_map f (take i xs)) a b) where
    pub item_written : WritesOn name next (f x) b c → WritesOn name at (flat_map f (take (i + 1) xs)) a c
    item_written here = subst (λ (l : List ℕ). WritesOn name at l a c) more (writes_then name at next (flat_map f (take i xs)) (f x) a b c place before here)

    pub item_begun : BeginsOn name next (f x) b c → BeginsOn name at (flat_map f xs) a c
    item_begun here = subst (λ (l : List ℕ). BeginsOn name at l a c) (sym (items_split f xs (i + 1)))
        (begins_first name at (flat_map f (take (i + 1) xs)) (flat_map f (drop (i + 1) xs)) a c
        (subst (λ (l : List ℕ). BeginsOn name at l a c) more (begins_then name at next (flat_map f (take i xs)) (f x) a b c place before here)))
