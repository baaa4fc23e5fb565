-- The name at a place is another exactly where the bytes there are the other's and a zero byte or the end follows.
use Rattle.std.proofs.Common.{◌≡◌, ◌≢◌, ℕ, zero, suc, ◌+◌, ◌-◌, ◌<◌, ◌≤◌, ◌==◌, ◌&&◌, nat_lt, Bool, true, false, cond, List, [], ◌∷◌, length, drop, take, slice_range, get_or, Some, None, refl, sym, ap, ◌∙◌, arith, length-drop, get_or-drop}
use Rattle.std.proofs.lemmas.Bool.Decides.{nat_tests}
use Rattle.std.specs.Str.{bytes_eq}
use Rattle.fd_bytes.specs.Label.{IsText, text_of}
use Rattle.fd_nlist.specs.Symbols.{has_name, name_at}

first_some : (x : ℕ) (xs : List ℕ) → IsText (x ∷ xs) → (x == 0) ≡ false
first_some x xs text = by_test (x == 0) text
  where
    by_test : (t : Bool) → cond t [] (x ∷ text_of xs) ≡ x ∷ xs → t ≡ false
    by_test true is = absurd (cc)
    by_test false is = refl

rest_text : (x : ℕ) (xs : List ℕ) → IsText (x ∷ xs) → IsText xs
rest_text x xs text = by_test (x == 0) text
  where
    by_test : (t : Bool) → cond t [] (x ∷ text_of xs) ≡ x ∷ xs → text_of xs ≡ xs
    by_test true is = absurd (cc)
    by_test false is = cc

and_false : (a b : Bool) → b ≡ false → (a && b) ≡ false
and_false true b is = is
and_false false b is = refl

other_byte : (x y : ℕ) → (x == 0) ≡ false → (y == 0) ≡ true → (y == x) ≡ false
other_byte x y some none = grind (arith, nat_tests)

-- where a zero byte or the end follows, the front is this text exactly where the text there is
front : (name rest : List ℕ) → IsText name → length name ≤ length rest → get_or rest (length name) 0 ≡ 0 → bytes_eq (take (length name) rest) name ≡ bytes_eq (text_of rest) name
front [] [] text fits ends = refl
front [] (y ∷ ys) text fits ends = ap (λ b. bytes_eq (cond b [] (y ∷ text_of ys)) []) (let e : true ≡ (y == 0) = grind (arith, nat_tests) in e)
front (x ∷ xs) [] text fits ends = absurd (omega arith)
front (x ∷ xs) (y ∷ ys) text fits ends = by_test (y == 0) refl (front xs ys (rest_text x xs text) (omega arith) ends)
  where
    by_test :
        (t : Bool) → (y == 0) ≡ t → bytes_eq (take (length xs) ys) xs ≡ bytes_eq (text_of ys) xs
        → ((y == x) && bytes_eq (take (length xs) ys) xs) ≡ bytes_eq (cond t [] (y ∷ text_of ys)) (x ∷ xs)
    by_test true none same = ap (λ b. b && bytes_eq (take (length xs) ys) xs) (other_byte x y (first_some x xs text) none)
    by_test false some same = ap (λ b. (y == x) && b) same

-- a text is no longer than the bytes that it stands in
longer : (name rest : List ℕ) → length rest < length name → bytes_eq (text_of rest) name ≡ false
longer [] rest short = absurd (omega arith)
longer (x ∷ xs) [] short = refl
longer (x ∷ xs) (y ∷ ys) short = by_test (y == 0) (longer xs ys (omega arith))
  where
    by_test : (t : Bool) → bytes_eq (text_of ys) xs ≡ false → bytes_eq (cond t [] (y ∷ text_of ys)) (x ∷ xs) ≡ false
    by_test true other = refl
    by_test false other = and_false (y == x) (bytes_eq (text_of ys) xs) other

-- where another byte follows, the text there is longer or another
goes_on : (name rest : List ℕ) → get_or rest (length name) 0 ≢ 0 → bytes_eq (text_of rest) name ≡ false
goes_on [] [] some = absurd (some refl)
goes_on (x ∷ xs) [] some = absurd (some refl)
goes_on [] (y ∷ ys) some = ap (λ b. bytes_eq (cond b [] (y ∷ text_of ys)) []) (let e : (y == 0) ≡ false = grind (arith, nat_tests) in e)
goes_on (x ∷ xs) (y ∷ ys) some = by_test (y == 0) (goes_on xs ys some)
  where
    by_test : (t : Bool) → bytes_eq (text_of ys) xs ≡ false → bytes_eq (cond t [] (y ∷ text_of ys)) (x ∷ xs) ≡ false
    by_test true other = refl
    by_test false other = and_false (y == x) (bytes_eq (text_of ys) xs) other

-- the same of the name at a place of the strings
by_place : (name strings : List ℕ) (place : ℕ) (t : Bool) → nat_lt place (length strings) ≡ t → (place < length strings → bytes_eq (text_of (drop place strings)) name ≡ false) → has_name name (cond t (Some (text_of (drop place strings))) None) ≡ false
by_place name strings place true inside other = other (grind (arith, nat_tests))
by_place name strings place false inside other = refl

pub name_past_end : (name strings : List ℕ) (place end : ℕ) → end ≡ place + length name → length strings < end → has_name name (name_at strings place) ≡ false
name_past_end name strings place end is past =
    by_place name strings place (nat_lt place (length strings)) refl
    (λ inside. longer name (drop place strings) (let e = length-drop place strings in omega arith))

pub name_goes_on : (name strings : List ℕ) (place end : ℕ) → end ≡ place + length name → get_or strings end 0 ≢ 0 → has_name name (name_at strings place) ≡ false
name_goes_on name strings place end is some =
    by_place name strings place (nat_lt place (length strings)) refl
    (λ inside. goes_on name (drop place strings) (λ none. some (ap (λ i. get_or strings i 0) is ∙ (sym (get_or-drop place strings (length name) 0) ∙ none))))

pub name_ends :
    (name strings : List ℕ) (place end : ℕ) → 0 < length name → IsText name → end ≡ place + length name → end ≤ length strings → get_or strings end 0 ≡ 0
    → bytes_eq (slice_range strings place end) name ≡ has_name name (name_at strings place)
name_ends name strings place end some text is fits ends =
    let inside : nat_lt place (length strings) ≡ true = grind (arith, nat_tests) in
    let size : end - place ≡ length name = omega arith in
    let room : length name ≤ length (drop place strings) = (let e = length-drop place strings in omega arith) in
    ap (λ n. bytes_eq (take n (drop place strings)) name) size
    ∙ (front name (drop place strings) text room (get_or-drop place strings (length name) 0 ∙ (ap (λ i. get_or strings i 0) (sym is) ∙ ends))
    ∙ ap (λ b. has_name name (cond b (Some (text_of (drop place strings))) None)) (sym inside))

pub nothing_past : (bytes : List ℕ) (place : ℕ) → length bytes ≤ place → get_or bytes place 0 ≡ 0
nothing_past [] place past = refl
nothing_past (x ∷ xs) zero past = absurd (omega arith)
nothing_past (x ∷ xs) (suc place) past = nothing_past xs place (omega arith)
