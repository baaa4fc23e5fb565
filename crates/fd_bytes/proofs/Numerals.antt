-- What digits are worth behind a number that was read before them, and what numeral they make.
use Rattle.std.proofs.Common.{◌≡◌, ℕ, suc, ◌+◌, ◌*◌, ◌^◌, ◌<◌, ◌≤◌, nat_lt, ◌&&◌, true, false, List, length, get_or, take, drop, None, Some, sym, ◌∙◌, ap, arith, add-one}
use Rattle.std.proofs.Math.Nat.{mul-le-mul_left, one-le-pow, pow-suc, pow-zero}
use Rattle.std.proofs.Math.Seq.{drop-cons}
use Rattle.std.proofs.lemmas.List.{drop_all, take_all}
use Rattle.std.proofs.lemmas.Bool.Decides.{nat_tests}
use Rattle.std.proofs.lemmas.List.Folds.{list_all_at, list_all_more}
use Rattle.std.specs.Char.{digit_value, is_digit}
use Rattle.std.specs.List.{list_all}
use Rattle.fd_bytes.specs.Number.{numeral, place_value}

-- the number, and then these digits
unfoldable pub worth : ℕ → ℕ → List ℕ → ℕ
worth radix value digits = value * radix ^ length digits + place_value radix digits

-- one place more counts the number before it radix times
shifted : (radix value digit n rest : ℕ) → value * radix ^ suc n + (digit * radix ^ n + rest) ≡ (value * radix + digit) * radix ^ n + rest
shifted radix value digit n rest = rw pow-suc (omega arith)

-- the next digit is taken up into the number
worth-drop : (radix value : ℕ) (digits : List ℕ) (i : ℕ) → i < length digits → worth radix (value * radix + digit_value (get_or digits i 0)) (drop (i + 1) digits) ≡ worth radix value (drop i digits)
unfolding worth
worth-drop radix value digits i inside =
    rw (add-one, drop-cons digits i 0 inside)
    (sym (shifted radix value (digit_value (get_or digits i 0)) (length (drop (suc i) digits))
    (place_value radix (drop (suc i) digits))))

-- no digit makes it smaller
worth-le : (radix value : ℕ) (digits : List ℕ) → 1 ≤ radix → value ≤ worth radix value digits
unfolding worth
worth-le radix value digits some = omega (arith, mul-le-mul_left value (one-le-pow (length digits) radix some))

-- behind a number of 0 it is what the digits are worth, and with no digit it is the number
pub worth-zero : (radix : ℕ) (digits : List ℕ) → worth radix 0 digits ≡ place_value radix digits
unfolding worth
worth-zero radix digits = omega arith

worth-all : (radix value : ℕ) (digits : List ℕ) (i : ℕ) → length digits ≤ i → worth radix value (drop i digits) ≡ value
unfolding worth
worth-all radix value digits i all = rw (drop_all i digits all, pow-zero) (omega arith)

-- why a text is no numeral
pub numeral-empty : (radix most : ℕ) (text : List ℕ) → length text ≡ 0 → numeral radix most text ≡ None
unfolding numeral
numeral-empty radix most text empty = grind (arith, nat_tests)

pub numeral-long : (radix most : ℕ) (text : List ℕ) → most < length text → numeral radix most text ≡ None
unfolding numeral
numeral-long radix most text long = grind (arith, nat_tests)

numeral-other : (radix most : ℕ) (text : List ℕ) → list_all (λ c. is_digit c radix) text ≡ false → numeral radix most text ≡ None
unfolding numeral
numeral-other radix most text other = grind (arith, nat_tests)

numeral-large : (radix most : ℕ) (text : List ℕ) → 2 ^ 64 ≤ place_value radix text → numeral radix most text ≡ None
unfolding numeral
numeral-large radix most text large = grind (arith, nat_tests)

-- and what it spells, where it is one
numeral-some : (radix most value : ℕ) (text : List ℕ) → 0 < length text → length text ≤ most →
    list_all (λ c. is_digit c radix) text ≡ true → place_value radix text ≡ value → value < 2 ^ 64 →
    numeral radix most text ≡ Some value
unfolding numeral
numeral-some radix most value text some short digits is small = grind (arith, nat_tests)

-- a byte that is no digit, a number that has grown too large on the way, and all digits read
pub numeral-other_at : (radix most : ℕ) (text : List ℕ) (i : ℕ) → i < length text → (digit_value (get_or text i 0) < radix → ⊥) → numeral radix most text ≡ None
numeral-other_at radix most text i inside other =
    numeral-other radix most text (list_all_at (λ c. is_digit c radix) text i 0 inside (not_below (digit_value (get_or text i 0)) radix other))
  where
    not_below : (a b : ℕ) → (a < b → ⊥) → nat_lt a b ≡ false
    not_below a b other = grind (arith, nat_tests)

pub numeral-over : (radix most value digit : ℕ) (text : List ℕ) (i : ℕ) → i < length text → 1 ≤ radix →
    worth radix value (drop i text) ≡ place_value radix text → digit ≡ digit_value (get_or text i 0) →
    2 ^ 64 ≤ value * radix + digit → numeral radix most text ≡ None
numeral-over radix most value digit text i inside some so_far is over =
    let next : worth radix (value * radix + digit) (drop (i + 1) text) ≡ place_value radix text =
    ap (λ d. worth radix (value * radix + d) (drop (i + 1) text)) is ∙ worth-drop radix value text i inside ∙ so_far in
    let grows : value * radix + digit ≤ worth radix (value * radix + digit) (drop (i + 1) text) = worth-le radix (value * radix + digit) (drop (i + 1) text) some in
    numeral-large radix most text (omega arith)

pub numeral-read : (radix most value : ℕ) (text : List ℕ) (i : ℕ) → 0 < length text → length text ≤ most → length text ≤ i →
    list_all (λ c. is_digit c radix) (take i text) ≡ true → worth radix value (drop i text) ≡ place_value radix text →
    value < 2 ^ 64 → numeral radix most text ≡ Some value
numeral-read radix most value text i some short all digits so_far small =
    numeral-some radix most value text some short
    (ap (λ (l : List ℕ). list_all (λ c. is_digit c radix) l) (sym (take_all i text all)) ∙ digits)
    (sym so_far ∙ worth-all radix value text i all) small

below : (a b : ℕ) → a < b → nat_lt a b ≡ true
below a b less = grind (arith, nat_tests)

-- one digit more
pub all_digits-more : (radix : ℕ) (text : List ℕ) (i : ℕ) → i < length text →
    list_all (λ c. is_digit c radix) (take i text) ≡ true → digit_value (get_or text i 0) < radix →
    list_all (λ c. is_digit c radix) (take (i + 1) text) ≡ true
all_digits-more radix text i inside digits digit =
    list_all_more (λ c. is_digit c radix) text i 0 inside
    ∙ (λ j. digits j && below (digit_value (get_or text i 0)) radix digit j)

pub worth-more : (radix value digit next : ℕ) (text : List ℕ) (i : ℕ) → i < length text →
    worth radix value (drop i text) ≡ place_value radix text → digit ≡ digit_value (get_or text i 0) →
    next ≡ value * radix + digit → worth radix next (drop (i + 1) text) ≡ place_value radix text
worth-more radix value digit next text i inside so_far is sum =
    ap (λ n. worth radix n (drop (i + 1) text)) (sum ∙ ap (λ d. value * radix + d) is) ∙ worth-drop radix value text i inside ∙ so_far

pub ruleset numeral_steps = (worth-zero, numeral-empty, numeral-long)
