-- What decimal digits spell.
use Rattle.std.proofs.Common.{◌≡◌, ℕ, ◌+◌, ◌-◌, ◌*◌, ◌<◌, ◌≤◌, ◌^◌, Bool, true, false, ◌&&◌, ◌==◌, nat_lt, nat_le, cond, List, []}
use Rattle.std.proofs.Common.{◌∷◌, length, take, drop, Some, None, Result, Ok, Err, IfOk, OnErr, codes, refl, sym, ◌∙◌, ap, arith}
use Rattle.std.proofs.lemmas.Bool.Decides.{nat_tests}
use Rattle.std.proofs.lemmas.Fmt.{decimal_is_IsNumeral, length-decimal-le}
use Rattle.std.proofs.lemmas.Str.{digit_value_digit}
use Rattle.std.proofs.lemmas.Str.Parse.{IsNumeralModel, numerals_by_weight, tells_digits}
use Rattle.std.specs.Char.{digit_value, is_digit}
use Rattle.std.specs.Fmt.{decimal}
use Rattle.std.specs.Int.{IsInRange}
use Rattle.std.specs.List.{list_all}
use Rattle.std.specs.Result.{result_unwrap_or}
use Rattle.std.specs.Str.{bytes_eq}
use Rattle.std.specs.Str.Parse.{AllDigits}
use Rattle.fd_bytes.specs.Number.{number_of, numeral, place_value}
use Rattle.fd_info.proofs.Digits.{decimal_passes}

-- digits don't begin with `0x`
not_hexadecimal : (ds : List ℕ) → list_all (λ c. is_digit c 10) ds ≡ true → bytes_eq (take 2 ds) (codes "0x") ≡ false
not_hexadecimal [] digits = refl
not_hexadecimal (a ∷ []) digits = by_test (a == 48)
  where
    by_test : (t : Bool) → (t && false) ≡ false
    by_test true = refl
    by_test false = refl
not_hexadecimal (a ∷ b ∷ ds) digits = by_test (a == 48) (b == 120) (grind (arith, nat_tests))
  where
    by_test : (s t : Bool) → t ≡ false → (s && (t && true)) ≡ false
    by_test true t other = ap (λ b. b && true) other
    by_test false t other = refl

-- so they are read as digits
pub number_of_digits : (ds : List ℕ) → list_all (λ c. is_digit c 10) ds ≡ true → number_of ds ≡ numeral 10 20 ds
unfolding number_of
number_of_digits ds digits = ap (λ t. cond t (numeral 16 16 (drop 2 ds)) (numeral 10 20 ds)) (not_hexadecimal ds digits)

place : (c : ℕ) → IsInRange 48 57 c → digit_value c ≡ c - 48
place c range = omega (arith, digit_value_digit c range)

own : IsNumeralModel (AllDigits 10) (place_value 10)
own = numerals_by_weight (AllDigits 10) tells_digits (place_value 10) (record {
  empty = refl;
  more = λ c cs range. ap (λ d. d * 10 ^ length cs + place_value 10 cs) (place c range);
})

-- a number's decimal digits spell it
pub number_of-decimal : (n : ℕ) → n < 2 ^ 64 → number_of (decimal n) ≡ Some n
unfolding numeral
number_of-decimal n small =
    let digits : list_all (λ c. is_digit c 10) (decimal n) ≡ true = decimal_passes (λ c. is_digit c 10) n small (λ c low high. grind (arith, nat_tests)) in
    let told = decimal_is_IsNumeral n small in
    let value : place_value 10 (decimal n) ≡ n = own.same (decimal n) told.0.1 ∙ told.1 in
    let some : 0 < length (decimal n) = told.0.0 in
    let short : length (decimal n) ≤ 20 = length-decimal-le 20 n (omega arith) (omega arith) small in
    number_of_digits (decimal n) digits ∙ grind (arith, nat_tests)

-- and of at most five digits it is what they spell
numeral-short : (ds : List ℕ) → length ds ≤ 5 → numeral 10 20 ds ≡ numeral 10 5 ds
unfolding numeral
numeral-short ds short =
    let most : nat_le (length ds) 20 ≡ true = grind (arith, nat_tests) in
    let least : nat_le (length ds) 5 ≡ true = grind (arith, nat_tests) in
    (λ i. cond ((nat_lt 0 (length ds) && (most ∙ sym least) i && list_all (λ c. is_digit c 10) ds) && nat_lt (place_value 10 ds) (2 ^ 64)) (Some (place_value 10 ds)) None)

pub number_of-short : (ds : List ℕ) → list_all (λ c. is_digit c 10) ds ≡ true → length ds ≤ 5 → number_of ds ≡ numeral 10 5 ds
number_of-short ds digits short = number_of_digits ds digits ∙ numeral-short ds short

-- other texts spell no number of five digits
pub numeral_other : (ds : List ℕ) → list_all (λ c. is_digit c 10) ds ≡ false → numeral 10 5 ds ≡ None
unfolding numeral
numeral_other ds other = grind (arith, nat_tests)

pub numeral_long : (ds : List ℕ) → 5 < length ds → numeral 10 5 ds ≡ None
unfolding numeral
numeral_long ds long = grind (arith, nat_tests)

pub ruleset five_digits = (number_of-short, numeral_other, numeral_long)

-- a number that is read from its digits
pub read_decimal : {E : Type 0} (r : Result ℕ E) (text : List ℕ) (n : ℕ) → IfOk r (λ v. number_of text ≡ Some v) → OnErr r (number_of text ≡ None) → text ≡ decimal n → n < 2 ^ 64
    → result_unwrap_or r 0 ≡ n
read_decimal (Ok v) text n ok err is small =
    let both : Some v ≡ Some n = sym ok ∙ ap number_of is ∙ number_of-decimal n small in
    cc
read_decimal (Err e) text n ok err is small =
    let both : None ≡ Some n = sym err ∙ ap number_of is ∙ number_of-decimal n small in
    absurd (cc)
