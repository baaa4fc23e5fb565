-- Where a line ends.
use Rattle.std.proofs.Common.{◌≡◌, ℕ, ◌+◌, ◌-◌, ◌<◌, ◌≤◌, ◌^◌, true, not, ◌==◌, cond, nat_lt, List, [], ◌∷◌, ◌++◌, length, position, take, drop, Some, None, refl, sym, ◌∙◌, ap, arith, length-append}
use Rattle.std.proofs.lemmas.Bool.Decides.{nat_tests}
use Rattle.std.proofs.lemmas.List.{append_assoc, drop_at, take_at, take_rest}
use Rattle.std.specs.Fmt.{decimal}
use Rattle.std.specs.List.{prefix_len}
use Rattle.fd_info.specs.Lines.{IsOneLine}
use Rattle.fd_info.proofs.Digits.{decimal_passes}

-- a newline is first where the line ends
before_newline : (value rest : List ℕ) → IsOneLine value → prefix_len (λ byte. not (byte == 10)) (value ++ 10 ∷ rest) ≡ length value
before_newline [] rest one = refl
before_newline (x ∷ xs) rest one =
    let first : not (x == 10) ≡ true = grind (arith, nat_tests) in
    let others : IsOneLine xs = grind (arith, nat_tests) in
    ap (λ t. cond t (1 + prefix_len (λ byte. not (byte == 10)) (xs ++ 10 ∷ rest)) 0) first ∙ omega (arith, before_newline xs rest others)

pub newline_place : (value rest : List ℕ) → IsOneLine value → position (λ byte. byte == 10) (value ++ 10 ∷ rest) ≡ Some (length value)
newline_place value rest one =
    let place = before_newline value rest one in
    let inside : nat_lt (length value) (length (value ++ 10 ∷ rest)) ≡ true = grind (arith, nat_tests, length-append value (10 ∷ rest)) in
    ap (λ n. cond (nat_lt n (length (value ++ 10 ∷ rest))) (Some n) None) place ∙ ap (λ t. cond t (Some (length value)) None) inside

end_is : (text value rest : List ℕ) (end : ℕ) → IsOneLine value → text ≡ value ++ 10 ∷ rest → Some end ≡ position (λ byte. byte == 10) text → end ≡ length value
end_is text value rest end one is ends =
    let both : Some end ≡ Some (length value) = ends ∙ ap (λ (l : List ℕ). position (λ byte. byte == 10) l) is ∙ newline_place value rest one in
    cc

-- numbers are one line
pub decimal_one_line : (n : ℕ) → n < 2 ^ 64 → IsOneLine (decimal n)
decimal_one_line n small = decimal_passes (λ byte. not (byte == 10)) n small (λ c low high. grind (arith, nat_tests))

-- a line's value and what is behind it, where the line ends
pub value_cut : (text value rest : List ℕ) (end : ℕ) → IsOneLine value → text ≡ value ++ 10 ∷ rest → Some end ≡ position (λ byte. byte == 10) text → take end text ≡ value
value_cut text value rest end one is ends =
    let place : end ≡ length value = end_is text value rest end one is ends in
    (λ i. take (place i) (is i)) ∙ take_at value (10 ∷ rest) (length value) refl

pub rest_cut : (text value rest : List ℕ) (end : ℕ) → IsOneLine value → text ≡ value ++ 10 ∷ rest → Some end ≡ position (λ byte. byte == 10) text
    → take (length text - (end + 1)) (drop (end + 1) text) ≡ rest
rest_cut text value rest end one is ends =
    let place : end + 1 ≡ length (value ++ 10 ∷ []) = omega (arith, end_is text value rest end one is ends, length-append value (10 ∷ [])) in
    take_rest text (end + 1)
    ∙ (λ i. drop (place i) (is i))
    ∙ ap (λ (l : List ℕ). drop (length (value ++ 10 ∷ [])) l) (sym (append_assoc value (10 ∷ []) rest))
    ∙ drop_at (value ++ 10 ∷ []) rest (length (value ++ 10 ∷ [])) refl

pub line_ends : (text value rest : List ℕ) → IsOneLine value → text ≡ value ++ 10 ∷ rest → None ≡ position (λ byte. byte == 10) text → ⊥
line_ends text value rest one is none =
    let both : None ≡ Some (length value) = none ∙ ap (λ (l : List ℕ). position (λ byte. byte == 10) l) is ∙ newline_place value rest one in
    absurd (cc)

-- behind a key
pub key_behind : (text key rest : List ℕ) → text ≡ key ++ rest → take (length text - length key) (drop (length key) text) ≡ rest
key_behind text key rest is = take_rest text (length key) ∙ ap (λ (l : List ℕ). drop (length key) l) is ∙ drop_at key rest (length key) refl

pub key_shorter : (text key rest : List ℕ) → text ≡ key ++ rest → length key ≤ length text
key_shorter text key rest is = omega (arith, ap length is, length-append key rest)
