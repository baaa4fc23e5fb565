-- Lists of bytes, and their words.
use Rattle.std.proofs.Common.{◌≡◌, ℕ, zero, suc, ◌<◌, ◌^◌, true, nat_lt, List, [], ◌∷◌, ◌++◌, replicate, All, arith}
use Rattle.std.proofs.lemmas.Bool.Decides.{nat_tests}
use Rattle.std.proofs.lemmas.List.Elements.{All-head, All-tail, All-weaker}
use Rattle.std.proofs.lemmas.List.Sums.{AllPass-from_list_all}
use Rattle.std.proofs.lemmas.Nat.{xor_of_32}
use Rattle.std.specs.Int.{w32, w64, from_be_bytes, to_be_bytes}
use Rattle.std.specs.List.{concat, list_all}
use Rattle.fd_kdh.specs.Parity.{words, xor_all}

-- each is a byte
abbrev pub AllBytes : List ℕ → Type 0
AllBytes [] = Unit {0}
AllBytes (x ∷ xs) = (x < 256) × AllBytes xs

-- each list is one of bytes
abbrev pub EachBytes : List (List ℕ) → Type 0
EachBytes [] = Unit {0}
EachBytes (xs ∷ xss) = AllBytes xs × EachBytes xss

pub AllBytes-from_All : (xs : List ℕ) → All (λ byte. byte < 256) xs → AllBytes xs
AllBytes-from_All [] all = tt
AllBytes-from_All (x ∷ xs) all = (All-head (λ byte. byte < 256) x xs all, AllBytes-from_All xs (All-tail (λ byte. byte < 256) x xs all))

pub AllBytes-from_test : (xs : List ℕ) → list_all (λ byte. nat_lt byte 256) xs ≡ true → AllBytes xs
AllBytes-from_test xs test =
    AllBytes-from_All xs (All-weaker (λ byte. nat_lt byte 256 ≡ true) (λ byte. byte < 256) (λ byte is. grind (arith, nat_tests)) xs
    (AllPass-from_list_all (λ byte. nat_lt byte 256) xs test))

pub AllBytes-append : (xs ys : List ℕ) → AllBytes xs → AllBytes ys → AllBytes (xs ++ ys)
AllBytes-append [] ys a b = b
AllBytes-append (x ∷ xs) ys a b = (a.0, AllBytes-append xs ys a.1 b)

pub AllBytes-concat : (xss : List (List ℕ)) → EachBytes xss → AllBytes (concat xss)
AllBytes-concat [] each = tt
AllBytes-concat (xs ∷ xss) each = AllBytes-append xs (concat xss) each.0 (AllBytes-concat xss each.1)

pub AllBytes-zeros : (n : ℕ) → AllBytes (replicate n 0)
AllBytes-zeros zero = tt
AllBytes-zeros (suc n) = (omega arith, AllBytes-zeros n)

pub AllBytes-be32 : (n : ℕ) → AllBytes (to_be_bytes w32 n)
AllBytes-be32 n = (omega arith, (omega arith, (omega arith, (omega arith, tt))))

pub AllBytes-be64 : (n : ℕ) → AllBytes (to_be_bytes w64 n)
AllBytes-be64 n = (omega arith, (omega arith, (omega arith, (omega arith, (omega arith, (omega arith, (omega arith, (omega arith, tt))))))))

-- a word of bytes has 32 bits, and so has the exclusive or of such words
word-fits : (a b c d : ℕ) → a < 256 → b < 256 → c < 256 → d < 256 → from_be_bytes w32 (a ∷ b ∷ c ∷ d ∷ []) < 2 ^ 32
word-fits a b c d p q r s = omega arith

pub xor_all-fits : (xs : List ℕ) → AllBytes xs → xor_all (words xs) < 2 ^ 32
xor_all-fits [] bytes = omega arith
xor_all-fits (a ∷ []) bytes = omega arith
xor_all-fits (a ∷ b ∷ []) bytes = omega arith
xor_all-fits (a ∷ b ∷ c ∷ []) bytes = omega arith
xor_all-fits (a ∷ b ∷ c ∷ d ∷ xs) bytes =
    xor_of_32 (from_be_bytes w32 (a ∷ b ∷ c ∷ d ∷ [])) (xor_all (words xs))
    (word-fits a b c d bytes.0 bytes.1.0 bytes.1.1.0 bytes.1.1.1.0) (xor_all-fits xs bytes.1.1.1.1)
