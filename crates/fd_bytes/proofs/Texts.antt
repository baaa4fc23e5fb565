-- Texts, their fronts, and what is cut of them.
use Rattle.std.proofs.Common.{◌≡◌, ℕ, zero, suc, ◌-◌, ◌<◌, ◌≤◌, min, Bool, true, false, cond, ◌==◌, nat_lt, inl, inr, List}
use Rattle.std.proofs.Common.{[], ◌∷◌, ◌++◌, length, take, All, refl, sym, ◌∙◌, ap, arith, length-append, length-take}
use Rattle.std.proofs.lemmas.Bool.{cases_lt}
use Rattle.std.proofs.lemmas.List.{take_all, take_min}
use Rattle.std.proofs.lemmas.List.Elements.{All-cons, All-head, All-nil, All-push, All-tail, All-take}
use Rattle.std.proofs.lemmas.Bool.Decides.{nat_tests}
use Rattle.fd_bytes.specs.Label.{IsText, cut_text, cut_version_text, text_of}

-- the text of a front is a front of the text
pub text_of-take : (k : ℕ) (bytes : List ℕ) → text_of (take k bytes) ≡ take k (text_of bytes)
text_of-take zero bytes = refl
text_of-take (suc k) [] = refl
text_of-take (suc k) (x ∷ xs) = by_test (text_of-take k xs) (x == 0)
  where
    by_test : text_of (take k xs) ≡ take k (text_of xs) → (t : Bool) → cond t [] (x ∷ text_of (take k xs)) ≡ take (suc k) (cond t [] (x ∷ text_of xs))
    by_test rest true = refl
    by_test rest false = ap (λ (l : List ℕ). x ∷ l) rest

-- what stands before the first zero byte is a text, and so is each front of it
pub IsText-text_of : (bytes : List ℕ) → IsText (text_of bytes)
IsText-text_of [] = refl
IsText-text_of (x ∷ xs) = by_test (IsText-text_of xs) (x == 0) refl
  where
    by_test : IsText (text_of xs) → (t : Bool) → t ≡ (x == 0) → text_of (cond t [] (x ∷ text_of xs)) ≡ cond t [] (x ∷ text_of xs)
    by_test rest true is = refl
    by_test rest false is = ap (λ b. cond b [] (x ∷ text_of (text_of xs))) (sym is) ∙ ap (λ (l : List ℕ). x ∷ l) rest

pub IsText-take : (k : ℕ) (bytes : List ℕ) → IsText (take k (text_of bytes))
IsText-take k bytes = text_of-take k (text_of bytes) ∙ ap (λ (l : List ℕ). take k l) (IsText-text_of bytes)

-- text before more bytes is read up to where they end
pub text_of-append : (text bytes : List ℕ) → IsText text → text_of (text ++ bytes) ≡ text ++ text_of bytes
text_of-append [] bytes is = refl
text_of-append (x ∷ xs) bytes is = by_test (text_of-append xs bytes) (x == 0) is
  where
    by_test : (IsText xs → text_of (xs ++ bytes) ≡ xs ++ text_of bytes) → (t : Bool) → cond t [] (x ∷ text_of xs) ≡ x ∷ xs → cond t [] (x ∷ text_of (xs ++ bytes)) ≡ x ∷ (xs ++ text_of bytes)
    by_test rest true none = absurd (cc)
    by_test rest false some = let tail : text_of xs ≡ xs = cc in ap (λ (l : List ℕ). x ∷ l) (rest tail)

pub IsText-push : (text : List ℕ) → IsText text → IsText (text ++ 10 ∷ [])
IsText-push text is = text_of-append text (10 ∷ []) is

pub length-text_of : (bytes : List ℕ) → length (text_of bytes) ≤ length bytes
length-text_of [] = omega arith
length-text_of (x ∷ xs) = by_test (length-text_of xs) (x == 0)
  where
    by_test : length (text_of xs) ≤ length xs → (t : Bool) → length (cond t [] (x ∷ text_of xs)) ≤ suc (length xs)
    by_test rest true = omega arith
    by_test rest false = omega (arith, rest)

-- the text in the first n bytes
pub text_in_front : (n : ℕ) (bytes text : List ℕ) (k : ℕ) → text ≡ text_of (take k bytes) → k ≡ min n (length bytes) → text ≡ take n (text_of bytes)
text_in_front n bytes text k is cut = is ∙ ap (λ i. text_of (take i bytes)) cut ∙ ap text_of (take_min n bytes) ∙ text_of-take n bytes

-- a version string that is short enough is whole, and a longer one is cut before a newline
pub cut_version_text-short : (n : ℕ) (bytes : List ℕ) → length (text_of bytes) < n → take n (text_of bytes) ≡ cut_version_text n bytes
cut_version_text-short n bytes short =
    let test : nat_lt (length (text_of bytes)) n ≡ true = grind (arith, nat_tests) in
    take_all n (text_of bytes) (omega arith) ∙ sym (ap (λ t. cond t (text_of bytes) (take (n - 2) (text_of bytes) ++ 10 ∷ [])) test)

pub cut_version_text-long : (n : ℕ) (bytes : List ℕ) → n ≤ length (text_of bytes) → cut_version_text n bytes ≡ take (n - 2) (text_of bytes) ++ 10 ∷ []
cut_version_text-long n bytes long =
    let test : nat_lt (length (text_of bytes)) n ≡ false = grind (arith, nat_tests) in
    ap (λ t. cond t (text_of bytes) (take (n - 2) (text_of bytes) ++ 10 ∷ [])) test

-- what is cut is a text that is shorter than its field
pub IsText-cut_text : (n : ℕ) (bytes : List ℕ) → IsText (cut_text n bytes)
IsText-cut_text n bytes = IsText-take (n - 1) bytes

pub length-cut_text : (n : ℕ) (bytes : List ℕ) → 0 < n → length (cut_text n bytes) < n
length-cut_text n bytes some = omega (arith, length-take {A = ℕ})

pub IsText-cut_version_text : (n : ℕ) (bytes : List ℕ) → IsText (cut_version_text n bytes)
IsText-cut_version_text n bytes = by_test (nat_lt (length (text_of bytes)) n)
  where
    by_test : (t : Bool) → IsText (cond t (text_of bytes) (take (n - 2) (text_of bytes) ++ 10 ∷ []))
    by_test true = IsText-text_of bytes
    by_test false = IsText-push (take (n - 2) (text_of bytes)) (IsText-take (n - 2) bytes)

pub length-cut_version_text : (n : ℕ) (bytes : List ℕ) → 2 ≤ n → length (cut_version_text n bytes) < n
length-cut_version_text n bytes some = elim (cases_lt (length (text_of bytes)) n) [
  | inl short ↦ omega (arith, ap length (cut_version_text-short n bytes short), length-take {A = ℕ})
  | inr long ↦ omega (arith, ap length (cut_version_text-long n bytes long), length-append (take (n - 2) (text_of bytes)) (10 ∷ []), length-take {A = ℕ})
]

-- what holds of each byte holds of each that is left
pub All-text_of : (P : ℕ → Type 0) (bytes : List ℕ) → All P bytes → All P (text_of bytes)
All-text_of P [] all = all
All-text_of P (x ∷ xs) all = by_test (All-head P x xs all) (All-text_of P xs (All-tail P x xs all)) (x == 0)
  where
    by_test : P x → All P (text_of xs) → (t : Bool) → All P (cond t [] (x ∷ text_of xs))
    by_test first rest true = All-nil P
    by_test first rest false = All-cons P x (text_of xs) first rest

pub All-cut_text : (P : ℕ → Type 0) (n : ℕ) (bytes : List ℕ) → All P bytes → All P (cut_text n bytes)
All-cut_text P n bytes all = All-take P (n - 1) (text_of bytes) (All-text_of P bytes all)

pub All-cut_version_text : (P : ℕ → Type 0) (n : ℕ) (bytes : List ℕ) → P 10 → All P bytes → All P (cut_version_text n bytes)
All-cut_version_text P n bytes newline all = by_test (nat_lt (length (text_of bytes)) n)
  where
    by_test : (t : Bool) → All P (cond t (text_of bytes) (take (n - 2) (text_of bytes) ++ 10 ∷ []))
    by_test true = All-text_of P bytes all
    by_test false = All-push P (take (n - 2) (text_of bytes)) 10 (All-take P (n - 2) (text_of bytes) (All-text_of P bytes all)) newline
