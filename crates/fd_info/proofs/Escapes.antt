-- How bytes are spelled in a text, and what a spelling says.
use Rattle.std.proofs.Common.{◌≡◌, ℕ, suc, ◌+◌, ◌*◌, ◌/◌, ◌%◌, ◌<◌, ◌≤◌, ◌^◌, Bool, true, false, inl, inr, ◌&&◌, not, ◌==◌}
use Rattle.std.proofs.Common.{cond, List, [], ◌∷◌, ◌++◌, length, get_or, take, drop, All, refl, sym, ◌∙◌, ap, arith}
use Rattle.std.proofs.lemmas.Bool.{cases_lt}
use Rattle.std.proofs.lemmas.Bool.Decides.{nat_tests}
use Rattle.std.proofs.lemmas.List.{drop_all, drop_more, get_or_past, take_all}
use Rattle.std.proofs.lemmas.List.Elements.{All-head, All-tail}
use Rattle.std.proofs.lemmas.List.Folds.{list_all-append}
use Rattle.std.specs.Fmt.{digit_glyph}
use Rattle.std.specs.List.{list_all, flat_map}
use Rattle.fd_bytes.specs.Label.{IsText, cut_text, text_of}
use Rattle.fd_bytes.specs.Printed.{hex}
use Rattle.fd_info.specs.Info.{IsDevice, IsLabel, escaped, escaped_byte, is_printable, word_digits}
use Rattle.fd_info.specs.Lines.{IsOneLine}
use Rattle.fd_info.proofs.Digits.{glyph_from, hex_two}

-- a byte with a glyph stands for itself, and any other is spelled
pub plain_byte : (byte : ℕ) → (is_printable byte && not (byte == 92)) ≡ true → escaped_byte byte ≡ byte ∷ []
plain_byte byte plain = ap (λ t. cond t (byte ∷ []) (92 ∷ 120 ∷ hex 2 byte)) plain

pub spelled_byte : (byte : ℕ) → byte < 256 → (is_printable byte && not (byte == 92)) ≡ false
    → escaped_byte byte ≡ 92 ∷ 120 ∷ digit_glyph false (byte / 16) ∷ digit_glyph false (byte % 16) ∷ []
spelled_byte byte small spelled =
    ap (λ t. cond t (byte ∷ []) (92 ∷ 120 ∷ hex 2 byte)) spelled ∙ ap (λ (l : List ℕ). 92 ∷ 120 ∷ l) (hex_two byte small)

-- no spelling has a newline
glyph_line : (d : ℕ) → not (digit_glyph false d == 10) ≡ true
glyph_line d = grind (arith, nat_tests, glyph_from d)

hex_one_line : (byte : ℕ) → byte < 256 → IsOneLine (hex 2 byte)
hex_one_line byte small = ap (λ (l : List ℕ). list_all (λ b. not (b == 10)) l) (hex_two byte small) ∙ (λ i. glyph_line (byte / 16) i && (glyph_line (byte % 16) i && true))

byte_one_line : (byte : ℕ) → byte < 256 → IsOneLine (escaped_byte byte)
byte_one_line byte small = by_test (is_printable byte && not (byte == 92)) refl
  where
    by_test : (t : Bool) → (is_printable byte && not (byte == 92)) ≡ t → IsOneLine (cond t (byte ∷ []) (92 ∷ 120 ∷ hex 2 byte))
    by_test true plain = grind (arith, nat_tests)
    by_test false spelled = hex_one_line byte small

both_lines : (front rest : List ℕ) → IsOneLine front → IsOneLine rest → IsOneLine (front ++ rest)
both_lines front rest a b = list_all-append (λ byte. not (byte == 10)) front rest ∙ (λ i. a i && b i)

pub escaped_one_line : (text : List ℕ) → All (λ byte. byte < 256) text → IsOneLine (escaped text)
escaped_one_line [] bytes = refl
escaped_one_line (x ∷ xs) bytes =
    both_lines (escaped_byte x) (escaped xs) (byte_one_line x (All-head (λ byte. byte < 256) x xs bytes)) (escaped_one_line xs (All-tail (λ byte. byte < 256) x xs bytes))

pub printable_one_line : (text : List ℕ) → All (λ byte. is_printable byte ≡ true) text → IsOneLine text
printable_one_line [] printable = refl
printable_one_line (x ∷ xs) printable =
    let glyph : is_printable x ≡ true = All-head (λ byte. is_printable byte ≡ true) x xs printable in
    let first : not (x == 10) ≡ true = grind (arith, nat_tests) in
    (λ i. first i && printable_one_line xs (All-tail (λ byte. is_printable byte ≡ true) x xs printable) i)

-- and a printable text is a text
pub printable_is_text : (text : List ℕ) → All (λ byte. is_printable byte ≡ true) text → IsText text
printable_is_text [] printable = refl
printable_is_text (x ∷ xs) printable =
    let glyph : is_printable x ≡ true = All-head (λ byte. is_printable byte ≡ true) x xs printable in
    let some : (x == 0) ≡ false = grind (arith, nat_tests) in
    ap (λ t. cond t [] (x ∷ text_of xs)) some ∙ ap (λ (l : List ℕ). x ∷ l) (printable_is_text xs (All-tail (λ byte. is_printable byte ≡ true) x xs printable))

-- a spelling is at most four bytes
pub length-escaped_byte : (byte : ℕ) → byte < 256 → length (escaped_byte byte) ≤ 4
length-escaped_byte byte small = by_test (is_printable byte && not (byte == 92))
  where
    by_test : (t : Bool) → length (cond t (byte ∷ []) (92 ∷ 120 ∷ hex 2 byte)) ≤ 4
    by_test true = omega arith
    by_test false = omega (arith, ap length (hex_two byte small))

-- a field that agrees with a text as far as it goes, and is zero behind it, has this text
pub text_in_field : (field text : List ℕ) → IsText text → length text ≤ length field → ((k : ℕ) → k < length field → get_or field k 0 ≡ get_or text k 0) → text_of field ≡ text
text_in_field [] [] is short same = refl
text_in_field [] (t ∷ ts) is short same = absurd (omega arith)
text_in_field (f ∷ fs) [] is short same =
    let zero : f ≡ 0 = same 0 (omega arith) in
    let test : (f == 0) ≡ true = grind (arith, nat_tests) in
    ap (λ b. cond b [] (f ∷ text_of fs)) test
text_in_field (f ∷ fs) (t ∷ ts) is short same =
    by_test (λ tail. text_in_field fs ts tail (omega arith) (λ k inside. same (suc k) (omega arith))) (t == 0) refl is
  where
    by_test : (IsText ts → text_of fs ≡ ts) → (b : Bool) → (t == 0) ≡ b → cond b [] (t ∷ text_of ts) ≡ t ∷ ts → text_of (f ∷ fs) ≡ t ∷ ts
    by_test rest true zero none = absurd (cc)
    by_test rest false some more =
        let tail : text_of ts ≡ ts = cc in
        let head : f ≡ t = same 0 (omega arith) in
        let test : (f == 0) ≡ false = ap (λ n. n == 0) head ∙ some in
        ap (λ b. cond b [] (f ∷ text_of fs)) test ∙ (λ i. head i ∷ rest tail i)

-- what stands in a spelling that begins with the backslash
pub record IsSpelled (byte : ℕ) (spelling rest : List ℕ) : Type 0 where
  pub high : get_or spelling 2 0 ≡ digit_glyph false (byte / 16)
  pub low : get_or spelling 3 0 ≡ digit_glyph false (byte % 16)
  pub behind : drop 4 spelling ≡ rest

backslash : (b : ℕ) → b ≡ 92 → (is_printable b && not (b == 92)) ≡ true → ⊥
backslash b is plain = grind (arith, nat_tests)

pub spelled : (byte : ℕ) (spelling rest : List ℕ) → byte < 256 → spelling ≡ escaped_byte byte ++ rest → get_or spelling 0 0 ≡ 92 → IsSpelled byte spelling rest
spelled byte spelling rest small is slash = by_test (is_printable byte && not (byte == 92)) refl
  where
    by_test : (t : Bool) → (is_printable byte && not (byte == 92)) ≡ t → IsSpelled byte spelling rest
    by_test true plain =
        let same : spelling ≡ byte ∷ rest = is ∙ ap (λ (l : List ℕ). l ++ rest) (plain_byte byte plain) in
        absurd (backslash byte (sym (ap (λ (l : List ℕ). get_or l 0 0) same) ∙ slash) plain)
    by_test false escape =
        let same : spelling ≡ 92 ∷ 120 ∷ digit_glyph false (byte / 16) ∷ digit_glyph false (byte % 16) ∷ rest =
        is ∙ ap (λ (l : List ℕ). l ++ rest) (spelled_byte byte small escape) in
        record {
          high = ap (λ (l : List ℕ). get_or l 2 0) same;
          low = ap (λ (l : List ℕ). get_or l 3 0) same;
          behind = ap (λ (l : List ℕ). drop 4 l) same;
        }

-- a word's eight digits
pub word_bytes : (a b c d : ℕ) → a < 256 → b < 256 → c < 256 → d < 256 → flat_map (hex 2) (a ∷ b ∷ c ∷ d ∷ [])
    ≡ digit_glyph false (a / 16) ∷ digit_glyph false (a % 16) ∷ digit_glyph false (b / 16) ∷ digit_glyph false (b % 16)
    ∷ digit_glyph false (c / 16) ∷ digit_glyph false (c % 16) ∷ digit_glyph false (d / 16) ∷ digit_glyph false (d % 16) ∷ []
word_bytes a b c d sa sb sc sd = (λ i. hex_two a sa i ++ (hex_two b sb i ++ (hex_two c sc i ++ (hex_two d sd i ++ []))))

four_lines : (a b c d : ℕ) → a < 256 → b < 256 → c < 256 → d < 256 → IsOneLine (flat_map (hex 2) (a ∷ b ∷ c ∷ d ∷ []))
four_lines a b c d sa sb sc sd =
    both_lines (hex 2 a) (hex 2 b ++ (hex 2 c ++ (hex 2 d ++ []))) (hex_one_line a sa)
    (both_lines (hex 2 b) (hex 2 c ++ (hex 2 d ++ [])) (hex_one_line b sb)
    (both_lines (hex 2 c) (hex 2 d ++ []) (hex_one_line c sc)
    (both_lines (hex 2 d) [] (hex_one_line d sd) refl)))

pub word_one_line : (word : ℕ) → IsOneLine (word_digits word)
word_one_line word =
    four_lines (word / 16777216 % 256) (word / 65536 % 256) (word / 256 % 256) (word % 256) (omega arith) (omega arith) (omega arith) (omega arith)

-- what the digits of a word are, two by two
pub record IsWord (word : ℕ) (digits : List ℕ) : Type 0 where
  pub eight : length digits ≡ 8
  pub h0 : get_or digits 0 0 ≡ digit_glyph false (word / 16777216 % 256 / 16)
  pub l0 : get_or digits 1 0 ≡ digit_glyph false (word / 16777216 % 256 % 16)
  pub h1 : get_or digits 2 0 ≡ digit_glyph false (word / 65536 % 256 / 16)
  pub l1 : get_or digits 3 0 ≡ digit_glyph false (word / 65536 % 256 % 16)
  pub h2 : get_or digits 4 0 ≡ digit_glyph false (word / 256 % 256 / 16)
  pub l2 : get_or digits 5 0 ≡ digit_glyph false (word / 256 % 256 % 16)
  pub h3 : get_or digits 6 0 ≡ digit_glyph false (word % 256 / 16)
  pub l3 : get_or digits 7 0 ≡ digit_glyph false (word % 256 % 16)

pub word_spelled : (word : ℕ) (digits : List ℕ) → digits ≡ word_digits word → IsWord word digits
word_spelled word digits is =
    let same = is ∙ word_bytes (word / 16777216 % 256) (word / 65536 % 256) (word / 256 % 256) (word % 256) (omega arith) (omega arith) (omega arith) (omega arith) in
    record {
      eight = ap length same;
      h0 = ap (λ (l : List ℕ). get_or l 0 0) same;
      l0 = ap (λ (l : List ℕ). get_or l 1 0) same;
      h1 = ap (λ (l : List ℕ). get_or l 2 0) same;
      l1 = ap (λ (l : List ℕ). get_or l 3 0) same;
      h2 = ap (λ (l : List ℕ). get_or l 4 0) same;
      l2 = ap (λ (l : List ℕ). get_or l 5 0) same;
      h3 = ap (λ (l : List ℕ). get_or l 6 0) same;
      l3 = ap (λ (l : List ℕ). get_or l 7 0) same;
    }

pub word_joined : (word a b c d : ℕ) → word < 2 ^ 32 → a ≡ word / 16777216 % 256 → b ≡ word / 65536 % 256 → c ≡ word / 256 % 256 → d ≡ word % 256
    → ((a * 16777216 + b * 65536) + c * 256) + d ≡ word
word_joined word a b c d small ia ib ic id = omega arith

-- what is left of a spelled text, one byte on and at its end
pub next_byte : (text : List ℕ) (i : ℕ) → i < length text → escaped (drop i text) ≡ escaped_byte (get_or text i 0) ++ escaped (drop (i + 1) text)
next_byte text i inside = ap escaped (drop_more text i 0 inside)

pub no_byte : (text : List ℕ) (i : ℕ) → length text ≤ i → escaped (drop i text) ≡ []
no_byte text i past = ap escaped (drop_all i text past)

-- a device's name fits its label
pub device_cut : (value device : List ℕ) → value ≡ device → IsDevice device → cut_text 32 value ≡ device
device_cut value device is named =
    ap (λ (l : List ℕ). take 31 (text_of l)) is
    ∙ ap (λ (l : List ℕ). take 31 l) (printable_is_text device named.printable)
    ∙ take_all 31 device (omega (arith, named.short))

-- what the first byte of the rest of a spelled text is, and what is behind it, where these are told of any spelling
module _ (text rest after : List ℕ) (i byte n : ℕ) (label : IsLabel n text) (is : rest ≡ escaped (drop i text)) where
  pub byte_taken : ((b : ℕ) (more : List ℕ) → b < 256 → rest ≡ escaped_byte b ++ more → byte ≡ b) → (rest ≡ [] → byte ≡ 0) → byte ≡ get_or text i 0
  byte_taken some none = elim (cases_lt i (length text)) [
    | inl inside ↦ some (get_or text i 0) (escaped (drop (i + 1) text)) (label.text.bytes i 0 inside) (is ∙ next_byte text i inside)
    | inr past ↦ none (is ∙ no_byte text i past) ∙ sym (get_or_past text i 0 past)
  ]

  pub rest_taken : ((b : ℕ) (more : List ℕ) → b < 256 → rest ≡ escaped_byte b ++ more → after ≡ more) → (rest ≡ [] → after ≡ []) → after ≡ escaped (drop (i + 1) text)
  rest_taken some none = elim (cases_lt i (length text)) [
    | inl inside ↦ some (get_or text i 0) (escaped (drop (i + 1) text)) (label.text.bytes i 0 inside) (is ∙ next_byte text i inside)
    | inr past ↦ none (is ∙ no_byte text i past) ∙ sym (no_byte text (i + 1) (omega arith))
  ]
