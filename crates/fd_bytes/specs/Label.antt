-- Texts in fields of a fixed size.
use Rattle.std.specs.Prelude.{◌≡◌, ℕ, ◌-◌, ◌<◌, ◌==◌, nat_lt, if◌then◌else◌, List, [], ◌∷◌, ◌++◌, length, take, All}

-- the bytes before the first zero byte
abbrev pub text_of : List ℕ → List ℕ
text_of [] = []
text_of (byte ∷ bytes) = if byte == 0 then [] else byte ∷ text_of bytes

-- no byte is zero: the text is all of it
abbrev pub IsText : List ℕ → Type 0
IsText bytes = text_of bytes ≡ bytes

-- the text as strlcpy(3) copies it into a field of n bytes, without the zero byte at its end
abbrev pub cut_text : ℕ → List ℕ → List ℕ
cut_text n bytes = take (n - 1) (text_of bytes)

-- the same for a version string: one that was cut ends in a newline
abbrev pub cut_version_text : ℕ → List ℕ → List ℕ
cut_version_text n bytes =
    if nat_lt (length (text_of bytes)) n then text_of bytes else take (n - 2) (text_of bytes) ++ 10 ∷ []

-- a text of bytes
pub record IsByteText (text : List ℕ) : Type 0 where
  pub no_zero : IsText text
  pub bytes : All (λ byte. byte < 256) text
