-- The text of a read goes on line by line.
use Rattle.std.proofs.Common.{◌≡◌, ℕ, suc, ◌+◌, ◌-◌, ◌<◌, min, List, [], ◌++◌, length, take, drop, slice_range, refl, sym, ◌∙◌, ap, arith}
use Rattle.std.specs.Int.{div_ceil}
use Rattle.std.proofs.lemmas.List.{length-drop, drop-drop, take_min}
use Rattle.fd_way.specs.ReadText.{line_of, lines_of, read_text}

-- one line fewer behind the first
lines_left : (n : ℕ) → 0 < n → div_ceil n 16 ≡ suc (div_ceil (n - 16) 16)
lines_left n some = omega arith

-- the first line, and the text behind it
pub read_text-line : (va : ℕ) (bytes : List ℕ) → 0 < length bytes → read_text va bytes ≡ line_of va (take 16 bytes) ++ read_text (va + 16) (drop 16 bytes)
unfolding read_text
read_text-line va bytes some =
    ap (λ count. lines_of count va bytes) (lines_left (length bytes) some)
    ∙ ap (λ n. line_of va (take 16 bytes) ++ lines_of (div_ceil n 16) (va + 16) (drop 16 bytes)) (sym (length-drop 16 bytes))

-- no bytes have no text
pub read_text-nil : (va : ℕ) → read_text va [] ≡ []
unfolding read_text
read_text-nil va = refl

-- the bytes of a line
line_range : (at : ℕ) (bytes : List ℕ) → at < length bytes → slice_range bytes at (min (at + 16) (length bytes)) ≡ take 16 (drop at bytes)
line_range at bytes some =
    let count : min (at + 16) (length bytes) - at ≡ min 16 (length bytes - at) = omega arith in
    ap (λ n. take n (drop at bytes)) (count ∙ ap (min 16) (sym (length-drop at bytes)))
    ∙ take_min 16 (drop at bytes)

-- the text at a place is that of the line there, and that behind it
pub text_at : (va at : ℕ) (bytes : List ℕ) → at < length bytes
    → read_text (va + at) (drop at bytes) ≡ line_of (va + at) (slice_range bytes at (min (at + 16) (length bytes))) ++ read_text (va + (at + 16)) (drop (at + 16) bytes)
text_at va at bytes some =
    let left : 0 < length (drop at bytes) = omega (arith, length-drop at bytes) in
    let next : va + at + 16 ≡ va + (at + 16) = omega arith in
    read_text-line (va + at) (drop at bytes) left
    ∙ ap (λ line. line_of (va + at) line ++ read_text (va + at + 16) (drop 16 (drop at bytes))) (sym (line_range at bytes some))
    ∙ (λ i. line_of (va + at) (slice_range bytes at (min (at + 16) (length bytes))) ++ read_text (next i) (drop-drop 16 at bytes i))
