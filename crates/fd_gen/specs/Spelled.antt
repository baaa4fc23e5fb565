-- The bytes of pages whose words are known.
use Rattle.std.specs.Prelude.{ℕ, List}
use Rattle.std.specs.Int.{w64, to_le_bytes}
use Rattle.std.specs.List.{flat_map, range_with_len}

-- so many words, each by its index, the lowest byte first
unfoldable pub words_of : (ℕ → ℕ) → (count : ℕ) → List ℕ
words_of word count = flat_map (λ index. to_le_bytes w64 (word index)) (range_with_len 0 count)

-- so many pages of 512 words, each by its page and its index
unfoldable pub pages_of : (ℕ → ℕ → ℕ) → (count : ℕ) → List ℕ
pages_of word count = flat_map (λ page. words_of (word page) 512) (range_with_len 0 count)
