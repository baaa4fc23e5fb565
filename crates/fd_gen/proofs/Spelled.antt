-- One word more, one page more, and how many bytes they have.
use Rattle.std.proofs.Common.{◌≡◌, ℕ, zero, suc, ◌+◌, ◌-◌, ◌*◌, ◌≤◌, List, [], ◌∷◌, ◌++◌, length, take, drop, slice_range}
use Rattle.std.proofs.Common.{replicate, refl, sym, ap, ◌∙◌, arith, append_assoc, append-nil, length-append}
use Rattle.std.specs.Int.{w64, to_le_bytes}
use Rattle.std.specs.List.{flat_map, range_with_len, refill}
use Rattle.std.proofs.lemmas.List.{take_at, drop_at, drop-drop, drop-replicate}
use Rattle.std.proofs.lemmas.List.Concat.{flat_map-append}
use Rattle.fd_raw.specs.Written.{written}
use Rattle.fd_raw.proofs.Written.{refilled}
use Rattle.fd_gen.proofs.Numbers.{numbers-more}
use Rattle.fd_gen.specs.Spelled.{words_of, pages_of}

pieces-more : (piece : ℕ → List ℕ) (count : ℕ) → flat_map piece (range_with_len 0 (count + 1)) ≡ flat_map piece (range_with_len 0 count) ++ piece count
pieces-more piece count =
    ap (flat_map piece) (numbers-more count)
    ∙ (flat_map-append piece (range_with_len 0 count) (count ∷ [])
    ∙ ap (λ l. flat_map piece (range_with_len 0 count) ++ l) (append-nil (piece count)))

length-pieces : (piece : ℕ → List ℕ) (size first count : ℕ) → ((k : ℕ) → length (piece k) ≡ size) → length (flat_map piece (range_with_len first count)) ≡ count * size
length-pieces piece size first zero same = omega arith
length-pieces piece size first (suc count) same =
    omega (arith, length-append (piece first) (flat_map piece (range_with_len (first + 1) count)), same first, length-pieces piece size (first + 1) count same)

pub words_of-more : (word : ℕ → ℕ) (count : ℕ) → words_of word (count + 1) ≡ words_of word count ++ to_le_bytes w64 (word count)
unfolding words_of
words_of-more word count = pieces-more (λ index. to_le_bytes w64 (word index)) count

pub pages_of-more : (word : ℕ → ℕ → ℕ) (count : ℕ) → pages_of word (count + 1) ≡ pages_of word count ++ words_of (word count) 512
unfolding pages_of
pages_of-more word count = pieces-more (λ page. words_of (word page) 512) count

pub words_of-none : (word : ℕ → ℕ) → words_of word 0 ≡ []
unfolding words_of
words_of-none word = refl

pub pages_of-none : (word : ℕ → ℕ → ℕ) → pages_of word 0 ≡ []
unfolding pages_of
pages_of-none word = refl

pub length-words_of : (word : ℕ → ℕ) (count : ℕ) → length (words_of word count) ≡ 8 * count
unfolding words_of
length-words_of word count = omega (arith, length-pieces (λ index. to_le_bytes w64 (word index)) 8 0 count (λ index. refl))

pub length-pages_of : (word : ℕ → ℕ → ℕ) (count : ℕ) → length (pages_of word count) ≡ 4096 * count
unfolding pages_of
length-pages_of word count = omega (arith, length-pieces (λ page. words_of (word page) 512) 4096 0 count (λ page. length-words_of (word page) 512))

-- the next word is written over the bytes behind the words so far
pub words_of-put : (word : ℕ → ℕ) (count at : ℕ) (now before : List ℕ) → at ≡ 8 * count → now ≡ words_of word count ++ drop (8 * count) before
    → take at now ++ (to_le_bytes w64 (word count) ++ drop (at + 8) now) ≡ words_of word (count + 1) ++ drop (8 * (count + 1)) before
words_of-put word count at now before place is =
    let words = words_of word count in
    let rest = drop (8 * count) before in
    let long : length words ≡ at = length-words_of word count ∙ sym place in
    let front : take at now ≡ words = ap (take at) is ∙ take_at words rest at long in
    let end : 8 * count + 8 ≡ 8 * (count + 1) = omega arith in
    let back : drop (at + 8) now ≡ drop (8 * (count + 1)) before =
    sym (drop-drop 8 at now) ∙ (ap (λ l. drop 8 (drop at l)) is ∙ (ap (drop 8) (drop_at words rest at long) ∙ (drop-drop 8 (8 * count) before ∙ ap (λ k. drop k before) end))) in
    (λ i. front i ++ (to_le_bytes w64 (word count) ++ back i))
    ∙ (sym (append_assoc words (to_le_bytes w64 (word count)) (drop (8 * (count + 1)) before))
    ∙ ap (λ l. l ++ drop (8 * (count + 1)) before) (sym (words_of-more word count)))

-- the next page is written over the zeros behind the pages so far
pub pages_of-written : (word : ℕ → ℕ → ℕ) (count size zeros : ℕ) (now page : List ℕ)
    → size ≡ 4096 → size ≤ zeros → now ≡ pages_of word count ++ replicate zeros 0 → page ≡ words_of (word count) 512
    → written now (4096 * count) size page ≡ pages_of word (count + 1) ++ replicate (zeros - size) 0
pages_of-written word count size zeros now page whole room is filled =
    let pages = pages_of word count in
    let rest = replicate zeros 0 in
    let at = 4096 * count in
    let long : length pages ≡ at = length-pages_of word count in
    let full : length page ≡ size = ap length filled ∙ (length-words_of (word count) 512 ∙ sym whole) in
    let front : take at now ≡ pages = ap (take at) is ∙ take_at pages rest at long in
    let middle : refill size (slice_range now at (at + size)) page ≡ page = refilled size (slice_range now at (at + size)) page full in
    let back : drop (at + size) now ≡ replicate (zeros - size) 0 =
    sym (drop-drop size at now) ∙ (ap (λ l. drop size (drop at l)) is ∙ (ap (drop size) (drop_at pages rest at long) ∙ drop-replicate size zeros 0)) in
    (λ i. front i ++ (middle i ++ back i))
    ∙ (sym (append_assoc pages page (replicate (zeros - size) 0))
    ∙ (ap (λ l. (pages ++ l) ++ replicate (zeros - size) 0) filled
    ∙ ap (λ l. l ++ replicate (zeros - size) 0) (sym (pages_of-more word count))))
