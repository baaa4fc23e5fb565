-- Tables are read number by number: what is read spells the bytes that were read.
use Rattle.std.proofs.Common.{◌≡◌, ℕ, ◌+◌, ◌*◌, ◌<◌, ◌≤◌, List, [], ◌∷◌, ◌++◌, length, map, slice_range, take, sym, ◌∙◌, ap, arith, append_assoc}
use Rattle.std.specs.Int.{w64, from_le_bytes}
use Rattle.std.specs.List.{flat_map, range_with_len}
use Rattle.std.proofs.lemmas.List.{map_push}
use Rattle.std.proofs.lemmas.List.FromFn.{fill_by_all, get_or-map-range_with_len, length-map-range_with_len, map-range_with_len_more}
use Rattle.std.proofs.lemmas.Slice.{between_from_start}
use Rattle.fd_bytes.specs.Field.{u64_le_at}
use Rattle.fd_imgfile.specs.Front.{lengths_in, second}
use Rattle.fd_imgfile.specs.Spelling.{avail_bytes, u64}
use Rattle.fd_site.proofs.Writing.{flat_map_push}
use Rattle.fd_image.proofs.Slices.{slice-all, slice-join, slice-slice}

-- one more number
pub number_more : (bytes : List ℕ) (numbers : List ℕ) (n i : ℕ) → flat_map u64 numbers ≡ slice_range bytes 0 (8 * i) → u64 n ≡ slice_range bytes (8 * i) (8 * i + 8)
    → flat_map u64 (numbers ++ n ∷ []) ≡ slice_range bytes 0 (8 * (i + 1))
number_more bytes numbers n i so_far next =
    flat_map_push u64 numbers n (slice_range bytes 0 (8 * i)) so_far
    ∙ (ap (λ (l : List ℕ). slice_range bytes 0 (8 * i) ++ l) next ∙ (slice-join bytes 0 (8 * i) (8 * i + 8) (omega arith) (omega arith) ∙ ap (λ k. slice_range bytes 0 k) (omega arith)))

-- one more pair
pub pair_more : (bytes : List ℕ) (pairs : List (ℕ × ℕ)) (a b i : ℕ) → flat_map avail_bytes pairs ≡ slice_range bytes 0 (16 * i) → u64 a ≡ slice_range bytes (16 * i) (16 * i + 8)
    → u64 b ≡ slice_range bytes (16 * i + 8) (16 * i + 8 + 8) → flat_map avail_bytes (pairs ++ (a, b) ∷ []) ≡ slice_range bytes 0 (16 * (i + 1))
pair_more bytes pairs a b i so_far first second =
    let both : avail_bytes (a, b) ≡ slice_range bytes (16 * i) (16 * i + 8 + 8) =
    ap (λ (l : List ℕ). l ++ u64 b) first
    ∙ (ap (λ (l : List ℕ). slice_range bytes (16 * i) (16 * i + 8) ++ l) second ∙ slice-join bytes (16 * i) (16 * i + 8) (16 * i + 8 + 8) (omega arith) (omega arith)) in
    flat_map_push avail_bytes pairs (a, b) (slice_range bytes 0 (16 * i)) so_far
    ∙ (ap (λ (l : List ℕ). slice_range bytes 0 (16 * i) ++ l) both ∙ (slice-join bytes 0 (16 * i) (16 * i + 8 + 8) (omega arith) (omega arith) ∙ ap (λ k. slice_range bytes 0 k) (omega arith)))

pub second_more : (bytes : List ℕ) (pairs : List (ℕ × ℕ)) (a b i : ℕ) → map second pairs ≡ lengths_in bytes i → b ≡ u64_le_at bytes (16 * i + 8)
    → map second (pairs ++ (a, b) ∷ []) ≡ lengths_in bytes (i + 1)
second_more bytes pairs a b i so_far next =
    map_push second pairs (a, b)
    ∙ (ap (λ (l : List ℕ). l ++ b ∷ []) so_far ∙ (ap (λ n. lengths_in bytes i ++ n ∷ []) next ∙ sym (map-range_with_len_more (λ i. u64_le_at bytes (16 * i + 8)) 0 i i (omega arith))))

-- a list of functions of places is known by its values
pub same_map : {X : Type 0} (f g : ℕ → X) (n : ℕ) (d : X) → ((k : ℕ) → k < n → f k ≡ g k) → map f (range_with_len 0 n) ≡ map g (range_with_len 0 n)
same_map f g n d same =
    fill_by_all g (map f (range_with_len 0 n)) n d (length-map-range_with_len f 0 n) (λ k below. get_or-map-range_with_len f 0 n k k d below (omega arith) ∙ same k below)

pub u64_le_at-slice : (f : List ℕ) (a b at : ℕ) → a + (at + 8) ≤ b → u64_le_at (slice_range f a b) at ≡ u64_le_at f (a + at)
unfolding u64_le_at
u64_le_at-slice f a b at within =
    ap (from_le_bytes w64) (slice-slice f a b at (at + 8) (omega arith) within ∙ ap (λ n. slice_range f (a + at) n) (omega arith))

-- the lengths in a slice
pub lengths_in-slice : (f : List ℕ) (a b n : ℕ) → a + 16 * n ≤ b → lengths_in (slice_range f a b) n ≡ map (λ i. u64_le_at f (a + 8 + 16 * i)) (range_with_len 0 n)
lengths_in-slice f a b n within =
    same_map (λ i. u64_le_at (slice_range f a b) (16 * i + 8)) (λ i. u64_le_at f (a + 8 + 16 * i)) n 0
    (λ k below. u64_le_at-slice f a b (16 * k + 8) (omega arith) ∙ ap (u64_le_at f) (omega arith))

-- two tables behind the first
pub tables_joined : (table ranges segs avail wanted : List ℕ) (j : ℕ) → j ≤ length ranges → segs ≡ table → avail ≡ take j ranges
    → wanted ≡ slice_range ranges j (length ranges) → segs ++ avail ++ wanted ≡ table ++ ranges
tables_joined table ranges segs avail wanted j within a b c =
    let rest : avail ++ wanted ≡ ranges =
    ap (λ (l : List ℕ). l ++ wanted) (b ∙ sym (between_from_start ranges j)) ∙ (ap (λ (l : List ℕ). slice_range ranges 0 j ++ l) c
    ∙ (slice-join ranges 0 j (length ranges) (omega arith) within ∙ slice-all ranges (length ranges) (omega arith))) in
    ap (λ (l : List ℕ). l ++ avail ++ wanted) a ∙ (append_assoc table avail wanted ∙ ap (λ (l : List ℕ). table ++ l) rest)
