-- The bits of a bitmap's bytes are its bits, and clear ones behind them.
use Rattle.std.proofs.Common.{◌≡◌, ℕ, zero, suc, ◌+◌, ◌-◌, ◌*◌, ◌/◌, ◌%◌, ◌≤◌, Bool, true, false, cond, List, [], ◌∷◌, ◌++◌}
use Rattle.std.proofs.Common.{length, map, take, drop, replicate, refl, sym, ◌∙◌, ap, arith, append_assoc, append-nil, inl, inr}
use Rattle.std.specs.Prelude.{◌==◌}
use Rattle.std.specs.List.{range_with_len}
use Rattle.std.specs.Int.{div_ceil}
use Rattle.std.proofs.lemmas.Bool.{cases_lt}
use Rattle.std.proofs.lemmas.Bool.Decides.{nat_tests}
use Rattle.std.proofs.lemmas.List.{take_all, drop_all, length-drop, drop-drop, take-append-drop, replicate-append-replicate, nil_from_length}
use Rattle.std.proofs.lemmas.List.Concat.{flat_map-append}
use Rattle.fd_bitmap.specs.Bits.{low_bits, number_of, bits_of, byte_at}
use Rattle.fd_bitmap.proofs.LowBits.{low_bits-zero}
use Rattle.fd_bitmap.proofs.ByteBits.{bits_of-zeros}

-- the lowest bit of a number, and those above it
lowest : (bit : Bool) (above : ℕ) → ((cond bit 1 0 + 2 * above) % 2 == 1) ≡ bit
lowest true above = grind (arith, nat_tests)
lowest false above = grind (arith, nat_tests)

above_lowest : (bit : Bool) (above : ℕ) → (cond bit 1 0 + 2 * above) / 2 ≡ above
above_lowest true above = omega arith
above_lowest false above = omega arith

-- the low bits of a number that is made of bits
low_bits-number_of : (count : ℕ) (bits : List Bool) → low_bits count (number_of (take count bits)) ≡ take count bits ++ replicate (count - length bits) false
unfolding low_bits
low_bits-number_of zero bits = let none : 0 ≡ 0 - length bits = omega arith in ap (λ (n : ℕ). replicate n false) none
low_bits-number_of (suc count) [] = let all : suc count ≡ suc count - 0 = omega arith in low_bits-zero (suc count) ∙ ap (λ (n : ℕ). replicate n false) all
low_bits-number_of (suc count) (bit ∷ bits) =
    let e : suc count - suc (length bits) ≡ count - length bits = omega arith in
    ap (λ (b : Bool). b ∷ low_bits count ((cond bit 1 0 + 2 * number_of (take count bits)) / 2)) (lowest bit (number_of (take count bits)))
    ∙ ap (λ (n : ℕ). bit ∷ low_bits count n) (above_lowest bit (number_of (take count bits)))
    ∙ ap (λ (l : List Bool). bit ∷ l) (low_bits-number_of count bits ∙ ap (λ (n : ℕ). take count bits ++ replicate n false) (sym e))

-- the bytes after the first are those of the bits after the first eight
later_bytes : (bits : List Bool) (first count : ℕ) → map (byte_at bits) (range_with_len (first + 1) count) ≡ map (byte_at (drop 8 bits)) (range_with_len first count)
later_bytes bits first zero = refl
later_bytes bits first (suc count) =
    let e : 8 + 8 * first ≡ 8 * (first + 1) = omega arith in
    let here : byte_at bits (first + 1) ≡ byte_at (drop 8 bits) first = ap (λ (l : List Bool). number_of (take 8 l)) (ap (λ (n : ℕ). drop n bits) (sym e) ∙ sym (drop-drop (8 * first) 8 bits)) in
    ap (λ (b : ℕ). b ∷ map (byte_at bits) (range_with_len (first + 1 + 1) count)) here
    ∙ ap (λ (l : List ℕ). byte_at (drop 8 bits) first ∷ l) (later_bytes bits (first + 1) count)

-- eight bits or more
joined_many : (bits : List Bool) (clear : List Bool) (none : ℕ) → none ≡ 0 → (take 8 bits ++ replicate none false) ++ (drop 8 bits ++ clear) ≡ bits ++ clear
joined_many bits clear none is =
    ap (λ n. (take 8 bits ++ replicate n false) ++ (drop 8 bits ++ clear)) is
    ∙ ap (λ l. l ++ (drop 8 bits ++ clear)) (append-nil (take 8 bits))
    ∙ sym (append_assoc (take 8 bits) (drop 8 bits) clear)
    ∙ ap (λ l. l ++ clear) (take-append-drop 8 bits)

-- fewer, of which none is behind the first eight
joined_few : (bits : List Bool) (here later : ℕ) → length bits ≤ 8 → (take 8 bits ++ replicate here false) ++ (drop 8 bits ++ replicate later false) ≡ bits ++ replicate (here + later) false
joined_few bits here later few =
    ap (λ l. (l ++ replicate here false) ++ (drop 8 bits ++ replicate later false)) (take_all 8 bits few)
    ∙ ap (λ l. (bits ++ replicate here false) ++ (l ++ replicate later false)) (drop_all 8 bits few)
    ∙ append_assoc bits (replicate here false) (replicate later false)
    ∙ ap (λ l. bits ++ l) (replicate-append-replicate here later false)

-- clear bits behind the first eight and behind the others
joined :
    (bits : List Bool) (count : ℕ) → length bits ≤ 8 * suc count
    → (take 8 bits ++ replicate (8 - length bits) false) ++ (drop 8 bits ++ replicate (8 * count - length (drop 8 bits)) false)
    ≡ bits ++ replicate (8 * suc count - length bits) false
joined bits count room =
    elim (cases_lt (length bits) 8) [
      | inl few ↦
          let e : 8 - length bits + (8 * count - length (drop 8 bits)) ≡ 8 * suc count - length bits = omega (arith, length-drop 8 bits) in
          joined_few bits (8 - length bits) (8 * count - length (drop 8 bits)) (omega arith) ∙ ap (λ n. bits ++ replicate n false) e
      | inr many ↦
          let e : 8 * count - length (drop 8 bits) ≡ 8 * suc count - length bits = omega (arith, length-drop 8 bits) in
          joined_many bits (replicate (8 * count - length (drop 8 bits)) false) (8 - length bits) (omega arith) ∙ ap (λ n. bits ++ replicate n false) e
    ]

bits_of-bytes : (bits : List Bool) (count : ℕ) → length bits ≤ 8 * count → bits_of (map (byte_at bits) (range_with_len 0 count)) ≡ bits ++ replicate (8 * count - length bits) false
bits_of-bytes bits zero room =
    let none : 0 ≡ 8 * 0 - length bits = omega arith in
    ap (λ n. replicate n false) none ∙ ap (λ l. l ++ replicate (8 * 0 - length bits) false) (sym (nil_from_length bits (omega arith)))
bits_of-bytes bits (suc count) room =
    ap (λ l. l ++ bits_of (map (byte_at bits) (range_with_len 1 count))) (low_bits-number_of 8 bits)
    ∙ ap (λ l. (take 8 bits ++ replicate (8 - length bits) false) ++ l) (ap bits_of (later_bytes bits 0 count) ∙ bits_of-bytes (drop 8 bits) count (omega (arith, length-drop 8 bits)))
    ∙ joined bits count room

-- the bits of the bitmap's bytes, filled with zeros
pub bits_of-filled :
    (bits : List Bool) (zeros : ℕ)
    → bits_of (map (byte_at bits) (range_with_len 0 (div_ceil (length bits) 8)) ++ replicate zeros 0)
    ≡ bits ++ replicate (8 * div_ceil (length bits) 8 - length bits + 8 * zeros) false
bits_of-filled bits zeros =
    let count : ℕ = div_ceil (length bits) 8 in
    let own : ℕ = 8 * count - length bits in
    flat_map-append (low_bits 8) (map (byte_at bits) (range_with_len 0 count)) (replicate zeros 0)
    ∙ ap (λ l. l ++ bits_of (replicate zeros 0)) (bits_of-bytes bits count (omega arith))
    ∙ ap (λ l. (bits ++ replicate own false) ++ l) (bits_of-zeros zeros)
    ∙ append_assoc bits (replicate own false) (replicate (8 * zeros) false)
    ∙ ap (λ l. bits ++ l) (replicate-append-replicate own (8 * zeros) false)
