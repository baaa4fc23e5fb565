-- The pages of the sections before the dumped pages.
use Rattle.std.proofs.Common.{◌≡◌, ◌∙◌, ℕ, ◌+◌, ◌-◌, ◌*◌, ◌/◌, ◌<◌, ◌≤◌, Bool, List, [], ◌∷◌, ◌++◌, length, take, replicate, refl, sym, ap, arith, append_assoc}
use Rattle.std.specs.Int.{div_ceil}
use Rattle.std.specs.List.{flat_map, range_with_len}
use Rattle.std.proofs.lemmas.List.{drop_all, get_or_past, replicate-append-replicate}
use Rattle.std.proofs.lemmas.List.Concat.{flat_map_single}
use Rattle.fd_bitmap.specs.Bits.{byte_at, number_of}
use Rattle.fd_mini.specs.Places.{rounded_up}
use Rattle.fd_dump.specs.Minidump.{filled, avail_bytes, bitmap_bytes}
use Rattle.fd_dump.specs.Sections.{nth_page, pair_bytes, pair_at}
use Rattle.fd_dump.proofs.Made.{made_of, made-parts, made-listed, made-zeros, page-made}
use Rattle.fd_dump.proofs.Sizes.{length-avail, length-bitmap}

-- how many zeros fill the ranges, and how many pairs there are behind them
abbrev fill_of : List (ℕ × ℕ) → ℕ
fill_of pairs = rounded_up (length (avail_bytes pairs)) - length (avail_bytes pairs)

abbrev pairs_more : List (ℕ × ℕ) → ℕ
pairs_more pairs = rounded_up (16 * length pairs + 16) / 16 - length pairs

-- the ranges, pair by pair
filled-avail : (pairs : List (ℕ × ℕ)) → filled (avail_bytes pairs) ≡ made_of (pair_at pairs) 0 (rounded_up (16 * length pairs + 16) / 16)
filled-avail pairs =
    append_assoc (flat_map pair_bytes pairs) (replicate 16 0) (replicate (fill_of pairs) 0)
    ∙ ap (λ l. flat_map pair_bytes pairs ++ l)
    (replicate-append-replicate 16 (fill_of pairs) 0 ∙ ap (λ n. replicate n 0) zeros
    ∙ sym (made-zeros (pair_at pairs) 16 (0 + length pairs) (pairs_more pairs) past))
    ∙ ap (λ l. l ++ made_of (pair_at pairs) (0 + length pairs) (pairs_more pairs)) (sym (made-listed pair_bytes pairs (0, 0)))
    ∙ sym (made-parts (pair_at pairs) 0 (length pairs) (pairs_more pairs))
    ∙ ap (made_of (pair_at pairs) 0) all
  where
    zeros : 16 + fill_of pairs ≡ 16 * pairs_more pairs
    zeros = omega (arith, length-avail pairs)

    all : length pairs + pairs_more pairs ≡ rounded_up (16 * length pairs + 16) / 16
    all = omega arith

    past : (n : ℕ) → 0 + length pairs ≤ n → pair_at pairs n ≡ replicate 16 0
    past n above = ap pair_bytes (get_or_past pairs n (0, 0) (omega arith))

pub avail-page : (pairs : List (ℕ × ℕ)) (index : ℕ) → 4096 * index < 16 * length pairs + 16 → nth_page (filled (avail_bytes pairs)) index ≡ made_of (pair_at pairs) (256 * index) 256
avail-page pairs index within =
    ap (λ l. nth_page l index) (filled-avail pairs)
    ∙ page-made (pair_at pairs) 16 256 (rounded_up (16 * length pairs + 16) / 16) index (λ n. refl) refl (omega arith) (omega arith)

-- one byte of the bitmap
abbrev pub bitmap_byte : List Bool → (at : ℕ) → List ℕ
bitmap_byte bits at = byte_at bits at ∷ []

-- how many zeros fill it
abbrev bytes_more : List Bool → ℕ
bytes_more bits = rounded_up (div_ceil (length bits) 8) - div_ceil (length bits) 8

-- the bitmap, byte by byte
filled-bitmap : (bits : List Bool) → filled (bitmap_bytes bits) ≡ made_of (bitmap_byte bits) 0 (rounded_up (div_ceil (length bits) 8))
filled-bitmap bits =
    ap (λ n. bitmap_bytes bits ++ replicate n 0) zeros
    ∙ ap (λ l. l ++ replicate (1 * bytes_more bits) 0) (sym (flat_map_single (byte_at bits) (range_with_len 0 (div_ceil (length bits) 8))))
    ∙ ap (λ l. made_of (bitmap_byte bits) 0 (div_ceil (length bits) 8) ++ l) (sym (made-zeros (bitmap_byte bits) 1 (0 + div_ceil (length bits) 8) (bytes_more bits) past))
    ∙ sym (made-parts (bitmap_byte bits) 0 (div_ceil (length bits) 8) (bytes_more bits))
    ∙ ap (made_of (bitmap_byte bits) 0) all
  where
    zeros : rounded_up (length (bitmap_bytes bits)) - length (bitmap_bytes bits) ≡ 1 * bytes_more bits
    zeros = omega (arith, length-bitmap bits)

    all : div_ceil (length bits) 8 + bytes_more bits ≡ rounded_up (div_ceil (length bits) 8)
    all = omega arith

    past : (n : ℕ) → 0 + div_ceil (length bits) 8 ≤ n → bitmap_byte bits n ≡ replicate 1 0
    past n above = ap (λ l. number_of (take 8 l) ∷ []) (drop_all (8 * n) bits (omega arith))

pub bitmap-page : (bits : List Bool) (index : ℕ) → 4096 * index < div_ceil (length bits) 8 → nth_page (filled (bitmap_bytes bits)) index ≡ made_of (bitmap_byte bits) (4096 * index) 4096
bitmap-page bits index within =
    ap (λ l. nth_page l index) (filled-bitmap bits)
    ∙ page-made (bitmap_byte bits) 1 4096 (rounded_up (div_ceil (length bits) 8)) index (λ n. refl) refl (omega arith) (omega arith)
