-- The ranges of available memory are read back, none of them is bad, and their pages aren't many.
use Rattle.std.proofs.Common.{◌≡◌, ℕ, zero, suc, ◌+◌, ◌-◌, ◌*◌, ◌/◌, ◌<◌, ◌≤◌, ◌^◌, true, false, List, ◌∷◌, ◌++◌, length, map, take, get_or, replicate, All, None, refl, sym, ◌∙◌, ap, arith}
use Rattle.std.specs.Int.{w64, to_le_bytes, div_ceil}
use Rattle.std.specs.List.{flat_map, range_with_len, prefix_len, position_or_len}
use Rattle.std.proofs.lemmas.Bool.Decides.{nat_tests}
use Rattle.std.proofs.lemmas.List.{get_or-map}
use Rattle.std.proofs.lemmas.List.Elements.{All-get_or}
use Rattle.std.proofs.lemmas.List.FromFn.{length-map-range_with_len, get_or-map-range_with_len, take-map-range_with_len, fill_by_all}
use Rattle.std.proofs.lemmas.List.Sums.{prefix_len_is, position_or_len_is}
use Rattle.fd_bytes.specs.Field.{u64_le_at}
use Rattle.fd_image.specs.Image.{MachineImage, IsValid, pair_end}
use Rattle.fd_image.proofs.Places.{length-beside, get_or-beside}
use Rattle.fd_bitmap.specs.Pages.{first_page, end_page, is_bad, with_ends_before, first_bad}
use Rattle.fd_mini.specs.Places.{rounded_up}
use Rattle.fd_vmcore.specs.Ranges.{pair_at, goes_on, pairs_in}
use Rattle.fd_dump.specs.Minidump.{filled, avail_bytes}
use Rattle.fd_dump.proofs.Sizes.{length-filled, length-avail}
use Rattle.fd_dump.proofs.Stands.{Stands, Stands-inner}
use Rattle.fd_way.proofs.Limits.{IsRange, pair_whole, pair_after}
use Rattle.fd_way.proofs.Pieces.{Stands-first, Stands-last, Stands-piece, length-pieces, u64_le_at-Stands}

-- the bytes of a pair
abbrev pair_bytes : ℕ × ℕ → List ℕ
pair_bytes pair = to_le_bytes w64 pair.0 ++ to_le_bytes w64 pair.1

same_pair : (a b c d : ℕ) → a ≡ c → b ≡ d → ◌≡◌ {A = ℕ × ℕ} (a, b) (c, d)
same_pair a b c d first second = rw (first, second) refl

module _ (avail : List (ℕ × ℕ)) (typed : All (λ pair. (pair.0 < 2 ^ 64) × (pair.1 < 2 ^ 64)) avail) (end : (k : ℕ) → k < length avail → 0 < (get_or avail k (0, 0)).1) where
  abbrev section : List ℕ
  section = filled (avail_bytes avail)

  abbrev pairs : List ℕ
  pairs = flat_map pair_bytes avail

  -- the pairs, and the zeros behind them
  Stands-pairs : Stands pairs 0 section
  Stands-pairs =
      Stands-inner pairs (avail_bytes avail) section 0 0 0 refl (Stands-first pairs (replicate 16 0))
      (Stands-first (avail_bytes avail) (replicate (rounded_up (length (avail_bytes avail)) - length (avail_bytes avail)) 0))

  Stands-zeros : Stands (replicate 16 0) (16 * length avail) section
  Stands-zeros =
      Stands-inner (replicate 16 0) (avail_bytes avail) section (16 * length avail) 0 (16 * length avail) (omega arith)
      (Stands-last pairs (replicate 16 0) (16 * length avail) (omega (arith, length-pieces pair_bytes 16 avail (λ pair. refl))))
      (Stands-first (avail_bytes avail) (replicate (rounded_up (length (avail_bytes avail)) - length (avail_bytes avail)) 0))

  Stands-pair : (k : ℕ) → k < length avail → Stands (pair_bytes (get_or avail k (0, 0))) (16 * k) section
  Stands-pair k within =
      Stands-inner (pair_bytes (get_or avail k (0, 0))) pairs section (16 * k) 0 (16 * k) (omega arith)
      (Stands-piece pair_bytes 16 avail k (0, 0) (λ pair. refl) within) Stands-pairs

  -- each pair is read back, and then one whose end is 0
  pair_back : (k : ℕ) → k < length avail → pair_at section k ≡ get_or avail k (0, 0)
  pair_back k within =
      let pair : ℕ × ℕ = get_or avail k (0, 0) in
      let fits = All-get_or (λ (p : ℕ × ℕ). (p.0 < 2 ^ 64) × (p.1 < 2 ^ 64)) avail k (0, 0) within typed in
      same_pair (u64_le_at section (16 * k)) (u64_le_at section (16 * k + 8)) pair.0 pair.1
      (u64_le_at-Stands section (16 * k) pair.0 (Stands-inner (to_le_bytes w64 pair.0) (pair_bytes pair) section 0 (16 * k) (16 * k) (omega arith)
      (Stands-first (to_le_bytes w64 pair.0) (to_le_bytes w64 pair.1)) (Stands-pair k within)) fits.0)
      (u64_le_at-Stands section (16 * k + 8) pair.1 (Stands-inner (to_le_bytes w64 pair.1) (pair_bytes pair) section 8 (16 * k) (16 * k + 8) refl
      (Stands-last (to_le_bytes w64 pair.0) (to_le_bytes w64 pair.1) 8 refl) (Stands-pair k within)) fits.1)

  end_back : u64_le_at section (16 * length avail + 8) ≡ 0
  end_back =
      u64_le_at-Stands section (16 * length avail + 8) 0 (Stands-inner (to_le_bytes w64 0) (replicate 16 0) section 8 (16 * length avail)
      (16 * length avail + 8) refl (Stands-last (to_le_bytes w64 0) (to_le_bytes w64 0) 8 refl) Stands-zeros) (omega arith)

  abbrev count : ℕ
  count = length section / 16

  room : length avail < count
  room = omega (arith, length-filled (avail_bytes avail), length-avail avail)

  read : (k : ℕ) → k < count → get_or (map (pair_at section) (range_with_len 0 count)) k (0, 0) ≡ pair_at section k
  read k within = get_or-map-range_with_len (pair_at section) 0 count k k (0, 0) within (omega arith)

  go_on : (k : ℕ) → k < length avail → goes_on (get_or (map (pair_at section) (range_with_len 0 count)) k (0, 0)) ≡ true
  go_on k within =
      let is : get_or (map (pair_at section) (range_with_len 0 count)) k (0, 0) ≡ get_or avail k (0, 0) = read k (omega (arith, room)) ∙ pair_back k within in
      let some : 0 < (get_or avail k (0, 0)).1 = end k within in
      ap goes_on is ∙ grind (arith, nat_tests)

  stop : goes_on (get_or (map (pair_at section) (range_with_len 0 count)) (length avail) (0, 0)) ≡ false
  stop = ap goes_on (read (length avail) room) ∙ ap (λ n. goes_on (0, n)) end_back

  pub pairs_back : pairs_in section (length section) ≡ avail
  pairs_back =
      let long : length (map (pair_at section) (range_with_len 0 count)) ≡ count = length-map-range_with_len (pair_at section) 0 count in
      let until : prefix_len goes_on (map (pair_at section) (range_with_len 0 count)) ≡ length avail =
      prefix_len_is goes_on (map (pair_at section) (range_with_len 0 count)) (length avail) (0, 0) (omega (arith, room)) go_on (λ _. stop) in
      ap (λ n. take n (map (pair_at section) (range_with_len 0 count))) until
      ∙ take-map-range_with_len (pair_at section) 0 count (length avail) (omega (arith, room))
      ∙ sym (fill_by_all (pair_at section) avail (length avail) (0, 0) refl (λ k within. sym (pair_back k within)))

-- the page at which the pair before ends
ends_before : (avail : List (ℕ × ℕ)) (k : ℕ) → k < length avail → get_or (0 ∷ map end_page avail) k 0 ≡ div_ceil (get_or (0 ∷ map pair_end avail) k 0) 4096
ends_before avail zero within = refl
ends_before avail (suc k) within =
    get_or-map end_page avail k (0, 0) 0 (omega arith)
    ∙ ap (λ n. div_ceil n 4096) (sym (get_or-map pair_end avail k (0, 0) 0 (omega arith)))

not_bad : (before end : ℕ) (pair : ℕ × ℕ) → before ≡ div_ceil end 4096 → end ≤ pair.0 → IsRange pair → is_bad (before, pair) ≡ false
not_bad before end pair is after range =
    let later : before ≤ first_page pair = omega (arith, range.start) in
    grind (arith, nat_tests, range.some)

module _ (m : MachineImage) (valid : IsValid m) where
  pub none_bad : first_bad m.avail ≡ None
  none_bad =
      let zipped : List (ℕ × (ℕ × ℕ)) = with_ends_before m.avail in
      let long : length zipped ≡ length m.avail = length-beside end_page m.avail in
      let good = λ (k : ℕ) (within : k < length zipped).
      let inside : k < length m.avail = omega arith in
      ap is_bad (get_or-beside end_page m.avail k (0, 0) inside)
      ∙ not_bad (get_or (0 ∷ map end_page m.avail) k 0) (get_or (0 ∷ map pair_end m.avail) k 0) (get_or m.avail k (0, 0)) (ends_before m.avail k inside)
      (pair_after m valid k inside (0, 0)) (pair_whole m valid k inside (0, 0)) in
      let place : position_or_len is_bad zipped ≡ length zipped = position_or_len_is is_bad zipped (length zipped) (0, (0, 0)) (omega arith) good (λ h. absurd (omega arith)) in
      grind (arith, nat_tests)
