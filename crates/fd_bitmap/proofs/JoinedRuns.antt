-- Bits that are set for the pages of runs, run by run.
use Rattle.std.proofs.Common.{◌≡◌, ℕ, zero, suc, ◌+◌, ◌-◌, ◌<◌, ◌≤◌, min, max, Bool, true, false, ◌||◌, List, [], ◌∷◌, ◌++◌}
use Rattle.std.proofs.Common.{length, get_or, take, drop, replicate, Some, refl, sym, ◌∙◌, ap, arith, inl, inr, length-append}
use Rattle.std.specs.Prelude.{slice_get}
use Rattle.std.specs.List.{range_with_len}
use Rattle.std.proofs.lemmas.Bool.Decides.{leb_tells, eqb_tells, nat_tests}
use Rattle.std.proofs.lemmas.List.{take_more, take_all, append-nil}
use Rattle.std.proofs.lemmas.Option.{slice_get-get_or, slice_get_within, get_or_from_slice_get}
use Rattle.std.proofs.lemmas.List.FromFn.{length-range_with_len}
use Rattle.std.proofs.lemmas.Grind.{flat_map-append}
use Rattle.fd_bitmap.specs.declared.avail.Run.{Run}
use Rattle.fd_bitmap.specs.Bits.{with_run}
use Rattle.fd_bitmap.specs.Pages.{consecutive, is_among, joined}
use Rattle.fd_bitmap.specs.Runs.{run_pages, IsLaid, EndUpTo, bit_from, count_among}
use Rattle.fd_bitmap.proofs.BitRuns.{with_run-none}
use Rattle.fd_bitmap.proofs.LaidRuns.{before}

pub length-joined : (test : ℕ → Bool) (pages : List ℕ) (bits : List Bool) → length (joined test pages bits) ≡ length bits
length-joined test [] bits = refl
length-joined test (page ∷ pages) [] = refl
length-joined test (page ∷ pages) (bit ∷ bits) = ap suc (length-joined test pages bits)

-- a run that begins behind the first bit, and one that begins with it
with_run-later : (bit : Bool) (bits : List Bool) (from count : ℕ) → with_run (bit ∷ bits) (suc from) count ≡ bit ∷ with_run bits from count
with_run-later bit bits from count =
    let e : suc from + count ≡ suc (from + count) = omega arith in
    ap (λ n. bit ∷ (take from bits ++ (replicate count true ++ drop n (bit ∷ bits)))) e

with_run-first : (bit : Bool) (bits : List Bool) (count : ℕ) → with_run (bit ∷ bits) 0 (suc count) ≡ true ∷ with_run bits 0 count
with_run-first bit bits count =
    let e : 0 + suc count ≡ suc (0 + count) = omega arith in
    ap (λ n. true ∷ (replicate count true ++ drop n (bit ∷ bits))) e

or-false : (bit : Bool) → (bit || false) ≡ bit
or-false true = refl
or-false false = refl

or-true : (bit : Bool) → (bit || true) ≡ true
or-true true = refl
or-true false = refl

-- the bit of a page that is among those, and of one that isn't
among-bit : (first end page : ℕ) (bit : Bool) → first ≤ page → page < end → (bit || is_among first end page) ≡ true
among-bit first end page bit low high =
    let is : is_among first end page ≡ true = grind (arith, nat_tests) in
    ap (λ b. bit || b) is ∙ or-true bit

other-bit : (first end page : ℕ) (bit : Bool) → (first ≤ page → end ≤ page) → (bit || is_among first end page) ≡ bit
other-bit first end page bit other =
    let is : is_among first end page ≡ false = grind (arith, nat_tests) in
    ap (λ b. bit || b) is ∙ or-false bit

-- the places of the pages from one up to another among consecutive pages
abbrev pub place_in : (first page : ℕ) → ℕ
place_in first page = max first page - page

abbrev pub count_in : (first end page count : ℕ) → ℕ
count_in first end page count = min end (page + count) - max first page

-- these have a run of bits
joined-consecutive : (first end page count : ℕ) (bits : List Bool) → count ≤ length bits
    → joined (is_among first end) (range_with_len page count) bits ≡ with_run bits (place_in first page) (count_in first end page count)
joined-consecutive first end page zero bits within =
    let none : count_in first end page 0 ≡ 0 = omega arith in
    sym (with_run-none bits (place_in first page)) ∙ ap (with_run bits (place_in first page)) (sym none)
joined-consecutive first end page (suc count) [] within = absurd (omega arith)
joined-consecutive first end page (suc count) (bit ∷ bits) within =
    let later : joined (is_among first end) (range_with_len (page + 1) count) bits ≡ with_run bits (place_in first (page + 1)) (count_in first end (page + 1) count) =
    joined-consecutive first end (page + 1) count bits (omega arith) in
    elim (leb_tells first page) [
      | inl above ↦ elim (leb_tells end page) [
        | inl past ↦
            let none : count_in first end (page + 1) count ≡ 0 = omega (arith, past.1) in
            let all : count_in first end page (suc count) ≡ 0 = omega (arith, past.1) in
            let rest : with_run bits (place_in first (page + 1)) (count_in first end (page + 1) count) ≡ bits =
            ap (with_run bits (place_in first (page + 1))) none ∙ with_run-none bits (place_in first (page + 1)) in
            let whole : with_run (bit ∷ bits) (place_in first page) (count_in first end page (suc count)) ≡ bit ∷ bits =
            ap (with_run (bit ∷ bits) (place_in first page)) all ∙ with_run-none (bit ∷ bits) (place_in first page) in
            let here : (bit || is_among first end page) ≡ bit = other-bit first end page bit (λ low. past.1) in
            cc
        | inr before ↦
            let here : (bit || is_among first end page) ≡ true = among-bit first end page bit above.1 before.1 in
            let place : place_in first page ≡ 0 = omega (arith, above.1) in
            let next : place_in first (page + 1) ≡ 0 = omega (arith, above.1) in
            let count_is : count_in first end page (suc count) ≡ suc (count_in first end (page + 1) count) = omega (arith, above.1, before.1) in
            let run : with_run (bit ∷ bits) 0 (suc (count_in first end (page + 1) count)) ≡ true ∷ with_run bits 0 (count_in first end (page + 1) count) =
            with_run-first bit bits (count_in first end (page + 1) count) in
            cc
      ]
      | inr below ↦
          let here : (bit || is_among first end page) ≡ bit = other-bit first end page bit (λ low. absurd (omega (arith, below.1))) in
          let place : place_in first page ≡ suc (place_in first (page + 1)) = omega (arith, below.1) in
          let same : count_in first end page (suc count) ≡ count_in first end (page + 1) count = omega (arith, below.1) in
          let run : with_run (bit ∷ bits) (suc (place_in first (page + 1))) (count_in first end (page + 1) count) ≡ bit ∷ with_run bits (place_in first (page + 1))
          (count_in first end (page + 1) count) =
          with_run-later bit bits (place_in first (page + 1)) (count_in first end (page + 1) count) in
          cc
    ]

-- the same behind other pages
joined-behind : (first end page count : ℕ) (before : List ℕ) (bits : List Bool) → length before + count ≤ length bits
    → joined (is_among first end) (before ++ range_with_len page count) bits
    ≡ with_run (joined (is_among first end) before bits) (length before + place_in first page) (count_in first end page count)
joined-behind first end page count [] bits within =
    let e : 0 + place_in first page ≡ place_in first page = omega arith in
    joined-consecutive first end page count bits (omega arith) ∙ ap (λ n. with_run bits n (count_in first end page count)) (sym e)
joined-behind first end page count (other ∷ before) [] within = absurd (omega arith)
joined-behind first end page count (other ∷ before) (bit ∷ bits) within =
    let e : suc (length before) + place_in first page ≡ suc (length before + place_in first page) = omega arith in
    let rest = joined-behind first end page count before bits (omega arith) in
    ap (λ l. (bit || is_among first end other) ∷ l) rest
    ∙ sym (with_run-later (bit || is_among first end other) (joined (is_among first end) before bits) (length before + place_in first page) (count_in first end page count))
    ∙ ap (λ n. with_run ((bit || is_among first end other) ∷ joined (is_among first end) before bits) n (count_in first end page count)) (sym e)

length-first : (first : Run) (runs : List Run) → length (run_pages (first ∷ runs)) ≡ first.count + length (run_pages runs)
unfolding consecutive
length-first first runs = omega (arith, length-append (range_with_len first.page first.count) (run_pages runs), length-range_with_len first.page first.count)

-- how many pages the runs before a run have
length-before : (page bit : ℕ) (runs : List Run) (k : ℕ) (run : Run) → IsLaid page bit runs → slice_get runs k ≡ Some run → bit + length (run_pages (take k runs)) ≡ run.bit
unfolding consecutive
length-before page bit [] k run laid at = cc
length-before page bit (first ∷ runs) zero run laid at =
    let same : first ≡ run = cc in
    omega (arith, laid.0.numbered, ap (λ (r : Run). r.bit) same)
length-before page bit (first ∷ runs) (suc k) run laid at =
    omega (arith, laid.0.numbered, length-first first (take k runs), length-before (first.page + first.count) (first.bit + first.count) runs k run laid.1 at)

-- the pages of one more run
run_pages-more : (runs : List Run) (k : ℕ) (run : Run) → slice_get runs k ≡ Some run → run_pages (take (k + 1) runs) ≡ run_pages (take k runs) ++ range_with_len run.page run.count
unfolding consecutive
run_pages-more runs k run at =
    let within : k < length runs = slice_get_within runs k run at in
    let is : get_or runs k run ≡ run = get_or_from_slice_get runs k run run at in
    ap run_pages (take_more runs k run within)
    ∙ flat_map-append (λ (r : Run). range_with_len r.page r.count) (take k runs) (get_or runs k run ∷ [])
    ∙ ap (λ (r : Run). run_pages (take k runs) ++ (range_with_len r.page r.count ++ [])) is
    ∙ ap (λ l. run_pages (take k runs) ++ l) (append-nil (range_with_len run.page run.count))

-- one more run has its run of bits
pub joined-more : (first end : ℕ) (runs : List Run) (k : ℕ) (run : Run) (bits : List Bool) → IsLaid 0 0 runs → slice_get runs k ≡ Some run → run.bit + run.count ≤ length bits
    → joined (is_among first end) (run_pages (take (k + 1) runs)) bits
    ≡ with_run (joined (is_among first end) (run_pages (take k runs)) bits) (bit_from first run) (count_among first end run)
joined-more first end runs k run bits laid at within =
    let before : length (run_pages (take k runs)) ≡ run.bit = omega (arith, length-before 0 0 runs k run laid at) in
    ap (λ l. joined (is_among first end) l bits) (run_pages-more runs k run at)
    ∙ joined-behind first end run.page run.count (run_pages (take k runs)) bits (omega (arith, before))
    ∙ ap (λ n. with_run (joined (is_among first end) (run_pages (take k runs)) bits) (n + place_in first run.page) (count_among first end run)) before

-- there is room for the bits of each run
pub room : (page bit : ℕ) (runs : List Run) (k : ℕ) (run : Run) → IsLaid page bit runs → slice_get runs k ≡ Some run → run.bit + run.count ≤ bit + length (run_pages runs)
unfolding consecutive
room page bit [] k run laid at = cc
room page bit (first ∷ runs) zero run laid at =
    let same : first ≡ run = cc in
    omega (arith, length-first first runs, laid.0.numbered, ap (λ (r : Run). r.bit) same, ap (λ (r : Run). r.count) same)
room page bit (first ∷ runs) (suc k) run laid at =
    omega (arith, length-first first runs, laid.0.numbered, room (first.page + first.count) (first.bit + first.count) runs k run laid.1 at)

-- a run that ends at or below the first page, or begins at or behind the end, adds nothing
joined-outside : (first end : ℕ) (runs : List Run) (k : ℕ) (run : Run) (bits : List Bool) → IsLaid 0 0 runs → slice_get runs k ≡ Some run → length bits ≡ length (run_pages runs)
    → count_among first end run ≡ 0
    → joined (is_among first end) (run_pages (take (k + 1) runs)) bits ≡ joined (is_among first end) (run_pages (take k runs)) bits
joined-outside first end runs k run bits laid at long none =
    joined-more first end runs k run bits laid at (omega (arith, long, room 0 0 runs k run laid at))
    ∙ ap (with_run (joined (is_among first end) (run_pages (take k runs)) bits) (bit_from first run)) none
    ∙ with_run-none (joined (is_among first end) (run_pages (take k runs)) bits) (bit_from first run)

abbrev pub no_run : Run
no_run = record { page = 0; bit = 0; count = 0 }

-- the runs that end at or below the first page
pub joined-before : (first end : ℕ) (runs : List Run) (k : ℕ) (bits : List Bool) → IsLaid 0 0 runs → length bits ≡ length (run_pages runs) → k ≤ length runs → EndUpTo k first runs
    → joined (is_among first end) (run_pages (take k runs)) bits ≡ bits
joined-before first end runs zero bits laid long within ends = refl
joined-before first end runs (suc k) bits laid long within ends =
    let run : Run = get_or runs k no_run in
    let at : slice_get runs k ≡ Some run = slice_get-get_or runs k no_run (omega arith) in
    let e : suc k ≡ k + 1 = omega arith in
    ap (λ n. joined (is_among first end) (run_pages (take n runs)) bits) e
    ∙ joined-outside first end runs k run bits laid at long (omega (arith, ends k run (omega arith) at))
    ∙ joined-before first end runs k bits laid long (omega arith) (λ j other order. ends j other (omega arith))

-- the runs that begin at or behind the end
joined-past : (first end : ℕ) (runs : List Run) (k more : ℕ) (bits : List Bool) → IsLaid 0 0 runs → length bits ≡ length (run_pages runs) → k + more ≤ length runs
    → ((j : ℕ) (run : Run) → k ≤ j → slice_get runs j ≡ Some run → end ≤ run.page)
    → joined (is_among first end) (run_pages (take (k + more) runs)) bits ≡ joined (is_among first end) (run_pages (take k runs)) bits
joined-past first end runs k zero bits laid long within begin =
    let e : k + 0 ≡ k = omega arith in
    ap (λ n. joined (is_among first end) (run_pages (take n runs)) bits) e
joined-past first end runs k (suc more) bits laid long within begin =
    let run : Run = get_or runs (k + more) no_run in
    let at : slice_get runs (k + more) ≡ Some run = slice_get-get_or runs (k + more) no_run (omega arith) in
    let e : k + suc more ≡ k + more + 1 = omega arith in
    ap (λ n. joined (is_among first end) (run_pages (take n runs)) bits) e
    ∙ joined-outside first end runs (k + more) run bits laid at long (omega (arith, begin (k + more) run (omega arith) at))
    ∙ joined-past first end runs k more bits laid long (omega arith) begin

-- so where a run begins at or behind the end, those before it are all that count
pub joined-up_to : (first end : ℕ) (runs : List Run) (k : ℕ) (run : Run) (bits : List Bool) → IsLaid 0 0 runs → length bits ≡ length (run_pages runs) → slice_get runs k ≡ Some run → end ≤ run.page
    → joined (is_among first end) (run_pages runs) bits ≡ joined (is_among first end) (run_pages (take k runs)) bits
joined-up_to first end runs k run bits laid long at past =
    let within : k < length runs = slice_get_within runs k run at in
    let e : k + (length runs - k) ≡ length runs = omega arith in
    ap (λ l. joined (is_among first end) (run_pages l) bits) (sym (take_all (length runs) runs (omega arith)) ∙ ap (λ n. take n runs) (sym e))
    ∙ joined-past first end runs k (length runs - k) bits laid long (omega arith) begin
  where
    begin : (j : ℕ) (other : Run) → k ≤ j → slice_get runs j ≡ Some other → end ≤ other.page
    begin j other order at_j = elim (eqb_tells k j) [
      | inl same ↦
          let is : run ≡ other = (let e : Some run ≡ Some other = sym at ∙ ap (slice_get runs) same.1 ∙ at_j in cc) in
          omega (arith, ap (λ (r : Run). r.page) is)
      | inr apart ↦ omega (arith, before 0 0 runs k j run other laid (omega arith) at at_j)
    ]

-- the runs before one that begins at or below a page end there
pub EndUpTo-before : (page : ℕ) (runs : List Run) (k : ℕ) (run : Run) → IsLaid 0 0 runs → slice_get runs k ≡ Some run → run.page ≤ page → EndUpTo k page runs
EndUpTo-before page runs k run laid at low j other order at_j = omega (arith, before 0 0 runs j k other run laid order at_j at)
