-- The length that the tables give the file, against the length that it has.
use Rattle.std.proofs.Common.{◌≡◌, ℕ, eq-eqb, ◌+◌, ◌*◌, ◌<◌, ◌≤◌, min, Bool, true, false, ◌==◌, nat_lt, List, length, map, slice_range, sum, Option}
use Rattle.std.proofs.Common.{Some, None, IfSome, IsSomeAnd, if◌then◌else◌, refl, sym, ◌∙◌, ap, arith}
use Rattle.std.specs.List.{range_with_len}
use Rattle.std.proofs.lemmas.List.FromFn.{sum_by-map-range_with_len_more}
use Rattle.std.proofs.lemmas.Bool.Decides.{nat_tests}
use Rattle.fd_bytes.specs.Field.{u64_le_at}
use Rattle.fd_imgfile.specs.Front.{IsFront, lengths_in, tables_length, texts_length}
use Rattle.fd_imgfile.specs.Reading.{by_front, by_length, fault_place, segment_lengths, tables_end, whole_length}
use Rattle.fd_imgfile.specs.declared.front.Front.{Front}
use Rattle.fd_imgfile.proofs.Fronts.{fault_place-long}
use Rattle.fd_imgfile.proofs.Pairs.{lengths_in-slice}

tables_end_is : (f : List ℕ) (h : Front) → IsFront f h → tables_end f ≡ 112 + tables_length h
tables_end_is f h front = omega (arith, front.counted.segs, front.counted.avail, front.counted.wanted)

-- what is left once the fields are kept
after_fields : (f : List ℕ) (h : Front) → IsFront f h → fault_place f ≡ by_length f
after_fields f h front = fault_place-long f front.long ∙ ap (by_front f) front.kept

-- by a length that was compared with the whole
abbrev by_length_of : List ℕ → Bool → Option ℕ
by_length_of f same = if same then None else Some (min (length f) (whole_length f))

pub tables_fault : (f : List ℕ) (h : Front) (len : ℕ) → IsFront f h → length f ≡ len → len < 112 + tables_length h → fault_place f ≡ Some len
tables_fault f h len front is short =
    let test : nat_lt (length f) (tables_end f) ≡ true = grind (arith, nat_tests, tables_end_is f h front) in
    after_fields f h front ∙ (ap (λ t. if t then Some (length f) else by_length_of f (length f == whole_length f)) test ∙ ap Some is)

-- by the whole length, where the tables are all there
by_whole : (f : List ℕ) (h : Front) → IsFront f h → 112 + tables_length h ≤ length f → fault_place f ≡ by_length_of f (length f == whole_length f)
by_whole f h front long =
    let test : nat_lt (length f) (tables_end f) ≡ false = grind (arith, nat_tests, tables_end_is f h front) in
    after_fields f h front ∙ ap (λ t. if t then Some (length f) else by_length_of f (length f == whole_length f)) test

-- these bytes of a file are its table of segments
pub record IsTable (f table : List ℕ) (h : Front) : Type 0 where
  pub front : IsFront f h
  pub long : 112 + tables_length h ≤ length f
  pub read : table ≡ slice_range f 112 (112 + 16 * h.segs)

-- the whole length, by the table of segments
whole_length_is : (f table : List ℕ) (h : Front) → IsTable f table h → whole_length f ≡ 112 + tables_length h + texts_length h + sum (lengths_in table h.segs)
whole_length_is f table h t =
    let count : segment_lengths f ≡ map (λ i. u64_le_at f (120 + 16 * i)) (range_with_len 0 h.segs) =
    ap (λ n. map (λ i. u64_le_at f (120 + 16 * i)) (range_with_len 0 n)) t.front.counted.segs in
    let lengths : lengths_in table h.segs ≡ map (λ i. u64_le_at f (120 + 16 * i)) (range_with_len 0 h.segs) =
    ap (λ (l : List ℕ). lengths_in l h.segs) t.read ∙ lengths_in-slice f 112 (112 + 16 * h.segs) h.segs (omega arith) in
    let sums : sum (segment_lengths f) ≡ sum (lengths_in table h.segs) = ap sum (count ∙ sym lengths) in
    omega (arith, sums, tables_end_is f h t.front, t.front.counted.host, t.front.counted.version, t.front.counted.panic, t.front.counted.msgbuf)

pub whole_fault : (f table : List ℕ) (h : Front) (len whole : ℕ) → IsTable f table h → length f ≡ len
    → whole ≡ 112 + tables_length h + texts_length h + sum (lengths_in table h.segs) → ¬ (len ≡ whole) → fault_place f ≡ Some (min len whole)
whole_fault f table h len whole t is sum_is differ =
    let same : whole_length f ≡ whole = whole_length_is f table h t ∙ sym sum_is in
    let test : (length f == whole_length f) ≡ false = rw (is, same) (differs len whole differ) in
    by_whole f h t.front t.long ∙ (ap (by_length_of f) test ∙ rw (is, same) refl)
  where
    differs : (m n : ℕ) → ¬ (m ≡ n) → (m == n) ≡ false
    differs m n differ = grind (arith, nat_tests)

pub whole_kept : (f table : List ℕ) (h : Front) (len : ℕ) → IsTable f table h → length f ≡ len
    → len ≡ 112 + tables_length h + texts_length h + sum (lengths_in table h.segs) → fault_place f ≡ None
whole_kept f table h len t is sum_is =
    let same : whole_length f ≡ length f = whole_length_is f table h t ∙ (sym sum_is ∙ sym is) in
    by_whole f h t.front t.long ∙ ap (by_length_of f) (eq-eqb (length f) (whole_length f) (sym same))

-- one more segment
pub sum-more : (table : List ℕ) (i : ℕ) → sum (lengths_in table (i + 1)) ≡ sum (lengths_in table i) + u64_le_at table (16 * i + 8)
sum-more table i = sum_by-map-range_with_len_more (λ n. n) (λ i. u64_le_at table (16 * i + 8)) 0 i i (omega arith)

-- the fault of a file whose table of segments was read
pub of_table : (file : Option (List ℕ)) (len : ℕ) (table : List ℕ) (h : Front) (fault : Option ℕ) → 112 + tables_length h ≤ len
    → IsSomeAnd file (λ f. length f ≡ len) → IfSome file (λ f. IsFront f h) → IfSome file (λ f. table ≡ slice_range f 112 (112 + 16 * h.segs))
    → ((f : List ℕ) → length f ≡ len → IsTable f table h → fault_place f ≡ fault) → IfSome file (λ f. fault_place f ≡ fault)
of_table None len table h fault long has front read step = absurd has
of_table (Some f) len table h fault long has front read step = step f has (record { front = front; long = omega (arith, long, has); read = read })
