-- The file of a valid image has no fault.
use Rattle.std.proofs.Common.{◌≡◌, ℕ, zero, suc, ◌+◌, ◌-◌, ◌*◌, ◌<◌, ◌≤◌, ◌^◌, Bool, true, false, ◌&&◌, nat_lt, nat_le, cond, List, [], ◌∷◌, ◌++◌}
use Rattle.std.proofs.Common.{length, map, take, drop, get_or, slice_range, sum, All, Some, None, refl, sym, ◌∙◌, ap, eq-eqb, arith}
use Rattle.std.specs.Int.{w64, from_le_bytes}
use Rattle.std.specs.List.{flat_map, sum_by}
use Rattle.std.proofs.lemmas.Bool.Decides.{nat_tests}
use Rattle.std.proofs.lemmas.List.{drop-drop, drop_at, get_or-map, length-append, length-map}
use Rattle.std.proofs.lemmas.List.Concat.{concat_is, length-flat_map}
use Rattle.std.proofs.lemmas.List.Elements.{All-head, All-tail}
use Rattle.std.proofs.lemmas.List.Folds.{fold-map}
use Rattle.std.proofs.lemmas.List.FromFn.{fill_by_all}
use Rattle.std.proofs.lemmas.List.Sums.{get_or-le-sum_by, sum-map}
use Rattle.std.proofs.lemmas.Slice.Eq.{bytes_eq-Decides}
use Rattle.fd_bytes.specs.Field.{u32_le_at, u64_le_at}
use Rattle.fd_bytes.proofs.Fields.{u32_le_at-spelled, u64_le_at-spelled}
use Rattle.fd_bytes.specs.declared.arch.Arch.{Arch}
use Rattle.fd_bytes.specs.declared.arch.Arch.TheVariants.{Amd64, Arm64, Riscv}
use Rattle.fd_image.specs.Image.{MachineImage, IsValid, is_known_paging, is_within_limits}
use Rattle.fd_image.specs.declared.parts.Seg.{Seg}
use Rattle.fd_image.proofs.Valid.{KeepsRules, kept, rules_kept}
use Rattle.fd_imgfile.specs.Front.{IsCounted, IsFront, IsWithinLimits, front_in, lengths_in, second, tables_length, texts_length}
use Rattle.fd_imgfile.specs.Reading.{fault_place, first_broken, front_checks}
use Rattle.fd_imgfile.specs.Spelling.{FitsFields, avail_bytes, front_of, magic, memory_of, number_of, seg_bytes, spelling_of, u64}
use Rattle.fd_imgfile.specs.declared.front.Front.{Front}
use Rattle.fd_imgfile.proofs.Fields.{AllKept}
use Rattle.fd_imgfile.proofs.Lengths.{whole_kept}
use Rattle.fd_imgfile.proofs.OneSpelling.{fits_number, spelling_in_order}
use Rattle.fd_imgfile.proofs.Pairs.{u64_le_at-slice}

both : (a b : Bool) → (a && b) ≡ true → (a ≡ true) × (b ≡ true)
both true b same = (refl, same)
both false b same = absurd (cc)

within : (n limit : ℕ) → nat_le n limit ≡ true → n ≤ limit
within n limit test = grind (arith, nat_tests)

abbrev pub memory_size : List Seg → ℕ
memory_size segs = sum_by (λ seg. length seg.bytes) segs

limits_kept : (m : MachineImage) → is_within_limits m ≡ true → is_known_paging m.arch m.sv48 ≡ true → (memory_size m.segs ≤ 2 ^ 30) × IsWithinLimits (front_in m)
limits_kept m test paging =
    let e = both _ _ test in
    let d = both _ _ e.0 in
    let c = both _ _ d.0 in
    let b = both _ _ c.0 in
    let t = both _ _ e.1 in
    let p = both _ _ t.0 in
    let h = both _ _ p.0 in (
      within (memory_size m.segs) (2 ^ 30) b.0,
      record {
        segs = within (length m.segs) 64 b.1;
        avail = within (length m.avail) 1024 c.1;
        wanted = within (length m.wanted) 262144 d.1;
        host = within (length m.texts.host) 255 h.0;
        version = within (length m.texts.version) 1023 h.1;
        panic = within (length m.texts.panic) 1023 p.1;
        msgbuf = within (length m.texts.msgbuf) 1048576 t.1;
        paging = paging;
      },
    )

pub valid_limits : (m : MachineImage) → IsValid m → (memory_size m.segs ≤ 2 ^ 30) × IsWithinLimits (front_in m)
valid_limits m valid = let rules : KeepsRules m = rules_kept m valid.unbroken in
    limits_kept m (kept (is_within_limits m) rules.within_limits) (kept (is_known_paging m.arch m.sv48) rules.known_paging)

pub valid_fits : (m : MachineImage) → IsValid m → FitsFields m
valid_fits m valid =
    let limits : (memory_size m.segs ≤ 2 ^ 30) × IsWithinLimits (front_in m) = valid_limits m valid in
    let h : IsWithinLimits (front_in m) = limits.1 in
    record {
      counts = (omega (arith, h.segs), omega (arith, h.avail), omega (arith, h.wanted));
      names = (omega (arith, h.host), omega (arith, h.version), omega (arith, h.panic));
      msgbuf = omega (arith, h.msgbuf);
      sizes = λ k d below. omega (arith, get_or-le-sum_by (λ seg. length seg.bytes) m.segs k d below, limits.0);
      paging = h.paging;
    }

-- the counts and the lengths stand in the fields
counted : (m : MachineImage) (rest : List ℕ) → FitsFields m → IsCounted (front_of m ++ rest) (front_in m)
counted m rest fits = record {
  segs = u32_le_at-spelled (front_of m ++ rest) 24 (length m.segs) fits.counts.0 refl;
  avail = u32_le_at-spelled (front_of m ++ rest) 28 (length m.avail) fits.counts.1 refl;
  wanted = u32_le_at-spelled (front_of m ++ rest) 32 (length m.wanted) fits.counts.2 refl;
  host = u32_le_at-spelled (front_of m ++ rest) 36 (length m.texts.host) fits.names.0 refl;
  version = u32_le_at-spelled (front_of m ++ rest) 40 (length m.texts.version) fits.names.1 refl;
  panic = u32_le_at-spelled (front_of m ++ rest) 44 (length m.texts.panic) fits.names.2 refl;
  msgbuf = u32_le_at-spelled (front_of m ++ rest) 48 (length m.texts.msgbuf) fits.msgbuf refl;
}

none_broken : (checks : List (Bool × ℕ)) → AllKept checks → first_broken checks ≡ None
none_broken [] kept = refl
none_broken (check ∷ checks) kept = ap (λ t. cond t (first_broken checks) (Some check.1)) kept.0 ∙ none_broken checks kept.1

passes : (n k limit : ℕ) → n ≡ k → k ≤ limit → nat_le n limit ≡ true
passes n k limit is below = grind (arith, nat_tests)

some_arch : (n k : ℕ) → n ≡ k → 0 < k → nat_lt 0 n ≡ true
some_arch n k is above = grind (arith, nat_tests)

arch_within : (arch : Arch) (sv48 : Bool) → (0 < number_of arch sv48) × (number_of arch sv48 ≤ 4)
arch_within Amd64 sv48 = (omega arith, omega arith)
arch_within Arm64 sv48 = (omega arith, omega arith)
arch_within Riscv true = (omega arith, omega arith)
arch_within Riscv false = (omega arith, omega arith)

checks_kept : (m : MachineImage) (rest : List ℕ) → FitsFields m → IsWithinLimits (front_in m) → first_broken (front_checks (front_of m ++ rest)) ≡ None
checks_kept m rest fits limits =
    let f : List ℕ = front_of m ++ rest in
    let c : IsCounted f (front_in m) = counted m rest fits in
    let number : ℕ = number_of m.arch m.sv48 in
    let arch : u32_le_at f 20 ≡ number = u32_le_at-spelled f 20 number (fits_number m.arch m.sv48) refl in
    none_broken (front_checks f) (
      (bytes_eq-Decides (take 16 f) magic).1 refl,
      (
        eq-eqb (u32_le_at f 16) 1 (u32_le_at-spelled f 16 1 (omega arith) refl),
        (
          some_arch (u32_le_at f 20) number arch (arch_within m.arch m.sv48).0,
          (
            passes (u32_le_at f 20) number 4 arch (arch_within m.arch m.sv48).1,
            (
              passes (u32_le_at f 24) (length m.segs) 64 c.segs limits.segs,
              (
                passes (u32_le_at f 28) (length m.avail) 1024 c.avail limits.avail,
                (
                  passes (u32_le_at f 32) (length m.wanted) 262144 c.wanted limits.wanted,
                  (
                    passes (u32_le_at f 36) (length m.texts.host) 255 c.host limits.host,
                    (
                      passes (u32_le_at f 40) (length m.texts.version) 1023 c.version limits.version,
                      (
                        passes (u32_le_at f 44) (length m.texts.panic) 1023 c.panic limits.panic,
                        (
                          passes (u32_le_at f 48) (length m.texts.msgbuf) 1048576 c.msgbuf limits.msgbuf,
                          (
                            eq-eqb (u32_le_at f 52) 0 (u32_le_at-spelled f 52 0 (omega arith) refl),
                            tt,
                          ),
                        ),
                      ),
                    ),
                  ),
                ),
              ),
            ),
          ),
        ),
      ),
    )

-- a number behind a part of known length
u64_behind : (front rest : List ℕ) (n at : ℕ) → length front ≡ n → u64_le_at (front ++ rest) (n + at) ≡ u64_le_at rest at
unfolding u64_le_at
u64_behind front rest n at is =
    let behind : drop (n + at) (front ++ rest) ≡ drop at rest = sym (drop-drop at n (front ++ rest)) ∙ ap (drop at) (drop_at front rest n is) in
    ap (from_le_bytes w64) (ap (take (n + at + 8 - (n + at))) behind ∙ ap (λ k. take k (drop at rest)) (omega arith))

-- the table has each segment's length
size_at : (segs : List Seg) (rest : List ℕ) (k : ℕ) (d : Seg) → k < length segs → All (λ seg. length seg.bytes < 2 ^ 64) segs
    → u64_le_at (flat_map seg_bytes segs ++ rest) (16 * k + 8) ≡ length (get_or segs k d).bytes
size_at [] rest k d below fits = absurd (omega arith)
size_at (x ∷ xs) rest zero d below fits = u64_le_at-spelled (flat_map seg_bytes (x ∷ xs) ++ rest) 8 (length x.bytes) (All-head (λ seg. length seg.bytes < 2 ^ 64) x xs fits) refl
size_at (x ∷ xs) rest (suc k) d below fits =
    ap (u64_le_at (flat_map seg_bytes (x ∷ xs) ++ rest)) (omega arith)
    ∙ (u64_behind (seg_bytes x) (flat_map seg_bytes xs ++ rest) 16 (16 * k + 8) refl ∙ size_at xs rest k d (omega arith) (All-tail (λ seg. length seg.bytes < 2 ^ 64) x xs fits))

-- a segment's pair in the table
abbrev shape_of : Seg → ℕ × ℕ
shape_of seg = (seg.start, length seg.bytes)

-- how long the tables are
pub sixteens : {X : Type 0} (f : X → List ℕ) (size : (x : X) → length (f x) ≡ 16) (xs : List X) → length (flat_map f xs) ≡ 16 * length xs
sixteens f size [] = refl
sixteens f size (x ∷ xs) = omega (arith, length-append (f x) (flat_map f xs), size x, sixteens f size xs)

pub eights : (xs : List ℕ) → length (flat_map u64 xs) ≡ 8 * length xs
eights [] = refl
eights (x ∷ xs) = omega (arith, length-append (u64 x) (flat_map u64 xs), eights xs)

pub memory_length : (m : MachineImage) → length (memory_of m) ≡ memory_size m.segs
memory_length m = ap length (concat_is (map (λ seg. seg.bytes) m.segs))
    ∙ (length-flat_map (λ (bytes : List ℕ). bytes) (map (λ seg. seg.bytes) m.segs) ∙ fold-map (λ (a : ℕ) (bytes : List ℕ). a + length bytes) (λ (seg : Seg). seg.bytes) 0 m.segs)

pub unfaulted : (m : MachineImage) → IsValid m → fault_place (spelling_of m) ≡ None
unfaulted m valid =
    let limits : (memory_size m.segs ≤ 2 ^ 30) × IsWithinLimits (front_in m) = valid_limits m valid in
    let fits : FitsFields m = valid_fits m valid in
    let h : Front = front_in m in
    let table : List ℕ = flat_map seg_bytes m.segs in
    let r5 : List ℕ = m.texts.msgbuf ++ memory_of m in
    let r4 : List ℕ = m.texts.panic ++ r5 in
    let r3 : List ℕ = m.texts.version ++ r4 in
    let r2 : List ℕ = m.texts.host ++ r3 in
    let r1 : List ℕ = flat_map u64 m.wanted ++ r2 in
    let r0 : List ℕ = flat_map avail_bytes m.avail ++ r1 in
    let f : List ℕ = front_of m ++ (table ++ r0) in
    let pairs : List (ℕ × ℕ) = map shape_of m.segs in
    let sizes : sum_by second pairs ≡ memory_size m.segs = fold-map (λ (a : ℕ) (p : ℕ × ℕ). a + p.1) shape_of 0 m.segs in
    let size : length f ≡ 112 + tables_length h + texts_length h + sum_by second pairs =
    omega (
      arith,
      sizes,
      memory_length m,
      length-append (front_of m) (table ++ r0),
      length-append table r0,
      length-append (flat_map avail_bytes m.avail) r1,
      length-append
          (flat_map u64 m.wanted) r2,
      length-append m.texts.host r3,
      length-append m.texts.version r4,
      length-append m.texts.panic r5,
      length-append m.texts.msgbuf
          (memory_of m),
      sixteens seg_bytes (λ seg. refl) m.segs,
      sixteens avail_bytes (λ pair. refl) m.avail,
      eights m.wanted,
    ) in
    let front : IsFront f h = record { long = omega (arith, size); kept = checks_kept m (table ++ r0) fits limits.1; spelled = refl; counted = counted m (table ++ r0) fits } in
    let bytes : List ℕ = slice_range f 112 (112 + 16 * length m.segs) in
    let none : Seg = record { start = 0; bytes = [] } in
    let second_at : (k : ℕ) → k < length m.segs → get_or (map second pairs) k 0 ≡ u64_le_at bytes (16 * k + 8) =
    λ k below. get_or-map second pairs k (shape_of none) 0 (omega (arith, length-map m.segs shape_of))
    ∙ (ap second (get_or-map shape_of m.segs k none (shape_of none) below) ∙ sym
    (u64_le_at-slice f 112 (112 + 16 * length m.segs) (16 * k + 8) (omega arith) ∙ (u64_behind (front_of m) (table ++ r0) 112 (16 * k + 8) refl ∙ size_at m.segs r0 k none below fits.sizes))) in
    let seconds : map second pairs ≡ lengths_in bytes (length m.segs) =
    fill_by_all (λ i. u64_le_at bytes (16 * i + 8)) (map second pairs) (length m.segs) 0 (length-map pairs second ∙ length-map m.segs shape_of) second_at in
    let sums : sum (lengths_in bytes (length m.segs)) ≡ sum_by second pairs = ap sum (sym seconds) ∙ sum-map second pairs in
    ap fault_place (spelling_in_order m) ∙ whole_kept f bytes h (length f) (record { front = front; long = omega (arith, size); read = refl }) refl (omega (arith, size, sums))
