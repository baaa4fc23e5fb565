-- The laws of AMD64's entries.
use Rattle.std.proofs.Common.{◌≡◌, ◌∙◌, ℕ, ◌+◌, ◌*◌, ◌/◌, ◌%◌, ◌^◌, ◌<◌, ◌≤◌, zero, suc, Bool, true, false, not, if◌then◌else◌, refl, ap, arith, lit<, lit≤}
use Rattle.fd_pte.specs.declared.entry.Kind.TheVariants.{Absent, Table, Leaf}
use Rattle.fd_pte.specs.Bits.{bits_from_to}
use Rattle.fd_pte.specs.Entry.{bytes_under, units_under, IsPlaced, IsExpanded}
use Rattle.fd_pte.specs.BitLaws.{frame_of, placed_if, same_bit}
use Rattle.fd_pte.specs.Amd64.{amd64_kind, amd64_expansion, amd64_protection, present, large, writable, no_execute}

pub amd64_placed : (bits height : ℕ) → bits < 2 ^ 64 → height ≤ 3 → IsPlaced height (amd64_kind bits height)
amd64_placed bits zero fits low =
    placed_if 0 (not (present bits)) _ _ tt (frame_of 40 12 bits (lit≤ tt))
amd64_placed bits (suc zero) fits low =
    placed_if 1 (not (present bits)) _ _ tt (placed_if 1 (not (large bits)) _ _ (lit< tt, frame_of 40 12 bits (lit≤ tt)) (frame_of 31 21 bits (lit≤ tt)))
amd64_placed bits (suc (suc zero)) fits low =
    placed_if 2 (not (present bits)) _ _ tt (placed_if 2 (not (large bits)) _ _ (lit< tt, frame_of 40 12 bits (lit≤ tt)) (frame_of 22 30 bits (lit≤ tt)))
amd64_placed bits (suc (suc (suc zero))) fits low =
    placed_if 3 (not (present bits)) _ _ tt (placed_if 3 (not (large bits)) _ _ (lit< tt, frame_of 40 12 bits (lit≤ tt)) tt)
amd64_placed bits (suc (suc (suc (suc height)))) fits low = absurd (omega arith)

-- where large pages exist, a leaf is present, large and at the address of its frame
mapped : (p l : Bool) (table frame address : ℕ)
    → (if not p then Absent else if not l then Table table else Leaf frame) ≡ Leaf address
    → (p ≡ true) × (l ≡ true) × (frame ≡ address)
mapped true true table frame address leaf = (refl, refl, cc)
mapped true false table frame address leaf = cc
mapped false l table frame address leaf = cc

-- and conversely
maps : (p l : Bool) (table frame : ℕ) → p ≡ true → l ≡ true
    → (if not p then Absent else if not l then Table table else Leaf frame) ≡ Leaf frame
maps p l table frame is_present is_large = rw (is_present, is_large)

-- there is no leaf where no large pages exist
unmapped : (p l : Bool) (table address : ℕ) → (if not p then Absent else if not l then Table table else Absent) ≡ Leaf address → ⊥
unmapped true true table address leaf = cc
unmapped true false table address leaf = cc
unmapped false l table address leaf = cc

pub amd64_expanded : (bits height index address : ℕ) → bits < 2 ^ 64 → height ≤ 3
    → 1 < height → index < units_under 1 height → amd64_kind bits height ≡ Leaf address
    → IsExpanded amd64_kind amd64_protection 1 bits (address + index * bytes_under 1) (amd64_expansion bits height index)
amd64_expanded bits zero index address fits low larger within leaf = absurd (omega arith)
amd64_expanded bits (suc zero) index address fits low larger within leaf = absurd (omega arith)
amd64_expanded bits (suc (suc zero)) index address fits low larger within leaf =
    let is_leaf = mapped (present bits) (large bits) _ _ address leaf in
    let unit = amd64_expansion bits 2 index in
    let is_present : present unit ≡ true = same_bit (unit / 2 ^ 0 % 2) (bits / 2 ^ 0 % 2) (omega arith) ∙ is_leaf.0 in
    let is_large : large unit ≡ true = same_bit (unit / 2 ^ 7 % 2) (bits / 2 ^ 7 % 2) (omega arith) ∙ is_leaf.1 in
    let frame : bits_from_to 21 51 unit ≡ bits_from_to 30 51 bits + index * 2 ^ 21 = omega arith in
    let may_write : writable unit ≡ writable bits = same_bit (unit / 2 ^ 1 % 2) (bits / 2 ^ 1 % 2) (omega arith) in
    let may_not_execute : no_execute unit ≡ no_execute bits = same_bit (unit / 2 ^ 63 % 2) (bits / 2 ^ 63 % 2) (omega arith) in
    record {
      leaf =
          maps (present unit) (large unit) (bits_from_to 12 51 unit) (bits_from_to 21 51 unit) is_present is_large
          ∙ ap Leaf (frame ∙ ap (λ start. start + index * 2 ^ 21) is_leaf.2);
      same_protection = rw (may_write, may_not_execute);
      fits = omega arith;
    }
amd64_expanded bits (suc (suc (suc zero))) index address fits low larger within leaf =
    absurd (unmapped (present bits) (large bits) _ address leaf)
amd64_expanded bits (suc (suc (suc (suc height)))) index address fits low larger within leaf = absurd (omega arith)
