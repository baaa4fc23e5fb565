-- The laws of Arm's descriptors.
use Rattle.std.proofs.Common.{◌≡◌, ◌∙◌, ℕ, ◌+◌, ◌*◌, ◌/◌, ◌%◌, ◌^◌, ◌<◌, ◌≤◌, zero, suc, Bool, true, false, not, if◌then◌else◌, ap, arith, lit<, lit≤}
use Rattle.fd_pte.specs.declared.entry.Kind.TheVariants.{Absent, Table, Leaf}
use Rattle.fd_pte.specs.Bits.{bits_from_to}
use Rattle.fd_pte.specs.Entry.{bytes_under, units_under, IsPlaced, IsExpanded}
use Rattle.fd_pte.specs.BitLaws.{frame_of, placed_if, same_bit}
use Rattle.fd_pte.specs.Arm64.{arm64_kind, arm64_expansion, arm64_protection, output_address, valid, table_or_page, read_only, no_execute}

pub arm64_placed : (bits height : ℕ) → bits < 2 ^ 64 → height ≤ 3 → IsPlaced height (arm64_kind bits height)
arm64_placed bits zero fits low =
    placed_if 0 (not (valid bits)) _ _ tt (placed_if 0 (table_or_page bits) _ _ (frame_of 36 12 bits (lit≤ tt)) tt)
arm64_placed bits (suc zero) fits low =
    placed_if 1 (not (valid bits)) _ _ tt (placed_if 1 (table_or_page bits) _ _ (lit< tt, frame_of 36 12 bits (lit≤ tt)) (frame_of 27 21 bits (lit≤ tt)))
arm64_placed bits (suc (suc zero)) fits low =
    placed_if 2 (not (valid bits)) _ _ tt (placed_if 2 (table_or_page bits) _ _ (lit< tt, frame_of 36 12 bits (lit≤ tt)) (frame_of 18 30 bits (lit≤ tt)))
arm64_placed bits (suc (suc (suc zero))) fits low =
    placed_if 3 (not (valid bits)) _ _ tt (placed_if 3 (table_or_page bits) _ _ (lit< tt, frame_of 36 12 bits (lit≤ tt)) tt)
arm64_placed bits (suc (suc (suc (suc height)))) fits low = absurd (omega arith)

-- where blocks exist, a leaf is at its output address
mapped : (v t : Bool) (table output address : ℕ)
    → (if not v then Absent else if t then Table table else Leaf output) ≡ Leaf address → output ≡ address
mapped true false table output address leaf = cc
mapped true true table output address leaf = cc
mapped false t table output address leaf = cc

-- there is no leaf where no blocks exist
unmapped : (v t : Bool) (table address : ℕ) → (if not v then Absent else if t then Table table else Absent) ≡ Leaf address → ⊥
unmapped true false table address leaf = cc
unmapped true true table address leaf = cc
unmapped false t table address leaf = cc

-- a page descriptor that is valid is a leaf
maps : (v t : Bool) (output : ℕ) → v ≡ true → t ≡ true
    → (if not v then Absent else if t then Leaf output else Absent) ≡ Leaf output
maps v t output is_valid is_page = rw (is_valid, is_page)

-- a page descriptor at a page's address, with the attributes of a block
page_at : (bits address : ℕ) → address % 4096 ≡ 0 → address < 2 ^ 48
    → IsExpanded arm64_kind arm64_protection 0 bits address (bits_from_to 48 63 bits + address + bits_from_to 2 11 bits + 3)
page_at bits address aligned short =
    let page = bits_from_to 48 63 bits + address + bits_from_to 2 11 bits + 3 in
    let is_valid : valid page ≡ true = same_bit (page / 2 ^ 0 % 2) 1 (omega arith) in
    let is_page : table_or_page page ≡ true = same_bit (page / 2 ^ 1 % 2) 1 (omega arith) in
    let output : output_address page 0 ≡ address = omega arith in
    let only_read : read_only page ≡ read_only bits = same_bit (page / 2 ^ 7 % 2) (bits / 2 ^ 7 % 2) (omega arith) in
    let may_not_execute : no_execute page ≡ no_execute bits = same_bit (page / 2 ^ 53 % 2) (bits / 2 ^ 53 % 2) (omega arith) in
    record {
      leaf = maps (valid page) (table_or_page page) (output_address page 0) is_valid is_page ∙ ap Leaf output;
      same_protection = rw (only_read, may_not_execute);
      fits = omega arith;
    }

pub arm64_expanded : (bits height index address : ℕ) → bits < 2 ^ 64 → height ≤ 3
    → 0 < height → index < units_under 0 height → arm64_kind bits height ≡ Leaf address
    → IsExpanded arm64_kind arm64_protection 0 bits (address + index * bytes_under 0) (arm64_expansion bits height index)
arm64_expanded bits zero index address fits low larger within leaf = absurd (omega arith)
arm64_expanded bits (suc zero) index address fits low larger within leaf =
    rw (← mapped (valid bits) (table_or_page bits) _ _ address leaf)
    (page_at bits (output_address bits 1 + index * 4096) (omega arith) (omega arith))
arm64_expanded bits (suc (suc zero)) index address fits low larger within leaf =
    rw (← mapped (valid bits) (table_or_page bits) _ _ address leaf)
    (page_at bits (output_address bits 2 + index * 4096) (omega arith) (omega arith))
arm64_expanded bits (suc (suc (suc zero))) index address fits low larger within leaf =
    absurd (unmapped (valid bits) (table_or_page bits) _ address leaf)
arm64_expanded bits (suc (suc (suc (suc height)))) index address fits low larger within leaf = absurd (omega arith)
