-- The laws of RISC-V's entries.
use Rattle.std.proofs.Common.{◌≡◌, ◌∙◌, ℕ, ◌+◌, ◌*◌, ◌/◌, ◌%◌, ◌^◌, ◌==◌, ◌||◌, ◌<◌, ◌≤◌, zero, suc, Bool, true, false, not, if◌then◌else◌, refl, ap, arith, lit<}
use Rattle.std.proofs.lemmas.Bool.{eqb-true}
use Rattle.fd_pte.specs.declared.entry.Kind.TheVariants.{Absent, Table, Leaf}
use Rattle.fd_pte.specs.Entry.{bytes_under, units_under, IsFrame, IsPlaced, IsExpanded}
use Rattle.fd_pte.specs.BitLaws.{placed_if, same_bit}
use Rattle.fd_pte.specs.Riscv.{riscv_kind, riscv_expansion, riscv_protection, page_number, pointer, reserved, valid, readable, writable, executable}

-- a page number gives a page's address
page_placed : (bits : ℕ) → IsFrame 4096 (page_number bits * 2 ^ 12)
page_placed bits = record { aligned = omega arith; short = omega arith }

-- a leaf is placed where its page number is a multiple of its pages
leaf_placed : (height page : ℕ) (aligned : Bool) → (aligned ≡ true → IsFrame (bytes_under height) page)
    → IsPlaced height (if aligned then Leaf page else Absent)
leaf_placed height page true frame = frame refl
leaf_placed height page false frame = tt

pub riscv_placed : (bits height : ℕ) → bits < 2 ^ 64 → height ≤ 3 → IsPlaced height (riscv_kind bits height)
riscv_placed bits zero fits low =
    placed_if 0 (not (valid bits) || reserved bits) _ _ tt (placed_if 0 (pointer bits) _ _ tt
    (leaf_placed 0 _ (page_number bits % 2 ^ 0 == 0) (λ aligned. page_placed bits)))
riscv_placed bits (suc zero) fits low =
    placed_if 1 (not (valid bits) || reserved bits) _ _ tt (placed_if 1 (pointer bits) _ _ (lit< tt, page_placed bits)
    (leaf_placed 1 _ (page_number bits % 2 ^ 9 == 0) (λ aligned.
    let multiple = eqb-true (page_number bits % 2 ^ 9) 0 aligned in record { aligned = omega arith; short = omega arith })))
riscv_placed bits (suc (suc zero)) fits low =
    placed_if 2 (not (valid bits) || reserved bits) _ _ tt (placed_if 2 (pointer bits) _ _ (lit< tt, page_placed bits)
    (leaf_placed 2 _ (page_number bits % 2 ^ 18 == 0) (λ aligned.
    let multiple = eqb-true (page_number bits % 2 ^ 18) 0 aligned in record { aligned = omega arith; short = omega arith })))
riscv_placed bits (suc (suc (suc zero))) fits low =
    placed_if 3 (not (valid bits) || reserved bits) _ _ tt (placed_if 3 (pointer bits) _ _ (lit< tt, page_placed bits)
    (leaf_placed 3 _ (page_number bits % 2 ^ 27 == 0) (λ aligned.
    let multiple = eqb-true (page_number bits % 2 ^ 27) 0 aligned in record { aligned = omega arith; short = omega arith })))
riscv_placed bits (suc (suc (suc (suc height)))) fits low = absurd (omega arith)

-- above height 0, a leaf is valid, not reserved, aligned and at its page
mapped : (bad is_pointer aligned : Bool) (table page address : ℕ)
    → (if bad then Absent else if is_pointer then Table table else if aligned then Leaf page else Absent) ≡ Leaf address
    → (bad ≡ false) × (is_pointer ≡ false) × (aligned ≡ true) × (page ≡ address)
mapped false false true table page address leaf = (refl, refl, refl, cc)
mapped false false false table page address leaf = cc
mapped false true aligned table page address leaf = cc
mapped true is_pointer aligned table page address leaf = cc

-- and conversely at height 0
maps : (bad is_pointer aligned : Bool) (page : ℕ) → bad ≡ false → is_pointer ≡ false → aligned ≡ true
    → (if bad then Absent else if is_pointer then Absent else if aligned then Leaf page else Absent) ≡ Leaf page
maps bad is_pointer aligned page good mapping is_aligned = rw (good, mapping, is_aligned)

-- the page numbers under an aligned leaf stay within 44 bits
pub riscv_room : (bits height index address : ℕ) → height ≤ 3 → 0 < height → index < units_under 0 height
    → riscv_kind bits height ≡ Leaf address → page_number bits + index < 2 ^ 44
riscv_room bits zero index address low larger within leaf = absurd (omega arith)
riscv_room bits (suc zero) index address low larger within leaf =
    let aligned = eqb-true (page_number bits % 2 ^ 9) 0 (mapped _ (pointer bits) _ _ _ address leaf).2 in omega arith
riscv_room bits (suc (suc zero)) index address low larger within leaf =
    let aligned = eqb-true (page_number bits % 2 ^ 18) 0 (mapped _ (pointer bits) _ _ _ address leaf).2 in omega arith
riscv_room bits (suc (suc (suc zero))) index address low larger within leaf =
    let aligned = eqb-true (page_number bits % 2 ^ 27) 0 (mapped _ (pointer bits) _ _ _ address leaf).2 in omega arith
riscv_room bits (suc (suc (suc (suc height)))) index address low larger within leaf = absurd (omega arith)

-- the entry for one page of a leaf
page_of : (bits height index table address : ℕ) (aligned : Bool) → page_number bits + index < 2 ^ 44
    → (if not (valid bits) || reserved bits then Absent else if pointer bits then Table table
    else if aligned then Leaf (page_number bits * 2 ^ 12) else Absent) ≡ Leaf address
    → IsExpanded riscv_kind riscv_protection 0 bits (address + index * 2 ^ 12) (riscv_expansion bits height index)
page_of bits height index table address aligned room leaf =
    let unit = riscv_expansion bits height index in
    let is_leaf = mapped (not (valid bits) || reserved bits) (pointer bits) aligned table (page_number bits * 2 ^ 12) address leaf in
    let is_valid : valid unit ≡ valid bits = same_bit (unit / 2 ^ 0 % 2) (bits / 2 ^ 0 % 2) (omega arith) in
    let reads : readable unit ≡ readable bits = same_bit (unit / 2 ^ 1 % 2) (bits / 2 ^ 1 % 2) (omega arith) in
    let writes : writable unit ≡ writable bits = same_bit (unit / 2 ^ 2 % 2) (bits / 2 ^ 2 % 2) (omega arith) in
    let executes : executable unit ≡ executable bits = same_bit (unit / 2 ^ 3 % 2) (bits / 2 ^ 3 % 2) (omega arith) in
    let page : page_number unit ≡ page_number bits + index = omega arith in
    let good : (not (valid unit) || reserved unit) ≡ false = rw (is_valid, reads, writes) is_leaf.0 in
    let mapping : pointer unit ≡ false = rw (reads, writes, executes) is_leaf.1 in
    let whole : page_number unit % 2 ^ 0 ≡ 0 = omega arith in
    let start : page_number unit * 2 ^ 12 ≡ address + index * 2 ^ 12 = omega (arith, page, is_leaf.3) in
    record {
      leaf =
          maps (not (valid unit) || reserved unit) (pointer unit) (page_number unit % 2 ^ 0 == 0) (page_number unit * 2 ^ 12)
          good mapping (ap (λ rest. rest == 0) whole)
          ∙ ap Leaf start;
      same_protection = rw (reads, writes, executes);
      fits = omega arith;
    }

pub riscv_expanded : (bits height index address : ℕ) → bits < 2 ^ 64 → height ≤ 3
    → 0 < height → index < units_under 0 height → riscv_kind bits height ≡ Leaf address
    → IsExpanded riscv_kind riscv_protection 0 bits (address + index * bytes_under 0) (riscv_expansion bits height index)
riscv_expanded bits zero index address fits low larger within leaf = absurd (omega arith)
riscv_expanded bits (suc zero) index address fits low larger within leaf =
    page_of bits 1 index _ address _ (riscv_room bits 1 index address low larger within leaf) leaf
riscv_expanded bits (suc (suc zero)) index address fits low larger within leaf =
    page_of bits 2 index _ address _ (riscv_room bits 2 index address low larger within leaf) leaf
riscv_expanded bits (suc (suc (suc zero))) index address fits low larger within leaf =
    page_of bits 3 index _ address _ (riscv_room bits 3 index address low larger within leaf) leaf
riscv_expanded bits (suc (suc (suc (suc height)))) index address fits low larger within leaf = absurd (omega arith)
