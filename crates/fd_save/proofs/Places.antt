-- Where a dump that was found lies, and its trailing block.
use Rattle.std.proofs.Common.{◌≡◌, ◌⊎◌, inl, inr, ℕ, ◌+◌, ◌%◌, ◌<◌, ◌≤◌, Bool, true, false, not, ◌||◌, ◌==◌, nat_le, IsTrue, [], ◌∷◌, None, is_none, refl, sym, subst, arith}
use Rattle.std.proofs.lemmas.Bool.Decides.{nat_tests}
use Rattle.std.proofs.lemmas.List.Elements.{All-from_recursion}
use Rattle.fd_bytes.specs.Arch.{arch_of_header}
use Rattle.fd_kdh.specs.declared.header.Header.{Header}
use Rattle.fd_info.specs.Info.{IsDevice, IsPlain, is_printable}
use Rattle.fd_part.specs.Partition.{has_room, is_good, need_of, trailing_place}
use Rattle.fd_judge.specs.Verdict.{IsPlacedDump, first_of}
use Rattle.fd_judge.specs.declared.why.Why.{Why}
use Rattle.fd_judge.specs.declared.why.Why.TheVariants.{BadBlock, BadExtent, Compressed, Encrypted, LengthDiffers, UnknownArch}
use Rattle.fd_save.specs.Saving.{device_name}

-- of whole blocks of a size: whole sectors, and at least one block
pub record IsOfBlocks (size block : ℕ) : Type 0 where
  pub low : 512 ≤ block
  pub some : block ≤ size
  pub sectors : block % 512 ≡ 0
  pub whole : (n : ℕ) → n % block ≡ 0 → n % 512 ≡ 0
  pub size_whole : size % block ≡ 0

block_sizes : (size block : ℕ) → IsTrue (is_good size block) → (block ≡ 512) ⊎ ((block ≡ 1024) ⊎ ((block ≡ 2048) ⊎ (block ≡ 4096)))
block_sizes size block good = grind (arith, nat_tests)

some_blocks : (size block : ℕ) → IsTrue (is_good size block) → 0 < size
some_blocks size block good = grind (arith, nat_tests)

whole_blocks : (size block : ℕ) → IsTrue (is_good size block) → size % block ≡ 0
whole_blocks size block good = grind (arith, nat_tests)

by_size : (size block : ℕ) → (block ≡ 512) ⊎ ((block ≡ 1024) ⊎ ((block ≡ 2048) ⊎ (block ≡ 4096))) → 0 < size → size % block ≡ 0 → IsOfBlocks size block
by_size size block (inl is) some whole =
    subst (IsOfBlocks size) (sym is)
    (let w : size % 512 ≡ 0 = subst (λ b. size % b ≡ 0) is whole in
    record { low = omega arith; some = omega arith; sectors = omega arith; whole = λ n h. omega arith; size_whole = w })
by_size size block (inr (inl is)) some whole =
    subst (IsOfBlocks size) (sym is)
    (let w : size % 1024 ≡ 0 = subst (λ b. size % b ≡ 0) is whole in
    record { low = omega arith; some = omega arith; sectors = omega arith; whole = λ n h. omega arith; size_whole = w })
by_size size block (inr (inr (inl is))) some whole =
    subst (IsOfBlocks size) (sym is)
    (let w : size % 2048 ≡ 0 = subst (λ b. size % b ≡ 0) is whole in
    record { low = omega arith; some = omega arith; sectors = omega arith; whole = λ n h. omega arith; size_whole = w })
by_size size block (inr (inr (inr is))) some whole =
    subst (IsOfBlocks size) (sym is)
    (let w : size % 4096 ≡ 0 = subst (λ b. size % b ≡ 0) is whole in
    record { low = omega arith; some = omega arith; sectors = omega arith; whole = λ n h. omega arith; size_whole = w })

of_blocks : (size block : ℕ) → IsTrue (is_good size block) → IsOfBlocks size block
of_blocks size block good = by_size size block (block_sizes size block good) (some_blocks size block good) (whole_blocks size block good)

pub trailing_inside : (size block : ℕ) → IsTrue (is_good size block) → trailing_place size block + 512 ≤ size
trailing_inside size block good = let b = of_blocks size block good in omega (arith, b.low, b.some)

-- where no reason applies, each test failed
none_of_six : (a b c d e f : Bool) (wa wb wc wd we wf : Why) → first_of ((a, wa) ∷ (b, wb) ∷ (c, wc) ∷ (d, wd) ∷ (e, we) ∷ (f, wf) ∷ []) ≡ None
    → (a ≡ false) × (b ≡ false) × (e ≡ false) × (f ≡ false)
none_of_six true b c d e f wa wb wc wd we wf is = absurd (cc)
none_of_six false true c d e f wa wb wc wd we wf is = absurd (cc)
none_of_six false false true d e f wa wb wc wd we wf is = absurd (cc)
none_of_six false false false true e f wa wb wc wd we wf is = absurd (cc)
none_of_six false false false false true f wa wb wc wd we wf is = absurd (cc)
none_of_six false false false false false true wa wb wc wd we wf is = absurd (cc)
none_of_six false false false false false false wa wb wc wd we wf is = (refl, refl, refl, refl)

-- a dump against which nothing speaks is plain, and lies within the partition
pub record IsDumpAt (h : Header) (at size : ℕ) : Type 0 where
  pub plain : IsPlain h
  pub start : at % 512 ≡ 0
  pub sectors : h.dumplength % 512 ≡ 0
  pub inside : at + h.dumplength ≤ size

zero_of : (n : ℕ) → not (n == 0) ≡ false → n ≡ 0
zero_of n is = grind (arith, nat_tests)

same_of : (a b : ℕ) → not (a == b) ≡ false → a ≡ b
same_of a b is = grind (arith, nat_tests)

whole_of : (n block : ℕ) (t : Bool) → (n == 0 || not (n % block == 0) || not t) ≡ false → n % block ≡ 0
whole_of n block t is = grind (arith, nat_tests)

room_of : (n a b : ℕ) (t : Bool) → (n == 0 || t || not (nat_le a b)) ≡ false → a ≤ b
room_of n a b t is = grind (arith, nat_tests)

pub dump_at : (h : Header) (at size block : ℕ) → IsTrue (is_good size block) → IsPlacedDump h at size block → IsDumpAt h at size
dump_at h at size block good placed =
    let tests = none_of_six (not (h.compression == 0)) (not (h.dumpkeysize == 0)) (is_none (arch_of_header h.architecture h.architectureversion)) (not (h.blocksize == block))
    (not (h.dumplength == h.dumpextent)) (h.dumpextent == 0 || not (h.dumpextent % block == 0) || not (has_room size block h.dumpextent))
    (Compressed h.compression) (Encrypted h.dumpkeysize) UnknownArch (BadBlock h.blocksize) (LengthDiffers h.dumplength h.dumpextent) (BadExtent h.dumpextent) placed.sound in
    let same : h.dumplength ≡ h.dumpextent = same_of h.dumplength h.dumpextent tests.2 in
    let b : IsOfBlocks size block = of_blocks size block good in
    let extent : h.dumpextent % 512 ≡ 0 = b.whole h.dumpextent (whole_of h.dumpextent block (has_room size block h.dumpextent) tests.3) in
    let room : need_of block h.dumpextent ≤ size = room_of h.dumpextent (need_of block h.dumpextent) size (not (h.dumpextent % block == 0)) tests.3 in
    let sized : size % 512 ≡ 0 = b.whole size b.size_whole in
    record {
      plain = record { compression = zero_of h.compression tests.0; dumpkeysize = zero_of h.dumpkeysize tests.1; dumpextent = sym same };
      start = omega (arith, placed.place, extent, sized, room, b.sectors);
      sectors = omega (arith, same, extent);
      inside = omega (arith, placed.place, same, room);
    }

-- the device's name can be printed
pub device_named : IsDevice device_name
device_named = record {
  short = omega arith;
  printable = All-from_recursion (λ byte. is_printable byte ≡ true) device_name (refl, (refl, (refl, (refl, (refl, (refl, (refl, tt)))))));
}
