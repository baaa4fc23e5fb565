-- A generated image keeps each rule of an image.
use Rattle.std.proofs.Common.{◌≡◌, ℕ, ◌+◌, ◌-◌, ◌*◌, ◌/◌, ◌%◌, ◌^◌, ◌<◌, ◌≤◌, ◌==◌, ◌&&◌, Bool, true, false, not, nat_le, List, [], ◌∷◌, length, map, Option, None, refl, arith, lit<, lit≤}
use Rattle.std.specs.List.{All, sum_by}
use Rattle.std.proofs.lemmas.List.Elements.{All-from_recursion}
use Rattle.std.specs.Fmt.{decimal}
use Rattle.std.proofs.lemmas.Bool.Decides.{nat_tests}
use Rattle.std.proofs.lemmas.Fmt.{length-decimal-le}
use Rattle.std.proofs.lemmas.List.FromFn.{length-map-range_with_len}
use Rattle.fd_bytes.specs.declared.arch.Arch.{Arch}
use Rattle.fd_bytes.specs.declared.arch.Arch.TheVariants.{Amd64, Arm64, Riscv}
use Rattle.fd_bytes.specs.Profile.{profile_of}
use Rattle.fd_image.specs.declared.parts.Seg.{Seg}
use Rattle.fd_image.specs.Image.{MachineImage, end_of, first_failing, first_breach, unless, is_whole_pages, ragged_segment, begins_at_or_after, segment_out_of_order, segment_past_end}
use Rattle.fd_image.specs.Image.{is_within_limits, has_texts_within_limits, ragged_pair, is_range_of_pages, pair_end, pair_begins_at_or_after, pair_out_of_order, lies_in_segment, pair_outside}
use Rattle.fd_image.specs.Image.{is_kernel_window, is_in_kernel_space, is_direct_map, are_apart, is_known_paging, breaches, broken_rule}
use Rattle.fd_gen.specs.Entries.{entry_at}
use Rattle.fd_gen.specs.Generated.{generated, segments, table_segment, data_segment, data_word, extent_of, wanted_pages, message_bytes, texts_of}
use Rattle.fd_gen.specs.Layout.{data_pages, first_pages, upper_tables, last_tables, windows_of}
use Rattle.fd_gen.proofs.Spelled.{length-pages_of}
use Rattle.fd_gen.proofs.Wanted.{wanted_pages-good, wanted_pages-few}

-- no rule of fifteen is broken
none_broken : (a b c d e f g h i j k l m n o : Option ℕ) → a ≡ None → b ≡ None → c ≡ None → d ≡ None → e ≡ None → f ≡ None → g ≡ None → h ≡ None
    → i ≡ None → j ≡ None → k ≡ None → l ≡ None → m ≡ None → n ≡ None → o ≡ None
    → first_breach 1 (a ∷ b ∷ c ∷ d ∷ e ∷ f ∷ g ∷ h ∷ i ∷ j ∷ k ∷ l ∷ m ∷ n ∷ o ∷ []) ≡ None
none_broken a b c d e f g h i j k l m n o is1 is2 is3 is4 is5 is6 is7 is8 is9 is10 is11 is12 is13 is14 is15 =
    rw (is1, is2, is3, is4, is5) (rw (is6, is7, is8, is9, is10) (rw (is11, is12, is13, is14, is15) refl))

kept : (test : Bool) → test ≡ true → unless test ≡ None
kept test is = rw is refl

-- three items that pass a test
passed : {X : Type 0} (test : X → Bool) (a b c : X) → test a ≡ true → test b ≡ true → test c ≡ true → first_failing test (a ∷ b ∷ c ∷ []) ≡ None
passed test a b c first second third = rw (first, second, third) refl

-- a segment of so many pages, from the page of a number on
record IsSegment (seg : Seg) (page pages : ℕ) : Type 0 where
  start : seg.start ≡ 4096 * page
  long : length seg.bytes ≡ 4096 * pages
  some : 0 < pages

-- what each rule asks of a segment, of a pair, and of one beside the end of the one before
whole : (seg : Seg) (page pages : ℕ) → IsSegment seg page pages → is_whole_pages seg ≡ true
whole seg page pages is = grind (arith, nat_tests)

after : (end : ℕ) (seg : Seg) → end ≤ seg.start → begins_at_or_after (end, seg) ≡ true
after end seg above = grind (arith, nat_tests)

range : (seg : Seg) (page pages : ℕ) → IsSegment seg page pages → is_range_of_pages (extent_of seg) ≡ true
range seg page pages is = grind (arith, nat_tests)

pair_after : (end : ℕ) (seg : Seg) → end ≤ seg.start → pair_begins_at_or_after (end, extent_of seg) ≡ true
pair_after end seg above = grind (arith, nat_tests)

-- what the architectures' tables of their own say
addresses_end : (arch : Arch) → 2 ^ 32 ≤ (profile_of arch).physical_end
addresses_end Amd64 = lit≤ tt
addresses_end Arm64 = lit≤ tt
addresses_end Riscv = lit≤ tt

below : (arch : Arch) (seg : Seg) → end_of seg ≤ 2 ^ 32 → nat_le (end_of seg) (profile_of arch).physical_end ≡ true
below arch seg low = grind (arith, nat_tests, addresses_end arch)

tables-some : (arch : Arch) → 2 ≤ upper_tables arch
tables-some Amd64 = lit≤ tt
tables-some Arm64 = lit≤ tt
tables-some Riscv = lit≤ tt

tables-few : (arch : Arch) → upper_tables arch ≤ 3
tables-few Amd64 = lit≤ tt
tables-few Arm64 = lit≤ tt
tables-few Riscv = lit≤ tt

-- the windows of so many pages of data
module _ (pages : ℕ) (few : pages < 2 ^ 15) where
  kernel_window : (arch : Arch) → is_kernel_window arch (windows_of arch pages) ≡ true
  kernel_window Amd64 = refl
  kernel_window Arm64 = grind (arith, nat_tests)
  kernel_window Riscv = grind (arith, nat_tests)

  direct_map : (arch : Arch) → is_direct_map arch (windows_of arch pages) ≡ true
  direct_map Amd64 = refl
  direct_map Arm64 = refl
  direct_map Riscv = refl

  windows_apart : (arch : Arch) → are_apart (windows_of arch pages) ≡ true
  windows_apart Amd64 = refl
  windows_apart Arm64 = grind (arith, nat_tests)
  windows_apart Riscv = grind (arith, nat_tests)

kernel_space : (arch : Arch) (number : ℕ) → is_in_kernel_space (generated arch number) ≡ true
unfolding generated
kernel_space Amd64 number = refl
kernel_space Arm64 number = refl
kernel_space Riscv number = refl

-- the texts, and the numbers of what there is
message-long : (number len : ℕ) → length (message_bytes number len) ≡ len
unfolding message_bytes
message-long number len = length-map-range_with_len (λ at. 0x20 + (at + number) % 95) 0 len

short_texts : (number : ℕ) → number < 2 ^ 64 → has_texts_within_limits (texts_of number) ≡ true
unfolding texts_of
short_texts number fits =
    let digits : length (decimal number) ≤ 20 = length-decimal-le 20 number (lit< tt) (omega arith) fits in
    let message : length (message_bytes number 8000) ≡ 8000 = message-long number 8000 in
    grind (arith, nat_tests)

limits : (bytes wanted : ℕ) (texts : Bool) → bytes ≤ 2 ^ 30 → wanted ≤ 262144 → texts ≡ true
    → (nat_le bytes (2 ^ 30) && nat_le 3 64 && nat_le 3 1024 && nat_le wanted 262144 && texts) ≡ true
limits bytes wanted texts few some short = grind (arith, nat_tests)

-- three segments that follow one another
record AreInOrder (a b c : Seg) (pages_a pages_b pages_c : ℕ) : Type 0 where
  page_a : ℕ
  page_b : ℕ
  page_c : ℕ
  is_a : IsSegment a page_a pages_a
  is_b : IsSegment b page_b pages_b
  is_c : IsSegment c page_c pages_c
  a_b : page_a + pages_a ≤ page_b
  b_c : page_b + pages_b ≤ page_c
  c_end : page_c + pages_c ≤ 2 ^ 20

module _ (a b c : Seg) (pages_a pages_b pages_c : ℕ) (are : AreInOrder a b c pages_a pages_b pages_c) where
  abbrev segs : List Seg
  segs = a ∷ b ∷ c ∷ []

  a_before_b : end_of a ≤ b.start
  a_before_b = omega arith

  b_before_c : end_of b ≤ c.start
  b_before_c = omega arith

  segs-whole : ragged_segment segs ≡ None
  segs-whole = passed is_whole_pages a b c (whole a are.page_a pages_a are.is_a) (whole b are.page_b pages_b are.is_b) (whole c are.page_c pages_c are.is_c)

  segs-in_order : segment_out_of_order segs ≡ None
  segs-in_order = passed begins_at_or_after (0, a) (end_of a, b) (end_of b, c) (after 0 a (omega arith)) (after (end_of a) b a_before_b) (after (end_of b) c b_before_c)

  segs-within : (arch : Arch) → segment_past_end arch segs ≡ None
  segs-within arch =
      passed (λ seg. nat_le (end_of seg) (profile_of arch).physical_end) a b c
      (below arch a (omega arith)) (below arch b (omega arith)) (below arch c (omega arith))

  pairs-whole : ragged_pair (map extent_of segs) ≡ None
  pairs-whole = passed is_range_of_pages (extent_of a) (extent_of b) (extent_of c) (range a are.page_a pages_a are.is_a) (range b are.page_b pages_b are.is_b) (range c are.page_c pages_c are.is_c)

  pairs-in_order : pair_out_of_order (map extent_of segs) ≡ None
  pairs-in_order =
      passed pair_begins_at_or_after (0, extent_of a) (end_of a, extent_of b) (end_of b, extent_of c)
      (pair_after 0 a (omega arith)) (pair_after (end_of a) b a_before_b) (pair_after (end_of b) c b_before_c)

  pairs-inside : pair_outside segs (map extent_of segs) ≡ None
  pairs-inside = passed (lies_in_segment segs) (extent_of a) (extent_of b) (extent_of c) (grind (arith, nat_tests)) (grind (arith, nat_tests)) (grind (arith, nat_tests))

  segs-total : sum_by (λ seg. length seg.bytes) segs ≡ 4096 * (pages_a + pages_b + pages_c)
  segs-total = omega arith

-- the segments of a generated image
generated-in_order : (arch : Arch) (number : ℕ)
    → AreInOrder (table_segment arch (data_pages number)) (data_segment number 0x9000_0000 (first_pages (data_pages number)))
    (data_segment number 0xa000_0000 (data_pages number - first_pages (data_pages number)))
    (upper_tables arch + last_tables (data_pages number)) (first_pages (data_pages number)) (data_pages number - first_pages (data_pages number))
generated-in_order arch number =
    let pages = data_pages number in
    record {
      page_a = 0x8_0000;
      page_b = 0x9_0000;
      page_c = 0xa_0000;
      is_a = record { start = refl; long = length-pages_of (entry_at arch pages) (upper_tables arch + last_tables pages); some = omega (arith, tables-some arch) };
      is_b = record { start = refl; long = length-pages_of (λ page index. data_word number (0x9000_0000 + 4096 * page + 8 * index)) (first_pages pages); some = omega arith };
      is_c = record { start = refl; long = length-pages_of (λ page index. data_word number (0xa000_0000 + 4096 * page + 8 * index)) (pages - first_pages pages); some = omega arith };
      a_b = omega (arith, tables-few arch);
      b_c = omega arith;
      c_end = omega arith;
    }

within_limits : (arch : Arch) (number : ℕ) → number < 2 ^ 64 → is_within_limits (generated arch number) ≡ true
unfolding generated segments
within_limits arch number fits =
    let pages = data_pages number in
    let a = table_segment arch pages in
    let b = data_segment number 0x9000_0000 (first_pages pages) in
    let c = data_segment number 0xa000_0000 (pages - first_pages pages) in
    let total = segs-total a b c (upper_tables arch + last_tables pages) (first_pages pages) (pages - first_pages pages) (generated-in_order arch number) in
    let few : sum_by (λ (seg : Seg). length seg.bytes) (a ∷ b ∷ c ∷ []) ≤ 2 ^ 30 = omega (arith, total, tables-few arch) in
    let some : length (wanted_pages pages) ≤ 262144 = omega (arith, wanted_pages-few pages (omega arith)) in
    limits (sum_by (λ (seg : Seg). length seg.bytes) (a ∷ b ∷ c ∷ [])) (length (wanted_pages pages)) (has_texts_within_limits (texts_of number)) few some (short_texts number fits)

pub generated-unbroken : (arch : Arch) (number : ℕ) → number < 2 ^ 64 → broken_rule (generated arch number) ≡ None
unfolding broken_rule breaches generated segments
generated-unbroken arch number fits =
    let pages = data_pages number in
    let a = table_segment arch pages in
    let b = data_segment number 0x9000_0000 (first_pages pages) in
    let c = data_segment number 0xa000_0000 (pages - first_pages pages) in
    let na = upper_tables arch + last_tables pages in
    let nb = first_pages pages in
    let nc = pages - first_pages pages in
    let are = generated-in_order arch number in
    let few : pages < 2 ^ 15 = omega arith in
    none_broken _ _ _ _ _ _ _ _ _ _ _ _ _ _ _
    refl (segs-whole a b c na nb nc are) (segs-in_order a b c na nb nc are) (segs-within a b c na nb nc are arch)
    (kept _ (within_limits arch number fits))
    (pairs-whole a b c na nb nc are) (pairs-in_order a b c na nb nc are) (pairs-inside a b c na nb nc are)
    (wanted_pages-good pages few) refl (kept _ (kernel_window pages few arch)) (kept _ (kernel_space arch number))
    (kept _ (direct_map pages few arch)) (kept _ (windows_apart pages few arch)) refl

-- no segment reaches past 2^64
low : (seg : Seg) (page pages : ℕ) → IsSegment seg page pages → page + pages ≤ 2 ^ 20 → end_of seg < 2 ^ 64
low seg page pages is below_end = omega arith

pub segments-low : (arch : Arch) (number : ℕ) → All (λ seg. end_of seg < 2 ^ 64) (segments arch number)
unfolding segments
segments-low arch number =
    let pages = data_pages number in
    let a = table_segment arch pages in
    let b = data_segment number 0x9000_0000 (first_pages pages) in
    let c = data_segment number 0xa000_0000 (pages - first_pages pages) in
    let are = generated-in_order arch number in
    All-from_recursion (λ (seg : Seg). end_of seg < 2 ^ 64) (a ∷ b ∷ c ∷ [])
    (low a are.page_a _ are.is_a (omega arith), (low b are.page_b _ are.is_b (omega arith), (low c are.page_c _ are.is_c (omega arith), tt)))
