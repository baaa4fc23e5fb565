-- The words of an image: they have 64 bits, and those of a page are read in it.
use Rattle.std.proofs.Common.{◌≡◌, ℕ, ◌+◌, ◌-◌, ◌*◌, ◌<◌, ◌^◌, Bool, true, false, cond, List, [], ◌∷◌, length, drop, get_or}
use Rattle.std.proofs.Common.{find, slice_range, All, Option, Some, None, refl, sym, ◌∙◌, ap, subst, arith, inl, inr}
use Rattle.std.specs.Prelude.{if◌then◌else◌}
use Rattle.std.specs.Int.{w64, from_le_bytes}
use Rattle.std.specs.Option.{option_map}
use Rattle.std.proofs.lemmas.Bool.{cases_lt}
use Rattle.std.proofs.lemmas.Bool.Decides.{nat_tests}
use Rattle.std.proofs.lemmas.List.{get_or_past}
use Rattle.std.proofs.lemmas.List.Elements.{All-head, All-tail, All-get_or, All-take, All-drop}
use Rattle.fd_bytes.specs.Field.{u64_le_at}
use Rattle.fd_image.specs.Image.{MachineImage, IsValid, AreBytes, is_multiple}
use Rattle.fd_image.specs.Physical.{has_address, segment_of, page_start, page_in, word_in, page_of, word_of}
use Rattle.fd_image.specs.declared.parts.Seg.{Seg}
use Rattle.fd_image.proofs.Valid.{segment_found}
use Rattle.fd_dump.proofs.Stands.{Stands-range, range_within-Stands}
use Rattle.fd_way.proofs.PageStarts.{IsPageIn, page_inside, length-page_in, segment_of-start}

-- an element that is found has what all elements have
found_all : {X : Type 0} (P : X → Type 0) (p : X → Bool) (xs : List X) (x : X) → All P xs → find p xs ≡ Some x → P x
found_all P p [] x all found = cc
found_all {X = X} P p (y ∷ ys) x all found =
    here (p y) found (found_all P p ys x (All-tail P y ys all))
  where
    here : (b : Bool) → cond b (Some y) (find p ys) ≡ Some x → (find p ys ≡ Some x → P x) → P x
    here true is later = let same : y ≡ x = cc in subst P same (All-head P y ys all)
    here false is later = later is

-- eight bytes make a number of 64 bits
byte_short : (bytes : List ℕ) → AreBytes bytes → (i : ℕ) → get_or bytes i 0 < 256
byte_short bytes all i =
    elim (cases_lt i (length bytes)) [
      | inl within ↦ All-get_or (λ b. b < 2 ^ 8) bytes i 0 within all
      | inr past ↦ omega (arith, get_or_past bytes i 0 past)
    ]

from_le_bytes-short : (bytes : List ℕ) → AreBytes bytes → from_le_bytes w64 bytes < 2 ^ 64
from_le_bytes-short bytes all =
    let short = byte_short bytes all in
    omega (arith, short 0, short 1, short 2, short 3, short 4, short 5, short 6, short 7)

u64_le_at-short : (bytes : List ℕ) (at : ℕ) → AreBytes bytes → u64_le_at bytes at < 2 ^ 64
unfolding u64_le_at
u64_le_at-short bytes at all =
    from_le_bytes-short (slice_range bytes at (at + 8)) (All-take (λ b. b < 2 ^ 8) (at + 8 - at) (drop at bytes) (All-drop (λ b. b < 2 ^ 8) at bytes all))

module _ (m : MachineImage) (valid : IsValid m) where
  word_short-in : (pa word : ℕ) (seg : Option Seg) → segment_of m pa ≡ seg → option_map (λ s. word_in s pa) seg ≡ Some word → word < 2 ^ 64
  word_short-in pa word None segment is = cc
  word_short-in pa word (Some seg) segment is =
      let typed = found_all (λ s. (s.start < 2 ^ 64) × AreBytes s.bytes) (has_address pa) m.segs seg valid.typed.segs segment in
      let same : word_in seg pa ≡ word = cc in
      subst (λ n. n < 2 ^ 64) same (u64_le_at-short seg.bytes (pa - seg.start) typed.1)

  word_short-if : (multiple : Bool) (pa word : ℕ) → (if multiple then option_map (λ s. word_in s pa) (segment_of m pa) else None) ≡ Some word → word < 2 ^ 64
  word_short-if true pa word is = word_short-in pa word (segment_of m pa) refl is
  word_short-if false pa word is = cc

  pub word_short : (pa word : ℕ) → word_of m pa ≡ Some word → word < 2 ^ 64
  unfolding word_of
  word_short pa word is = word_short-if (is_multiple 8 pa) pa word is

  -- the words of a page are the words at its addresses
  word_in-page : (page index : ℕ) (seg : Seg) → page_start page ≡ page → index < 512 → IsPageIn seg page → u64_le_at (page_in seg page) (8 * index) ≡ word_in seg (page + 8 * index)
  unfolding u64_le_at
  word_in-page page index seg aligned within inside =
      let at : ℕ = page_start page - seg.start in
      let place : at + 8 * index ≡ page + 8 * index - seg.start = omega (arith, inside.begins, aligned) in
      sym (ap (λ l. from_le_bytes w64 l)
      (ap (λ n. slice_range seg.bytes n (n + 8)) (sym place)
      ∙ range_within-Stands (page_in seg page) seg.bytes at (8 * index) 8 (Stands-range seg.bytes at 4096 inside.ends) (omega (arith, length-page_in seg page inside))))

  page_segment :
      (page : ℕ) (bytes : List ℕ) (seg : Option Seg) → segment_of m page ≡ seg → option_map (λ s. page_in s page) seg ≡ Some bytes
      → (s : Seg) × (segment_of m page ≡ Some s) × (page_in s page ≡ bytes)
  page_segment page bytes None segment is = cc
  page_segment page bytes (Some seg) segment is = (seg, segment, cc)

  pub word_of-page : (page index : ℕ) (bytes : List ℕ) → page_start page ≡ page → index < 512 → page_of m page ≡ Some bytes → word_of m (page + 8 * index) ≡ Some (u64_le_at bytes (8 * index))
  unfolding word_of page_of
  word_of-page page index bytes aligned within is =
      let pa : ℕ = page + 8 * index in
      let found = page_segment page bytes (segment_of m page) refl is in
      let seg : Seg = found.0 in
      let facts = segment_found m page seg valid found.1 in
      let multiple : is_multiple 8 pa ≡ true = grind (arith, nat_tests, aligned) in
      let start : page_start pa ≡ page = omega (arith, aligned) in
      let same : segment_of m pa ≡ Some seg = segment_of-start m valid pa ∙ ap (segment_of m) start ∙ found.1 in
      ap (λ (b : Bool). if b then option_map (λ s. word_in s pa) (segment_of m pa) else None) multiple
      ∙ ap (λ o. option_map (λ s. word_in s pa) o) same
      ∙ ap Some (sym (word_in-page page index seg aligned within (page_inside seg page facts.0 facts.1)) ∙ ap (λ l. u64_le_at l (8 * index)) found.2)
