-- A dump that marks first, cut anywhere over any partition, leaves it as it was, or it is refused, or is that dump.
--
-- Over a clear partition nothing is marked, and this is the law of a plain dump. Else the first write is one sector, which
-- becomes new as a whole or not at all. Before it is new the partition is as it was; once it is, the partition is clear, so
-- that it is refused, and what follows is a plain dump over it.
use Rattle.std.proofs.Common.{◌≡◌, ◌≢◌, ◌⊎◌, inl, inr, ℕ, ◌+◌, ◌-◌, ◌%◌, ◌≤◌, Bool, true, false, if◌then◌else◌, IsTrue, List, [], ◌∷◌, ◌++◌, length, take, drop, slice_range, Err}
use Rattle.std.proofs.Common.{refl, sym, ◌∙◌, ap, subst, arith, length-append, length-drop, take-append-drop, drop-drop}
use Rattle.std.proofs.lemmas.List.{length-take-le, take_all}
use Rattle.std.specs.Str.{bytes_eq}
use Rattle.fd_site.specs.Begun.{IsBegun}
use Rattle.fd_site.specs.Contents.{whole_part}
use Rattle.fd_site.specs.Cut.{part_cut}
use Rattle.fd_site.specs.Journal.{Entry, all_kept, part_after, written}
use Rattle.fd_site.proofs.Written.{length-written, written-all_kept}
use Rattle.fd_kdh.specs.Header.{cleared_magic, live_magic}
use Rattle.fd_kdh.specs.declared.header.Header.{Header}
use Rattle.fd_part.specs.Clearing.{cleared_sector, clearing}
use Rattle.fd_part.specs.Dump.{IsBegunDump, IsDumpJournal}
use Rattle.fd_part.specs.Marked.{IsBegunMarked, IsMarkedJournal, is_live, is_live_sector, marking}
use Rattle.fd_part.specs.Partition.{IsClear, is_good, need_of, sector_at, trailing_place, trailing_sector}
use Rattle.fd_part.proofs.Blocks.{IsBlock, IsBlock-good}
use Rattle.fd_part.proofs.Places.{at_put, range_is}
use Rattle.fd_judge.specs.Crash.{IsHeaderFor, IsOldOrRefusedOrThis, IsRefused, IsRefusedOrThis, IsThisDump}
use Rattle.fd_judge.proofs.CutLaw.{refused_or_this, this_after}
use Rattle.fd_judge.proofs.CutWrites.{first_write}
use Rattle.fd_judge.proofs.Torn.{IsTorn, IsTorn-written, drop-torn, length-torn, sector-torn, take-torn}
use Rattle.fd_judge.proofs.Verdicts.{refused}

-- a sector that begins with the live magic has the test's answer
live_tested : (sector : List ℕ) → is_live_sector sector ≡ false → take 20 sector ≢ live_magic
live_tested sector tested live = absurd (false_true (sym tested ∙ ap (bytes_eq live_magic) live))
  where
    false_true : false ≡ true → ⊥
    false_true is = cc

-- a sector that was cleared doesn't
cleared_not_live : (sector : List ℕ) → take 20 (cleared_sector sector) ≢ live_magic
cleared_not_live sector = live_tested (cleared_sector sector) refl

-- three parts of a list
parts : (l : List ℕ) (at : ℕ) → l ≡ take at l ++ (take 512 (drop at l) ++ drop 512 (drop at l))
parts l at = sym (ap (λ (r : List ℕ). take at l ++ r) (take-append-drop 512 (drop at l)) ∙ take-append-drop at l)

module _ (part body : List ℕ) (h : Header) (block : ℕ) (good : IsTrue (is_good (length part) block)) (room : need_of block (length body) ≤ length part)
    (header : IsHeaderFor body block h) where
  abbrev place : ℕ
  place = trailing_place (length part) block

  abbrev old : List ℕ
  old = trailing_sector part block

  abbrev new : List ℕ
  new = cleared_sector old

  is_block : IsBlock block
  is_block = IsBlock-good (length part) block good

  trailing_is : (q : List ℕ) → length q ≡ length part → trailing_sector q block ≡ take 512 (drop place q)
  trailing_is q same = range_is q (length q - block) 512 ∙ ap (λ n. take 512 (drop (n - block) q)) same

  inside : place + 512 ≤ length part
  inside = omega (arith, is_block.low, room)

  length-old : length old ≡ 512
  length-old = ap length (trailing_is part refl) ∙ length-take-le 512 (drop place part) (omega (arith, length-drop place part, inside))

  length-new : length new ≡ 512
  length-new = omega (arith, length-old, length-append cleared_magic (drop 20 old), length-drop 20 old)

  -- any of the sector's write: the partition is as it was, or the sector is new
  torn_is : (q : List ℕ) → IsTorn part place new q → (q ≡ part) ⊎ (IsClear q block × (length q ≡ length part))
  torn_is q torn =
      let fits : place + length new ≤ length part = omega (arith, length-new, inside) in
      let same : length q ≡ length part = length-torn part place new q torn fits in
      elim (sector-torn part place new q torn fits) [
        | inl is ↦ inr (
          (λ live. cleared_not_live old (ap (λ (l : List ℕ). take 20 l) (sym (trailing_is q same ∙ is ∙ take_512)) ∙ live)),
          same,
        )
        | inr is ↦ inl (
            parts q place
            ∙ ap (λ (l : List ℕ). l ++ (take 512 (drop place q) ++ drop 512 (drop place q))) (take-torn part place new q torn fits)
            ∙ ap (λ (l : List ℕ). take place part ++ (l ++ drop 512 (drop place q))) is
            ∙ ap (λ (l : List ℕ). take place part ++ (take 512 (drop place part) ++ l)) (behind q torn fits)
            ∙ sym (parts part place))
      ]
    where
      take_512 : take 512 new ≡ new
      take_512 = take_all 512 new (omega (arith, length-new))

      behind : (q : List ℕ) → IsTorn part place new q → place + length new ≤ length part → drop 512 (drop place q) ≡ drop 512 (drop place part)
      behind q torn fits =
          drop-drop 512 place q ∙ drop-torn part place new q torn fits (place + 512) (omega (arith, length-new)) ∙ sym (drop-drop 512 place part)

  -- the sector's write, whole
  abbrev now : List ℕ
  now = written part place new (all_kept new)

  length-now : length now ≡ length part
  length-now = length-written part place new (all_kept new) (omega (arith, length-new)) (omega (arith, length-new, inside))

  now_clear : IsClear now block
  now_clear live =
      cleared_not_live old
      (ap (λ (l : List ℕ). take 20 l)
      (sym (trailing_is now length-now
      ∙ ap (λ (l : List ℕ). take 512 (drop place l)) (written-all_kept part place new (omega (arith, length-new)))
      ∙ at_put place part new 512 (omega (arith, length-new, inside)) (omega (arith, length-new))
      ∙ take_all 512 new (omega (arith, length-new))))
      ∙ live)

  by_torn : (q : List ℕ) → (q ≡ part) ⊎ (IsClear q block × (length q ≡ length part)) → IsOldOrRefusedOrThis part body h block q
  by_torn q (inl same) = inl same
  by_torn q (inr clear) = inr (inl (refused q q block clear.0 refl))

  -- the first entry marks, and a dump stands behind it
  marked : (dump journal : List Entry) (k : ℕ) (these : List Bool) → IsDumpJournal body h (length part) block dump
      → IsBegun (clearing (length part) block old ++ dump) journal → IsOldOrRefusedOrThis part body h block (part_cut part journal k these)
  marked dump [] k these is_dump begun = inl refl
  marked dump (e ∷ es) k these is_dump begun =
      elim (first_write part e es place new (all_kept new) dump k these (omega (arith, length-new)) begun) [
        | inl torn ↦ by_torn (part_cut part (e ∷ es) k these) (torn_is (part_cut part (e ∷ es) k these) torn)
        | inr on ↦ inr (subst (IsRefusedOrThis body h block) (sym on.2)
            (refused_or_this now body h block es on.0 these (subst (λ n. IsTrue (is_good n block)) (sym length-now) good) (omega (arith, room, length-now)) now_clear header
            (record { planned = dump; is_dump = subst (λ n. IsDumpJournal body h n block dump) (sym length-now) is_dump; begun = on.1 })))
      ]

  -- each cut of what was begun
  by_mark : (dump planned journal : List Entry) (k : ℕ) (these : List Bool) (live : Bool) → is_live_sector old ≡ live → IsDumpJournal body h (length part) block dump
      → planned ≡ (if live then clearing (length part) block old else []) ++ dump → IsBegun planned journal
      → IsOldOrRefusedOrThis part body h block (part_cut part journal k these)
  by_mark dump planned journal k these true tested is_dump is begun = marked dump journal k these is_dump (subst (λ (l : List Entry). IsBegun l journal) is begun)
  by_mark dump planned journal k these false tested is_dump is begun =
      inr (refused_or_this part body h block journal k these good room (live_tested old tested) header
      (record { planned = dump; is_dump = is_dump; begun = subst (λ (l : List Entry). IsBegun l journal) is begun }))

  pub each_cut : (journal : List Entry) (k : ℕ) (these : List Bool) → IsBegunMarked part body h block journal
      → IsOldOrRefusedOrThis part body h block (part_cut part journal k these)
  each_cut journal k these begun =
      let plan = begun.is_marked in
      by_mark plan.dump begun.planned journal k these (is_live_sector old) refl plan.is_dump plan.is begun.begun

  -- a whole one is found
  by_mark_found : (dump journal : List Entry) (live : Bool) → IsDumpJournal body h (length part) block dump
      → journal ≡ (if live then clearing (length part) block old else []) ++ dump → IsThisDump body h block (part_after part journal)
  by_mark_found dump journal true is_dump is =
      subst (λ (l : List Entry). IsThisDump body h block (part_after part l)) (sym is)
      (this_after now body h block dump (subst (λ n. IsTrue (is_good n block)) (sym length-now) good) (omega (arith, room, length-now)) header
      (subst (λ n. IsDumpJournal body h n block dump) (sym length-now) is_dump))
  by_mark_found dump journal false is_dump is =
      subst (λ (l : List Entry). IsThisDump body h block (part_after part l)) (sym is) (this_after part body h block dump good room header is_dump)

  pub found_marked : (journal : List Entry) → IsMarkedJournal part body h block journal → IsThisDump body h block (part_after part journal)
  found_marked journal marked = by_mark_found marked.dump journal (is_live_sector old) marked.is_dump marked.is
