-- A dump over a clear partition, cut anywhere, is refused or is that dump; a whole one is that dump.
--
-- A dump is written in three steps: the body in pieces, the leading block before it, and last the trailing block. A
-- judge looks at the first sector of the trailing block. So there are two kinds of cuts. Where the machine stopped
-- before the trailing block, every write ends at or before it: its sector is the one that was there, which has no live
-- magic, as the partition was clear, and the partition is refused (`still_clear`). Else the body and the leading block
-- are whole, and any sectors of the trailing block are new (`torn_last`). Only its first sector counts, and since a
-- sector is new or old as a whole, that is the header or what was there. What was there is refused as before. Where it
-- is the header, both headers stand, no reason stands against them, and the bytes between them are the pieces joined,
-- which is the body (`found`).
--
-- `CutWrites` tells the two kinds apart, `Torn` says what a write leaves of which some sectors are new, fd_part's `Places`
-- what stands where after whole writes, and `Verdicts` what a judge answers. `Calls` takes the law to the cuts of a call.
use Rattle.std.proofs.Common.{◌≡◌, inl, inr, ℕ, ◌+◌, ◌-◌, ◌%◌, ◌≤◌, Bool, IsTrue, List, [], ◌∷◌, ◌++◌, length, take, drop, replicate, slice_range}
use Rattle.std.proofs.Common.{refl, sym, ◌∙◌, ap, subst, arith, length-append, append_assoc}
use Rattle.std.proofs.lemmas.List.{take_all, take_at}
use Rattle.std.proofs.lemmas.Slice.{take-put_mid_below, drop-put_mid}
use Rattle.std.specs.List.{concat}
use borrow.Rule.Slice.PartMut.{put_mid}
use Rattle.fd_site.specs.Begun.{IsBegun}
use Rattle.fd_site.specs.Journal.{Entry, all_kept, part_step, part_after}
use Rattle.fd_site.specs.Contents.{whole_part}
use Rattle.fd_site.specs.Cut.{part_cut}
use Rattle.fd_site.proofs.Written.{written-all_kept, part_after-append}
use Rattle.fd_kdh.specs.Header.{dump_header}
use Rattle.fd_kdh.specs.declared.header.Header.{Header}
use Rattle.fd_kdh.proofs.Headers.{length-dump_header}
use Rattle.fd_part.specs.Partition.{is_good, need_of, leading_place, dump_place, trailing_place, sector_at, trailing_sector, IsClear}
use Rattle.fd_part.specs.Dump.{AllSectors, IsBegunDump, IsDumpJournal, header_block, writes_from}
use Rattle.fd_judge.specs.Crash.{IsHeaderFor, IsRefused, IsThisDump, IsRefusedOrThis}
use Rattle.fd_part.proofs.Blocks.{IsBlock, IsBlock-good, length-header_block}
use Rattle.fd_part.proofs.Places.{range_is, same_before, length-put, at_put, part_after-writes_from}
use Rattle.fd_judge.proofs.CutWrites.{AllBelow, AllBelow-append, AllBelow-writes_from, IsSameFrom, after_same, cut_of_begun}
use Rattle.fd_judge.proofs.Torn.{IsTorn, length-torn, take-torn, sector-torn}
use Rattle.fd_judge.proofs.Verdicts.{refused, accepted}

module _ (part body : List ℕ) (h : Header) (block : ℕ) (good : IsTrue (is_good (length part) block)) (room : need_of block (length body) ≤ length part)
    (header : IsHeaderFor body block h) (pieces : List (List ℕ)) (sectors : AllSectors pieces) (joined : concat pieces ≡ body) where
  -- where the trailing block, the dump and the leading block begin
  abbrev end : ℕ
  end = trailing_place (length part) block

  abbrev place : ℕ
  place = dump_place (length part) block (length body)

  abbrev lead : ℕ
  lead = leading_place (length part) block (length body)

  -- what is written to both blocks
  abbrev header_bytes : List ℕ
  header_bytes = header_block h block

  is_block : IsBlock block
  is_block = IsBlock-good (length part) block good

  size : length (concat pieces) ≡ length body
  size = ap length joined

  length-header_bytes : length header_bytes ≡ block
  length-header_bytes = length-header_block h block header.within.fits is_block.low

  whole : length header_bytes % 512 ≡ 0
  whole = omega (arith, length-header_bytes, is_block.sectors)

  first : take 512 header_bytes ≡ dump_header h
  first = take_at (dump_header h) (replicate (block - 512) 0) 512 (length-dump_header h header.within.fits)

  -- all writes but the last
  abbrev writes : List Entry
  writes = writes_from place pieces ++ whole_part lead header_bytes ∷ []

  below : AllBelow end writes
  below =
      AllBelow-append end (writes_from place pieces) (whole_part lead header_bytes ∷ [])
      (AllBelow-writes_from end place pieces sectors (omega (arith, size, room)))
      ((whole, omega (arith, length-header_bytes, room)), tt)

  -- the partition when only the trailing block is still to be written
  abbrev before : List ℕ
  before = part_after part writes

  stays : IsSameFrom end part before
  stays = after_same end part writes below (omega arith)

  abbrev with_body : List ℕ
  with_body = put_mid place (length body) part body

  length-with_body : length with_body ≡ length part
  length-with_body = length-put place part body (omega (arith, room))

  before_is : before ≡ put_mid lead (length header_bytes) with_body header_bytes
  before_is =
      part_after-append part (writes_from place pieces) (whole_part lead header_bytes ∷ [])
      ∙ ap (λ (l : List ℕ). part_step l (whole_part lead header_bytes)) (part_after-writes_from place part pieces sectors (omega (arith, size, room))
      ∙ ap (λ (l : List ℕ). put_mid place (length l) part l) joined)
      ∙ written-all_kept with_body lead header_bytes whole

  -- there the leading header and the body stand
  lead_before : take 512 (drop lead before) ≡ dump_header h
  lead_before =
      ap (λ (l : List ℕ). take 512 (drop lead l)) before_is
      ∙ at_put lead with_body header_bytes 512 (omega (arith, length-with_body)) (omega (arith, length-header_bytes, is_block.low))
      ∙ first

  body_before : take (length body) (drop place before) ≡ body
  body_before =
      ap (λ (l : List ℕ). take (length body) (drop place l)) before_is
      ∙ ap (λ (l : List ℕ). take (length body) l)
      (drop-put_mid lead (length header_bytes) with_body header_bytes place (omega (arith, length-header_bytes, room)) (omega (arith, length-with_body)) refl)
      ∙ at_put place part body (length body) (omega arith) (omega arith)
      ∙ take_all (length body) body (omega arith)

  trailing_is : (q : List ℕ) → length q ≡ length part → trailing_sector q block ≡ take 512 (drop end q)
  trailing_is q same = range_is q (length q - block) 512 ∙ ap (λ n. take 512 (drop (n - block) q)) same

  -- the trailing sector is the one that was there
  still_clear : IsClear part block → (q : List ℕ) → length q ≡ length part → take 512 (drop end q) ≡ take 512 (drop end part) → IsRefused block q
  still_clear clear q same old = refused part q block clear (trailing_is q same ∙ old ∙ sym (trailing_is part refl))

  -- before the trailing block all is written
  lead_there : (q : List ℕ) → length q ≡ length part → take end q ≡ take end before → sector_at q (leading_place (length q) block (length body)) ≡ dump_header h
  lead_there q same front =
      range_is q (leading_place (length q) block (length body)) 512
      ∙ ap (λ n. take 512 (drop (leading_place n block (length body)) q)) same
      ∙ same_before lead 512 end before q (omega (arith, is_block.low, room)) front
      ∙ lead_before

  body_there : (q : List ℕ) → length q ≡ length part → take end q ≡ take end before
      → slice_range q (dump_place (length q) block (length body)) (dump_place (length q) block (length body) + length body) ≡ body
  body_there q same front =
      range_is q (dump_place (length q) block (length body)) (length body)
      ∙ ap (λ n. take (length body) (drop (dump_place n block (length body)) q)) same
      ∙ same_before place (length body) end before q (omega (arith, room)) front
      ∙ body_before

  -- and the trailing sector is the header's
  found : (q : List ℕ) → length q ≡ length part → take end q ≡ take end before → take 512 (drop end q) ≡ take 512 header_bytes → IsThisDump body h block q
  found q same front trailing =
      let good_now : IsTrue (is_good (length q) block) = subst (λ n. IsTrue (is_good n block)) (sym same) good in
      record {
        verdict = accepted q body h block good_now (omega (arith, same, room)) header (trailing_is q same ∙ trailing ∙ first) (lead_there q same front);
        bytes = body_there q same front;
      }

  inside : end + length header_bytes ≤ length before
  inside = omega (arith, length-header_bytes, stays.size, room)

  -- any sectors of the trailing block are new
  torn_last : IsClear part block → (q : List ℕ) → IsTorn before end header_bytes q → IsRefusedOrThis body h block q
  torn_last clear q torn =
      let same : length q ≡ length part = length-torn before end header_bytes q torn inside ∙ stays.size in
      elim (sector-torn before end header_bytes q torn inside) [
        | inl new ↦ inr (found q same (take-torn before end header_bytes q torn inside) new)
        | inr old ↦ inl (still_clear clear q same (old ∙ ap (λ (l : List ℕ). take 512 l) stays.tail))
      ]

  last_apart : writes_from place pieces ++ whole_part lead header_bytes ∷ whole_part end header_bytes ∷ [] ≡ writes ++ whole_part end header_bytes ∷ []
  last_apart = sym (append_assoc (writes_from place pieces) (whole_part lead header_bytes ∷ []) (whole_part end header_bytes ∷ []))

  each_cut : IsClear part block → (journal : List Entry) (k : ℕ) (these : List Bool)
      → IsBegun (writes_from place pieces ++ whole_part lead header_bytes ∷ whole_part end header_bytes ∷ []) journal
      → IsRefusedOrThis body h block (part_cut part journal k these)
  each_cut clear journal k these begun =
      elim (cut_of_begun end part writes end header_bytes (all_kept header_bytes) journal k these below (omega arith) whole
      (subst (λ (l : List Entry). IsBegun l journal) last_apart begun)) [
        | inl same ↦ inl (still_clear clear (part_cut part journal k these) same.size (ap (λ (l : List ℕ). take 512 l) same.tail))
        | inr torn ↦ torn_last clear (part_cut part journal k these) torn
      ]

  -- the last write, whole
  abbrev after : List ℕ
  after = put_mid end (length header_bytes) before header_bytes

  after_is : part_after part (writes_from place pieces ++ whole_part lead header_bytes ∷ whole_part end header_bytes ∷ []) ≡ after
  after_is =
      ap (part_after part) last_apart
      ∙ part_after-append part writes (whole_part end header_bytes ∷ [])
      ∙ written-all_kept before end header_bytes whole

  found_after : IsThisDump body h block after
  found_after =
      found after (length-put end before header_bytes inside ∙ stays.size)
      (take-put_mid_below end (length header_bytes) before header_bytes end (omega arith) (omega (arith, inside)))
      (at_put end before header_bytes 512 (omega (arith, inside)) (omega (arith, length-header_bytes, is_block.low)))

-- each cut of a dump that was begun over a clear partition
pub refused_or_this : (part body : List ℕ) (h : Header) (block : ℕ) (journal : List Entry) (k : ℕ) (these : List Bool)
    → IsTrue (is_good (length part) block) → need_of block (length body) ≤ length part → IsClear part block → IsHeaderFor body block h
    → IsBegunDump body h (length part) block journal → IsRefusedOrThis body h block (part_cut part journal k these)
refused_or_this part body h block journal k these good room clear header begun =
    let dump = begun.is_dump in
    each_cut part body h block good room header dump.pieces dump.sectors dump.joined clear journal k these
    (subst (λ (l : List Entry). IsBegun l journal) dump.is begun.begun)

-- a whole dump over any partition
pub this_after : (part body : List ℕ) (h : Header) (block : ℕ) (journal : List Entry)
    → IsTrue (is_good (length part) block) → need_of block (length body) ≤ length part → IsHeaderFor body block h
    → IsDumpJournal body h (length part) block journal
    → IsThisDump body h block (part_after part journal)
this_after part body h block journal good room header dump =
    subst (IsThisDump body h block) (sym (ap (part_after part) dump.is ∙ after_is part body h block good room header dump.pieces dump.sectors dump.joined))
    (found_after part body h block good room header dump.pieces dump.sectors dump.joined)
