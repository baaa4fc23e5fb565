-- Which of the first sectors of a dump over a clear partition make it one that is found: those up to the trailing header.
--
-- A judge looks at the first sector of the trailing block, and where that holds a header, at the first sector of the
-- leading block. What stands in a sector is what the last kept sector at its place has (`LastSectors`), and the kept
-- sectors are the first of the dump's. So with fewer than are needed the trailing sector is the one that was there, and
-- the partition is refused, since it was clear. With enough both sectors are the header's, as after the whole dump; so the
-- judge answers as after that, which is found. By the law of cuts the partition then holds the whole dump.
use Rattle.std.proofs.Common.{◌≡◌, ◌⊎◌, inl, inr, ℕ, zero, suc, ◌+◌, ◌-◌, ◌/◌, ◌%◌, ◌<◌, ◌≤◌, false, true, IsTrue, List, [], ◌∷◌, ◌++◌, length, take, drop, replicate, Option, Some, None}
use Rattle.std.proofs.Common.{Ok, refl, sym, ◌∙◌, ap, subst, arith, length-append, append_assoc}
use Rattle.std.proofs.Math.Seq.{take-append-add, take-length}
use Rattle.std.proofs.lemmas.Bool.Decides.{nat_tests}
use Rattle.std.proofs.lemmas.List.{take-append-le, take_at}
use Rattle.std.specs.List.{concat}
use Rattle.fd_site.specs.Contents.{Contents, whole_part}
use Rattle.fd_site.specs.Journal.{Entry, Sector, part_after, sectors_of, sectors_of_write}
use Rattle.fd_image.specs.Image.{IsValid, MachineImage}
use Rattle.fd_kdh.specs.Header.{decoded, dump_header}
use Rattle.fd_kdh.specs.declared.header.Header.{Header}
use Rattle.fd_kdh.proofs.Headers.{decoded-dump_header, length-dump_header}
use Rattle.fd_dump.specs.Header.{header_of}
use Rattle.fd_dump.specs.Minidump.{minidump_of}
use Rattle.fd_part.specs.Dump.{AllSectors, dump_sectors, header_block, writes_from}
use Rattle.fd_part.specs.Outcome.{IsStoppedDump}
use Rattle.fd_part.specs.Partition.{IsClear, dump_place, is_good, leading_place, need_of, sector_at, trailing_place, trailing_sector}
use Rattle.fd_part.proofs.Blocks.{IsBlock, IsBlock-good, length-header_block}
use Rattle.fd_part.proofs.Places.{range_is}
use Rattle.fd_part.proofs.WholeDump.{length-dump_sectors}
use Rattle.fd_judge.specs.Crash.{IsHeaderFor, IsRefused, IsThisDump}
use Rattle.fd_judge.specs.Verdict.{by_fields, by_header, by_leading, first_difference, first_of, judged, reasons}
use Rattle.fd_judge.specs.declared.verdict.Verdict.TheVariants as verdict
use Rattle.fd_judge.specs.declared.why.Why.{Why}
use Rattle.fd_judge.proofs.Calls.{each_cut_of_nothing}
use Rattle.fd_judge.proofs.CutLaw.{this_after}
use Rattle.fd_way.specs.Laws.{IsDecided, sectors_needed}
use Rattle.fd_way.proofs.FirstSectors.{whole_stopped}
use Rattle.fd_way.proofs.LastSectors.{AllWrites, AllWrites-append, AllWrites-begun, Apart, Apart-append, Apart-take, Apart-whole}
use Rattle.fd_way.proofs.LastSectors.{after_writes, first_there, last_at, last_at-apart, last_at-append, length-writes, whole_write}
use Rattle.fd_way.proofs.OverClear.{begun_or_this, header_for}

-- a good partition has whole sectors
whole_sectors : (size block : ℕ) → IsTrue (is_good size block) → size % 512 ≡ 0
whole_sectors size block good = by_block (sizes size block good)
  where
    sizes : (n b : ℕ) → IsTrue (is_good n b) → (b ≡ 512) ⊎ ((b ≡ 1024) ⊎ ((b ≡ 2048) ⊎ (b ≡ 4096)))
    sizes n b is = grind (arith, nat_tests)

    at_block : (b : ℕ) → block ≡ b → IsTrue (is_good size b)
    at_block b is = subst (λ n. IsTrue (is_good size n)) is good

    by_block : (block ≡ 512) ⊎ ((block ≡ 1024) ⊎ ((block ≡ 2048) ⊎ (block ≡ 4096))) → size % 512 ≡ 0
    by_block (inl is) = let g = at_block 512 is in grind (arith, nat_tests, g)
    by_block (inr (inl is)) = let g = at_block 1024 is in grind (arith, nat_tests, g)
    by_block (inr (inr (inl is))) = let g = at_block 2048 is in grind (arith, nat_tests, g)
    by_block (inr (inr (inr is))) = let g = at_block 4096 is in grind (arith, nat_tests, g)

count_whole : (n at : ℕ) (p : List ℕ) → length (sectors_of_write at p (replicate n true)) ≡ n
count_whole zero at p = refl
count_whole (suc n) at p = ap suc (count_whole n (at + 512) (drop 512 p))

pieces_are_writes : (size at : ℕ) (pieces : List (List ℕ)) → at % 512 ≡ 0 → AllSectors pieces → at + length (concat pieces) ≤ size → AllWrites size (writes_from at pieces)
pieces_are_writes size at [] start sectors le = tt
pieces_are_writes size at (p ∷ ps) start sectors le =
    let count : length (p ++ concat ps) ≡ length p + length (concat ps) = length-append p (concat ps) in
    (whole_write size at p start sectors.0 (omega (arith, count)), pieces_are_writes size (at + length p) ps (omega (arith, start, sectors.0)) sectors.1 (omega (arith, count)))

-- judging answers alike where both sectors that it looks at are the same, and the first holds a header
judged_alike : (p q : List ℕ) (block : ℕ) (h : Header) (sector : List ℕ) → length p ≡ length q → trailing_sector p block ≡ sector → trailing_sector q block ≡ sector
    → decoded sector ≡ Ok h → sector_at p (leading_place (length p) block h.dumpextent) ≡ sector_at q (leading_place (length q) block h.dumpextent)
    → judged p block false ≡ judged q block false
judged_alike p q block h sector size p_is q_is header same =
    ap (λ (s : List ℕ). by_header p block s s (decoded s)) p_is
    ∙ ap (by_header p block sector sector) header
    ∙ ap (λ n. by_fields p block sector sector h (first_of (reasons h n block))) size
    ∙ by_reason (first_of (reasons h (length q) block))
    ∙ sym (ap (by_header q block sector sector) header)
    ∙ sym (ap (λ (s : List ℕ). by_header q block s s (decoded s)) q_is)
  where
    by_reason : (why : Option Why) → by_fields p block sector sector h why ≡ by_fields q block sector sector h why
    by_reason (Some why) = refl
    by_reason None =
        ap (λ n. by_leading h (dump_place n block h.dumpextent) sector (first_difference sector (sector_at p (leading_place (length p) block h.dumpextent)))) size
        ∙ ap (λ (s : List ℕ). by_leading h (dump_place (length q) block h.dumpextent) sector (first_difference sector s)) same

-- a clear partition is refused
clear_refused : (q : List ℕ) (block : ℕ) → IsClear q block → IsRefused block q
clear_refused q block clear =
    let c : Contents = record { base_part = q; base_file = λ name. None; journal = [] } in
    each_cut_of_nothing (Some c) (Some c) c c refl refl block refl clear 0 [] (omega arith)

module _ (part : List ℕ) (m : MachineImage) (block : ℕ) (valid : IsValid m) (good : IsTrue (is_good (length part) block)) (room : need_of block (length (minidump_of m)) ≤ length part) where
  abbrev body : List ℕ
  body = minidump_of m

  abbrev h : Header
  h = header_of m block

  abbrev end : ℕ
  end = trailing_place (length part) block

  abbrev place : ℕ
  place = dump_place (length part) block (length body)

  abbrev lead : ℕ
  lead = leading_place (length part) block (length body)

  abbrev header_bytes : List ℕ
  header_bytes = header_block h block

  bounds : IsBlock block
  bounds = IsBlock-good (length part) block good

  header : IsHeaderFor body block h
  header = header_for m (length part) block valid good

  sectors : length part % 512 ≡ 0
  sectors = whole_sectors (length part) block good

  length-header_bytes : length header_bytes ≡ block
  length-header_bytes = length-header_block h block header.within.fits bounds.low

  first : take 512 header_bytes ≡ dump_header h
  first = take_at (dump_header h) (replicate (block - 512) 0) 512 (length-dump_header h header.within.fits)

  abbrev of_body : List Sector
  of_body = sectors_of (whole_part place body)

  abbrev of_leading : List Sector
  of_leading = sectors_of (whole_part lead header_bytes)

  abbrev of_trailing : List Sector
  of_trailing = sectors_of (whole_part end header_bytes)

  -- the sectors before the trailing block
  abbrev front : List Sector
  front = of_body ++ of_leading

  count_leading : length of_leading ≡ block / 512
  count_leading = count_whole (length header_bytes / 512) lead header_bytes ∙ ap (λ n. n / 512) length-header_bytes

  count_front : length front ≡ length body / 512 + block / 512
  count_front = omega (arith, length-append of_body of_leading, count_whole (length body / 512) place body, count_leading)

  apart_from_front : Apart end front
  apart_from_front =
      Apart-append end of_body of_leading (Apart-whole end place body (inr (omega (arith, room))) (omega (arith, header.pages)))
      (Apart-whole end lead header_bytes (inr (omega (arith, room, length-header_bytes))) (omega (arith, length-header_bytes, bounds.sectors)))

  module _ (stop : ℕ) (journal : List Entry) (stopped : IsStoppedDump body h (length part) block stop journal) where
    abbrev after : List ℕ
    after = part_after part journal

    all_planned : AllWrites (length part) stopped.begun.planned
    all_planned =
        let dump = stopped.begun.is_dump in
        subst (AllWrites (length part)) (sym dump.is)
        (AllWrites-append (length part) (writes_from place dump.pieces) (whole_part lead header_bytes ∷ whole_part end header_bytes ∷ [])
        (pieces_are_writes (length part) place dump.pieces (omega (arith, sectors, bounds.sectors, header.pages, room)) dump.sectors (omega (arith, ap length dump.joined, room))) (
          whole_write (length part) lead header_bytes (omega (arith, sectors, bounds.sectors, header.pages, room))
              (omega (arith, length-header_bytes, bounds.sectors)) (omega (arith, length-header_bytes, room)),
          (
            whole_write (length part) end header_bytes (omega (arith, sectors, bounds.sectors, room))
                (omega (arith, length-header_bytes, bounds.sectors)) (omega (arith, length-header_bytes, room)),
            tt,
          ),
        ))

    all_journal : AllWrites (length part) journal
    all_journal = AllWrites-begun (length part) stopped.begun.planned journal all_planned stopped.begun.begun

    same_size : length after ≡ length part
    same_size = length-writes part journal all_journal

    -- what stands at a place
    sector_is : (p : ℕ) → p % 512 ≡ 0 → take 512 (drop p after) ≡ last_at p (take stop (front ++ of_trailing)) (take 512 (drop p part))
    sector_is p whole =
        after_writes p part journal whole all_journal
        ∙ ap (λ (l : List Sector). last_at p l (take 512 (drop p part)))
        (stopped.sectors ∙ ap (λ (l : List Sector). take stop l) (sym (append_assoc of_body of_leading of_trailing)))

    trailing_is : trailing_sector after block ≡ take 512 (drop end after)
    trailing_is = ap (λ n. sector_at after (n - block)) same_size ∙ range_is after end 512

    -- with fewer sectors the trailing one is as it was
    still : stop < sectors_needed m block → trailing_sector after block ≡ trailing_sector part block
    still few =
        trailing_is ∙ sector_is end (omega (arith, sectors, bounds.sectors, room))
        ∙ ap (λ (l : List Sector). last_at end l (take 512 (drop end part))) (take-append-le stop front of_trailing (omega (arith, few, count_front)))
        ∙ last_at-apart end (take stop front) (take 512 (drop end part)) (Apart-take end stop front apart_from_front)
        ∙ sym (range_is part end 512)

    -- with enough both are the header's
    module _ (enough : sectors_needed m block ≤ stop) where
      abbrev k : ℕ
      k = stop - length front

      split : take stop (front ++ of_trailing) ≡ front ++ take k of_trailing
      split =
          let sum : stop ≡ length front + k = omega (arith, enough, count_front) in
          ap (λ n. take n (front ++ of_trailing)) sum ∙ take-append-add front of_trailing k

      trailing_there : trailing_sector after block ≡ dump_header h
      trailing_there =
          trailing_is ∙ sector_is end (omega (arith, sectors, bounds.sectors, room))
          ∙ ap (λ (l : List Sector). last_at end l (take 512 (drop end part))) split
          ∙ last_at-append end front (take k of_trailing) (take 512 (drop end part))
          ∙ first_there end k header_bytes (last_at end front (take 512 (drop end part))) (omega (arith, length-header_bytes, bounds.low)) (omega (arith, enough, count_front))
          ∙ first

      leading_there : sector_at after (leading_place (length after) block h.dumpextent) ≡ dump_header h
      leading_there =
          let old : List ℕ = take 512 (drop lead part) in
          let some : 1 ≤ length of_leading = omega (arith, count_leading, bounds.low) in
          ap (λ n. sector_at after (leading_place n block (length body))) same_size ∙ range_is after lead 512
          ∙ sector_is lead (omega (arith, sectors, bounds.sectors, header.pages, room))
          ∙ ap (λ (l : List Sector). last_at lead l old) split
          ∙ last_at-append lead front (take k of_trailing) old
          ∙ last_at-apart lead (take k of_trailing) (last_at lead front old)
          (Apart-take lead k of_trailing (Apart-whole lead end header_bytes (inl (omega (arith, room, header.some))) (omega (arith, length-header_bytes, bounds.sectors))))
          ∙ last_at-append lead of_body of_leading old
          ∙ ap (λ (l : List Sector). last_at lead l (last_at lead of_body old)) (sym (take-length of_leading))
          ∙ first_there lead (length of_leading) header_bytes (last_at lead of_body old) (omega (arith, length-header_bytes, bounds.low)) some
          ∙ first

  -- the whole dump that was begun has all its sectors
  module _ (stop : ℕ) (journal : List Entry) (stopped : IsStoppedDump body h (length part) block stop journal) (enough : sectors_needed m block ≤ stop) where
    abbrev all : ℕ
    all = length (dump_sectors body h (length part) block)

    abbrev planned : List Entry
    planned = stopped.begun.planned

    enough_all : sectors_needed m block ≤ all
    enough_all = omega (arith, length-dump_sectors body h (length part) block header.within.fits bounds.low, bounds.low)

    is_whole : IsStoppedDump body h (length part) block all planned
    is_whole = whole_stopped body h (length part) block all planned stopped.begun.is_dump (omega arith)

    found_whole : IsThisDump body h block (part_after part planned)
    found_whole = this_after part body h block planned good room header stopped.begun.is_dump

    -- judging answers as over that
    found : judged (part_after part journal) block false ≡ judged (part_after part planned) block false
    found =
        judged_alike (part_after part journal) (part_after part planned) block h (dump_header h)
        (same_size stop journal stopped ∙ sym (same_size all planned is_whole))
        (trailing_there stop journal stopped enough)
        (trailing_there all planned is_whole enough_all)
        (decoded-dump_header h header.within)
        (leading_there stop journal stopped enough ∙ sym (leading_there all planned is_whole enough_all))

    pub not_refused : IsRefused block (part_after part journal) → ⊥
    not_refused refused =
        let is : verdict.Refused refused.0 ≡ verdict.Dump h (dump_place (length (part_after part planned)) block (length body)) (dump_header h) = sym refused.1 ∙ found ∙ found_whole.verdict in
        cc

-- the number of sectors decides
pub stop_decides : (part : List ℕ) (m : MachineImage) (block stop : ℕ) (journal : List Entry) → IsValid m → IsTrue (is_good (length part) block)
    → need_of block (length (minidump_of m)) ≤ length part → IsClear part block → IsStoppedDump (minidump_of m) (header_of m block) (length part) block stop journal
    → IsDecided m block stop (part_after part journal)
stop_decides part m block stop journal valid good room clear stopped = record {
  found = λ enough. elim (begun_or_this part m (length part) block journal refl valid good room clear stopped.begun) [
    | inl refused ↦ absurd (not_refused part m block valid good room stop journal stopped enough refused)
    | inr this ↦ this
  ];
  refused = λ few.
      clear_refused (part_after part journal) block
      (λ live. clear (ap (λ (l : List ℕ). take 20 l) (sym (still part m block valid good room stop journal stopped few)) ∙ live));
}
