-- A dump's parts, one after the other: the body, the leading block, the trailing block.
use Rattle.std.proofs.Common.{◌≡◌, ℕ, ◌+◌, ◌-◌, ◌*◌, ◌/◌, ◌<◌, ◌≤◌, ◌^◌, List, [], ◌∷◌, ◌++◌, length, take, Option, Some, None, unwrap_or, IsSomeAnd}
use Rattle.std.proofs.Common.{IsTrue, refl, sym, ◌∙◌, ap, subst, arith, length-append, append_assoc}
use Rattle.fd_site.specs.Journal.{Entry, Sector, kept_sectors, sectors_of}
use Rattle.fd_site.specs.Contents.{Contents, Adds, whole_part, with_entries}
use Rattle.fd_site.proofs.Begun.{IsBegun-whole}
use Rattle.fd_site.proofs.Told.{adds_then}
use Rattle.fd_kdh.specs.declared.header.Header.{Header}
use Rattle.fd_kdh.specs.Header.{FitsFields}
use Rattle.fd_part.specs.Dump.{IsBegunDump, IsDumpJournal, dump_sectors, header_block, writes_from}
use Rattle.fd_part.specs.Outcome.{IfStopped, IsStoppedDump}
use Rattle.fd_part.specs.declared.outcome.Wrote.{Wrote}
use Rattle.fd_part.specs.declared.outcome.Wrote.TheVariants.{Whole, Stopped}
use Rattle.fd_part.specs.Partition.{is_good, dump_place, leading_place, trailing_place}
use Rattle.fd_part.specs.Writes.{Begins, IsWriteOf, IsWritesOf, Stops}
use Rattle.fd_part.proofs.Blocks.{IsBlock-good, length-header_block}
use Rattle.fd_part.proofs.Sectors.{kept_sectors-append, kept_sectors-one, kept_sectors-writes_from, length-whole_part}
use Rattle.fd_part.proofs.Progress.{begins_first, begins_then, stops_first, stops_then}
use Rattle.fd_part.proofs.BodyWrites.{count_of_writes}

-- where the code puts the parts, and what it writes as a block
pub record IsPlaced (body : List ℕ) (h : Header) (size block at_body at_leading at_trailing : ℕ) (bytes : List ℕ) : Type 0 where
  pub body_at : at_body ≡ dump_place size block (length body)
  pub leading_at : at_leading ≡ leading_place size block (length body)
  pub trailing_at : at_trailing ≡ trailing_place size block
  pub is_block : bytes ≡ header_block h block

-- from what the calls answer
pub is_placed : (body : List ℕ) (h : Header) (size block size_now block_now extent : ℕ) (buffer : List ℕ) → size_now ≡ size → block_now ≡ block → extent ≡ length body
    → ((n : ℕ) → 512 ≤ n → n ≤ 4096 → take n buffer ≡ header_block h n) → IsTrue (is_good size block)
    → IsPlaced body h size block (size_now - block_now - extent) (size_now - block_now - extent - block_now) (size_now - block_now) (take block_now buffer)
is_placed body h size block size_now block_now extent buffer size_is block_is extent_is buffer_is good =
    let bounds = IsBlock-good size block good in
    record {
      body_at = omega (arith, size_is, block_is, extent_is);
      leading_at = omega (arith, size_is, block_is, extent_is);
      trailing_at = omega (arith, size_is, block_is);
      is_block = ap (λ n. take n buffer) block_is ∙ buffer_is block bounds.low bounds.high;
    }

module _ (body : List ℕ) (h : Header) (size block : ℕ) where
  abbrev leading : Entry
  leading = whole_part (leading_place size block (length body)) (header_block h block)

  abbrev trailing : Entry
  trailing = whole_part (trailing_place size block) (header_block h block)

  abbrev IsBody : List Entry → Type 0
  IsBody = IsWritesOf (dump_place size block (length body)) body

  -- the body and the leading block
  abbrev IsFront : List Entry → Type 0
  IsFront writes = (first : List Entry) × IsBody first × (writes ≡ first ++ leading ∷ [])

  abbrev IsDump : List Entry → Type 0
  IsDump = IsDumpJournal body h size block

  -- the whole journal, from its parts
  body_with_blocks : (us : List Entry) → IsBody us → IsDump (us ++ leading ∷ trailing ∷ [])
  body_with_blocks us w = record { pieces = w.pieces; sectors = w.sectors; joined = w.joined; is = ap (λ (l : List Entry). l ++ leading ∷ trailing ∷ []) w.is }

  front_with_block : (us : List Entry) → IsFront us → IsDump (us ++ trailing ∷ [])
  front_with_block us (first, is_body, is) =
      subst IsDump (sym (ap (λ (l : List Entry). l ++ trailing ∷ []) is ∙ append_assoc first (leading ∷ []) (trailing ∷ []))) (body_with_blocks first is_body)

  -- the sectors of a whole dump
  pub sectors_of_dump : (journal : List Entry) → IsDump journal → kept_sectors journal ≡ dump_sectors body h size block
  sectors_of_dump journal d =
      let at : ℕ = dump_place size block (length body) in
      ap kept_sectors d.is
      ∙ kept_sectors-append (writes_from at d.pieces) (leading ∷ trailing ∷ [])
      ∙ (λ i. (kept_sectors-writes_from at d.pieces d.sectors ∙ ap (λ (l : List ℕ). sectors_of (whole_part at l)) d.joined) i ++ (sectors_of leading ++ kept_sectors-one trailing i))

  is_begun : (old new : Option Contents) (b : Begins IsDump old new) → IsBegunDump body h size block b.added
  is_begun old new b = record { planned = b.planned; is_dump = b.is_planned; begun = b.begun }

  module _ (at_body at_leading at_trailing : ℕ) (bytes : List ℕ) (placed : IsPlaced body h size block at_body at_leading at_trailing bytes) where
    abbrev IsBodyHere : List Entry → Type 0
    IsBodyHere = IsWritesOf at_body body

    abbrev IsLeadingHere : List Entry → Type 0
    IsLeadingHere = IsWriteOf at_leading bytes

    abbrev IsTrailingHere : List Entry → Type 0
    IsTrailingHere = IsWriteOf at_trailing bytes

    body_here : (us : List Entry) → IsBodyHere us → IsBody us
    body_here us is = subst (λ n. IsWritesOf n body us) placed.body_at is

    -- in the body
    dump_of_body : (us : List Entry) → IsBodyHere us → IsDump (us ++ leading ∷ trailing ∷ [])
    dump_of_body us is = body_with_blocks us (body_here us is)

    pub begins_in_body : (old new : Option Contents) → Begins IsBodyHere old new → Begins IsDump old new
    begins_in_body old new b = begins_first IsBodyHere IsDump (leading ∷ trailing ∷ []) dump_of_body old new b

    pub stops_in_body : (old new : Option Contents) (n : ℕ) → Stops IsBodyHere n old new → Stops IsDump n old new
    stops_in_body old new n s = stops_first IsBodyHere IsDump (leading ∷ trailing ∷ []) dump_of_body old new n s

    front_of : (us vs : List Entry) → IsBodyHere us → IsLeadingHere vs → IsFront (us ++ vs)
    front_of us vs is_body is = (us, body_here us is_body, ap (λ (l : List Entry). us ++ l) (is ∙ (λ i. whole_part (placed.leading_at i) (placed.is_block i) ∷ [])))

    whole_of : (us vs : List Entry) → IsFront us → IsTrailingHere vs → IsDump (us ++ vs)
    whole_of us vs is_front is =
        subst (λ (l : List Entry). IsDump (us ++ l)) (sym (is ∙ (λ i. whole_part (placed.trailing_at i) (placed.is_block i) ∷ []))) (front_with_block us is_front)

    -- in the leading block, behind the body
    module _ (old mid : Option Contents) (body_done : Adds IsBodyHere old mid) where
      pub begins_in_leading : (new : Option Contents) → Begins IsLeadingHere mid new → Begins IsDump old new
      begins_in_leading new b =
          begins_first IsFront IsDump (trailing ∷ []) front_with_block old new (begins_then IsBodyHere IsLeadingHere IsFront front_of old mid new body_done b)

      pub stops_in_leading : (new : Option Contents) (n left : ℕ) → n + length body / 512 ≡ left → Stops IsLeadingHere n mid new → Stops IsDump left old new
      stops_in_leading new n left sum s =
          stops_first IsFront IsDump (trailing ∷ []) front_with_block old new left
          (stops_then IsBodyHere IsLeadingHere IsFront front_of old mid new body_done (length body / 512) (count_of_writes at_body body) n left sum s)

      -- in the trailing block, behind both
      module _ (last : Option Contents) (leading_done : last ≡ with_entries mid (whole_part at_leading bytes ∷ [])) where
        front_done : Adds IsFront old last
        front_done = adds_then IsBodyHere IsLeadingHere IsFront front_of old mid last body_done (whole_part at_leading bytes ∷ [], refl, leading_done)

        pub begins_in_trailing : (new : Option Contents) → Begins IsTrailingHere last new → Begins IsDump old new
        begins_in_trailing new b = begins_then IsFront IsTrailingHere IsDump whole_of old last new front_done b

        pub stops_in_trailing : (new : Option Contents) (n left : ℕ) → n + (length body / 512 + length bytes / 512) ≡ left → Stops IsTrailingHere n last new → Stops IsDump left old new
        stops_in_trailing new n left sum s =
            stops_then IsFront IsTrailingHere IsDump whole_of old last new front_done (length body / 512 + length bytes / 512) count n left sum s
          where
            count : (us : List Entry) → IsFront us → length (kept_sectors us) ≡ length body / 512 + length bytes / 512
            count us (first, is_body, is) =
                omega (
                  arith,
                  ap (λ (l : List Entry). length (kept_sectors l)) is,
                  ap length (kept_sectors-append first (leading ∷ [])),
                  length-append (kept_sectors first) (kept_sectors (leading ∷ [])),
                  count_of_writes (dump_place size block (length body)) body first is_body,
                  ap length (kept_sectors-one leading),
                  length-whole_part (leading_place size block (length body)) (header_block h block),
                  ap length placed.is_block,
                )

        pub dump_done : (new : Option Contents) → new ≡ with_entries last (whole_part at_trailing bytes ∷ []) → Adds IsDump old new
        dump_done new told = adds_then IsFront IsTrailingHere IsDump whole_of old last new front_done (whole_part at_trailing bytes ∷ [], refl, told)

  -- how many sectors a dump has
  module _ (fits : FitsFields h) (low : 512 ≤ block) where
    pub length-dump_sectors : length (dump_sectors body h size block) ≡ length body / 512 + 2 * (block / 512)
    length-dump_sectors =
        let first : List Sector = sectors_of (whole_part (dump_place size block (length body)) body) in
        omega (
          arith,
          length-append first (sectors_of leading ++ sectors_of trailing),
          length-append (sectors_of leading) (sectors_of trailing),
          length-whole_part (dump_place size block (length body)) body,
          length-whole_part (leading_place size block (length body)) (header_block h block),
          length-whole_part (trailing_place size block) (header_block h block),
          length-header_block h block fits low,
        )

    -- a number of sectors that was given, or one that no dump reaches
    module _ (small : length body ≤ 2 ^ 62) (high : block ≤ 4096) (old new : Option Contents) where
      short : (n : ℕ) → Stops IsDump n old new → n < length (dump_sectors body h size block)
      short n s = omega (arith, s.short, ap length (sectors_of_dump s.begins.planned s.begins.is_planned))

      pub stopped_short : (stop : Option ℕ) → Stops IsDump (unwrap_or stop (2 ^ 64 - 1)) old new → IsSomeAnd stop (λ n. n < length (dump_sectors body h size block))
      stopped_short None s = absurd (omega (arith, short (2 ^ 64 - 1) s, length-dump_sectors, small, high))
      stopped_short (Some n) s = short n s

      pub stopped_journal : (stop : Option ℕ) → Stops IsDump (unwrap_or stop (2 ^ 64 - 1)) old new → IsSomeAnd stop (λ n. Adds (IsStoppedDump body h size block n) old new)
      stopped_journal None s = absurd (omega (arith, short (2 ^ 64 - 1) s, length-dump_sectors, small, high))
      stopped_journal (Some n) s =
          let sectors = s.sectors ∙ ap (λ (l : List Sector). take n l) (sectors_of_dump s.begins.planned s.begins.is_planned) in
          (s.begins.added, record { begun = is_begun old new s.begins; sectors = sectors }, s.begins.told)

-- where the writer stopped
pub if_stopped : {P Q : Type 0} (wrote : Wrote) → (P → Q) → IfStopped wrote P → IfStopped wrote Q
if_stopped Whole f p = tt
if_stopped Stopped f p = f p

-- a dump that was written whole was begun
pub IsBegunDump-whole : (body : List ℕ) (h : Header) (size block : ℕ) (journal : List Entry) → IsDumpJournal body h size block journal
    → IsBegunDump body h size block journal
IsBegunDump-whole body h size block journal dump = record { planned = journal; is_dump = dump; begun = IsBegun-whole journal }
