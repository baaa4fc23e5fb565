-- Marking a header after a look at the trailing sector, and a dump behind that.
use Rattle.std.proofs.Common.{◌≡◌, ℕ, ◌-◌, ◌%◌, Bool, true, false, if◌then◌else◌, List, [], ◌∷◌, ◌++◌, length, Option, Some, Result, Ok, Err, IsErrOf, arith, refl, sym, ◌∙◌, ap, subst}
use Rattle.std.proofs.lemmas.List.{append-nil}
use Rattle.fd_site.specs.Begun.{IsBegun}
use Rattle.fd_site.specs.Contents.{Adds, Contents, Told, part_of, whole_part, with_entries}
use Rattle.fd_site.specs.Journal.{Entry}
use Rattle.fd_site.specs.Seen.{Seen, Frame, Untouched}
use Rattle.fd_site.proofs.Begun.{IsBegun-behind, IsBegun-within}
use Rattle.fd_site.proofs.Told.{with_entries-append, with_entries-nil}
use Rattle.fd_kdh.specs.declared.header.Header.{Header}
use Rattle.fd_part.specs.Clearing.{clearing}
use Rattle.fd_part.specs.Dump.{IsBegunDump, IsDumpJournal, header_block, writes_from}
use Rattle.fd_part.specs.Marked.{IsBegunMarked, IsMarkedJournal, is_live_sector, marking}
use Rattle.fd_part.specs.Outcome.{IfStopped, IfWhole}
use Rattle.fd_part.specs.Partition.{dump_place, leading_place, sector_at, trailing_place, trailing_sector}
use Rattle.fd_part.specs.declared.outcome.Wrote.{Wrote}
use Rattle.fd_part.specs.declared.outcome.Wrote.TheVariants.{Whole, Stopped}

-- marking by the sector that was read
marking_by : (part : List ℕ) (size block place : ℕ) (sector : List ℕ) → length part ≡ size → place ≡ size - block → sector ≡ sector_at part place
    → marking part block ≡ (if is_live_sector sector then clearing size block sector else [])
marking_by part size block place sector sized placed read =
    let same : trailing_sector part block ≡ sector =
    ap (λ n. sector_at part (n - block)) sized ∙ ap (sector_at part) (sym placed) ∙ sym read in
    ap (λ (l : List ℕ). if is_live_sector l then clearing (length part) block l else []) same
    ∙ ap (λ n. if is_live_sector sector then clearing n block sector else []) sized

-- the sector at the trailing block was read, and nothing was written yet
module _ (old mid : Seen) (n b : ℕ) (sector : List ℕ) (is_size : n ≡ old.size) (is_block : b ≡ old.block)
    (sized : Told old.told (λ c. length (part_of c) ≡ old.size)) (same : Untouched old mid)
    (read : Told old.told (λ c. sector ≡ sector_at (part_of c) (n - b))) where
  by_sector : (c : Contents) → old.told ≡ Some c → (live : Bool) → is_live_sector sector ≡ live
      → marking (part_of c) old.block ≡ (if live then clearing old.size old.block sector else [])
  by_sector c is live tested =
      marking_by (part_of c) old.size old.block (n - b) sector (sized c is) (ap (λ k. k - b) is_size ∙ ap (λ k. old.size - k) is_block) (read c is)
      ∙ ap (λ (x : Bool). if x then clearing old.size old.block sector else []) tested

  clearing_there : clearing mid.size mid.block sector ≡ clearing old.size old.block sector
  clearing_there = ap (λ k. clearing k mid.block sector) same.size ∙ ap (λ k. clearing old.size k sector) same.block

  -- clearing it failed
  pub begun_live : (new : Option Contents) → is_live_sector sector ≡ true → Adds (IsBegun (clearing mid.size mid.block sector)) mid.told new
      → Adds (λ es. Told old.told (λ c. IsBegun (marking (part_of c) old.block) es)) old.told new
  begun_live new live adds = (
    adds.0,
    (λ c is. subst (λ (ps : List Entry). IsBegun ps adds.0) (clearing_there ∙ sym (by_sector c is true live)) adds.1),
    adds.2 ∙ ap (λ t. with_entries t adds.0) same.told,
  )

  -- it was cleared
  pub done_live : (new : Option Contents) → is_live_sector sector ≡ true → new ≡ with_entries mid.told (clearing mid.size mid.block sector)
      → Adds (λ es. Told old.told (λ c. es ≡ marking (part_of c) old.block)) old.told new
  done_live new live told = (
    clearing mid.size mid.block sector,
    (λ c is. clearing_there ∙ sym (by_sector c is true live)),
    told ∙ ap (λ t. with_entries t (clearing mid.size mid.block sector)) same.told,
  )

  -- there is nothing to clear
  pub done_clear : is_live_sector sector ≡ false → Adds (λ es. Told old.told (λ c. es ≡ marking (part_of c) old.block)) old.told mid.told
  done_clear clear = ([], (λ c is. sym (by_sector c is false clear)), same.told ∙ with_entries-nil old.told)

-- nothing was begun
pub begun_nothing : (old : Option Contents) (block : ℕ) (new : Option Contents) → new ≡ old
    → Adds (λ es. Told old (λ c. IsBegun (marking (part_of c) block) es)) old new
begun_nothing old block new same = ([], (λ c is. tt), same ∙ with_entries-nil old)

-- a dump in one piece
one_piece : (body : List ℕ) (h : Header) (size block : ℕ) → length body % 512 ≡ 0 → (journal : List Entry) × IsDumpJournal body h size block journal
one_piece body h size block whole = (
  writes_from (dump_place size block (length body)) (body ∷ [])
      ++ whole_part (leading_place size block (length body)) (header_block h block) ∷ whole_part (trailing_place size block) (header_block h block) ∷ [],
  record { pieces = body ∷ []; sectors = (whole, tt); joined = append-nil body; is = refl },
)

-- a dump behind the marking
module _ (old mid : Seen) (new : Option Contents) (body : List ℕ) (h : Header) (sized : Told old.told (λ c. length (part_of c) ≡ old.size)) (frame : Frame old mid) where
  journal_there : (c : Contents) → old.told ≡ Some c → (es : List Entry) → IsDumpJournal body h mid.size mid.block es
      → IsDumpJournal body h (length (part_of c)) old.block es
  journal_there c is es dump =
      subst (λ n. IsDumpJournal body h n old.block es) (frame.size ∙ sym (sized c is)) (subst (λ b. IsDumpJournal body h mid.size b es) frame.block dump)

  pub whole_behind : Adds (λ es. Told old.told (λ c. es ≡ marking (part_of c) old.block)) old.told mid.told
      → Adds (IsDumpJournal body h mid.size mid.block) mid.told new
      → Adds (λ es. Told old.told (λ c. IsMarkedJournal (part_of c) body h old.block es)) old.told new
  whole_behind marked dump = (
    marked.0 ++ dump.0,
    (λ c is. record { dump = dump.0; is_dump = journal_there c is dump.0 dump.1; is = ap (λ (l : List Entry). l ++ dump.0) (marked.1 c is) }),
    dump.2 ∙ ap (λ t. with_entries t dump.0) marked.2 ∙ with_entries-append old.told marked.0 dump.0,
  )

  pub begun_behind : Adds (λ es. Told old.told (λ c. es ≡ marking (part_of c) old.block)) old.told mid.told
      → Adds (IsBegunDump body h mid.size mid.block) mid.told new
      → Adds (λ es. Told old.told (λ c. IsBegunMarked (part_of c) body h old.block es)) old.told new
  begun_behind marked dump = (
    marked.0 ++ dump.0,
    (λ c is. record {
      planned = marking (part_of c) old.block ++ dump.1.planned;
      is_marked = record { dump = dump.1.planned; is_dump = journal_there c is dump.1.planned dump.1.is_dump; is = refl };
      begun =
          subst (λ (l : List Entry). IsBegun (marking (part_of c) old.block ++ dump.1.planned) (l ++ dump.0)) (sym (marked.1 c is))
          (IsBegun-behind (marking (part_of c) old.block) dump.1.planned dump.0 dump.1.begun);
    }),
    dump.2 ∙ ap (λ t. with_entries t dump.0) marked.2 ∙ with_entries-append old.told marked.0 dump.0,
  )

-- the marking alone was begun
pub begun_marking : (old new : Option Contents) (body : List ℕ) (h : Header) (block : ℕ) → length body % 4096 ≡ 0
    → Adds (λ es. Told old (λ c. IsBegun (marking (part_of c) block) es)) old new
    → Adds (λ es. Told old (λ c. IsBegunMarked (part_of c) body h block es)) old new
begun_marking old new body h block pages adds = (
  adds.0,
  (λ c is.
      let dump = one_piece body h (length (part_of c)) block (omega (arith, pages)) in
      record {
        planned = marking (part_of c) block ++ dump.0;
        is_marked = record { dump = dump.0; is_dump = dump.1; is = refl };
        begun = IsBegun-within (marking (part_of c) block) dump.0 adds.0 (adds.1 c is);
      }),
  adds.2,
)

-- without a stop all was written
pub all_written : {P : Type 0} (wrote : Wrote) → IfWhole wrote P → IfStopped wrote ⊥ → P
all_written Whole all none = all
all_written Stopped all none = absurd none

-- the same error of another call
pub same_err : {T U E : Type 0} (e f : E) → IsErrOf {T = T} {E = E} (Err e) f → IsErrOf {T = U} {E = E} (Err e) f
same_err {T} {U} {E} e f is = ap (λ x. Err x) (ap error is)
  where
    error : Result T E → E
    error (Ok x) = e
    error (Err x) = x
