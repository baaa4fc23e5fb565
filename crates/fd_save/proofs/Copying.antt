-- A file that is made of a part of the partition, piece by piece.
use Rattle.std.proofs.Common.{◌≡◌, ℕ, ◌+◌, ◌-◌, ◌≤◌, List, [], ◌∷◌, ◌++◌, length, take, drop, slice_range, Option, Some, None}
use Rattle.std.proofs.Common.{IsSome, Result, Ok, Err, OnErr, OnOk, refl, sym, ◌∙◌, ap, arith, length-append, take-add}
use Rattle.std.proofs.lemmas.List.{drop-drop}
use Rattle.fd_site.specs.Contents.{Adds, Contents, IsFailedFile, Told, file_of, nothing_told, part_of, with_entries}
use Rattle.fd_site.specs.FileJournal.{IsBegunFile, IsFileJournal, IsWrittenFile}
use Rattle.fd_site.specs.Journal.{Create, Sync, Write}
use Rattle.fd_site.proofs.FileJournals.{AllOnFile-begun, adds_begun_at_create, adds_begun_at_sync, adds_begun_at_write, adds_synced, adds_written_more, adds_written_nothing}
use Rattle.fd_site.proofs.FileJournals.{begun_before, told_there}
use Rattle.fd_site.proofs.OnFile.{part_after-on_file}
use Rattle.fd_site.proofs.Written.{part_after-append}
use Rattle.fd_save.specs.Outcome.{Copies, CopiesPiece}

-- so many bytes of the partition from a place on were written to a file that was made
pub record Copied (name : List ℕ) (at done : ℕ) (old now : Option Contents) : Type 0 where
  pub front : List ℕ
  pub size : length front ≡ done
  pub bytes : Told old (λ c. front ≡ slice_range (part_of c) at (at + done))
  pub adds : Adds (IsWrittenFile name front) old now

none_yet : (at : ℕ) (part : List ℕ) → [] ≡ slice_range part at (at + 0)
none_yet at part = let none : at + 0 - at ≡ 0 = omega arith in ap (λ n. take n (drop at part)) (sym none)

pub copied_nothing : (name : List ℕ) (at : ℕ) (old now : Option Contents) → now ≡ with_entries old (Create name ∷ []) → Copied name at 0 old now
copied_nothing name at old now told = record { front = []; size = refl; bytes = λ c is. none_yet at (part_of c); adds = adds_written_nothing name old old now told }

-- two ranges, one behind the other
joined : (part : List ℕ) (at done more : ℕ) → slice_range part at (at + done) ++ slice_range part (at + done) (at + done + more) ≡ slice_range part at (at + (done + more))
joined part at done more =
    let whole : List ℕ = drop at part in
    let first : at + done - at ≡ done = omega arith in
    let next : at + done + more - (at + done) ≡ more = omega arith in
    let both : at + (done + more) - at ≡ done + more = omega arith in
    (λ i. take (first i) whole ++ take (next i) (drop (at + done) part))
    ∙ ap (λ (l : List ℕ). take done whole ++ take more l) (sym (drop-drop done at part))
    ∙ sym (take-add done more whole)
    ∙ ap (λ n. take n whole) (sym both)

-- what was written leaves the partition as it was
written_keeps_part : (name front : List ℕ) (old now : Option Contents) (c : Contents) → old ≡ Some c → (adds : Adds (IsWrittenFile name front) old now)
    → (d : Contents) × (now ≡ Some d) × (part_of d ≡ part_of c)
written_keeps_part name front old now c is (es, written, told) =
    let d : Contents = record c { journal = c.journal ++ es } in (
      d,
      told ∙ ap (λ o. with_entries o es) is,
      part_after-append c.base_part c.journal es ∙ part_after-on_file name (part_of c) es (AllOnFile-begun name (front ++ []) es (begun_before name front [] es written)),
    )

-- so a piece that is read then is one of the partition at first
pub piece_of : (name : List ℕ) (at done : ℕ) (old now : Option Contents) (piece : List ℕ) (from to : ℕ) → Copied name at done old now
    → Told now (λ c. piece ≡ slice_range (part_of c) from to) → Told old (λ c. piece ≡ slice_range (part_of c) from to)
piece_of name at done old now piece from to copied read c is =
    let kept = written_keeps_part name copied.front old now c is copied.adds in
    read kept.0 kept.1 ∙ ap (λ (l : List ℕ). slice_range l from to) kept.2

pub copied_more : (name : List ℕ) (at done count : ℕ) (old mid now : Option Contents) → Copied name at done old mid
    → CopiesPiece name (at + done) done count mid now → Copied name at (done + count) old now
copied_more name at done count old mid now copied more = record {
  front = copied.front ++ more.piece;
  size = length-append copied.front more.piece ∙ (λ i. copied.size i + more.size i);
  bytes = λ c is.
      (λ i. copied.bytes c is i ++ piece_of name at done old mid more.piece (at + done) (at + done + count) copied more.bytes c is i)
      ∙ joined (part_of c) at done count;
  adds = adds_written_more name old mid now copied.front more.piece done (sym copied.size) copied.adds more.told;
}

pub copied_there : (name : List ℕ) (at done : ℕ) (old now : Option Contents) → Copied name at done old now → Told now (λ c. IsSome (file_of c name))
copied_there name at done old now copied = told_there name copied.front old now copied.adds

-- the bytes that are still to be copied
record Rest (at len : ℕ) (front : List ℕ) (told : Option Contents) : Type 0 where
  rest : List ℕ
  bytes : Told told (λ c. front ++ rest ≡ slice_range (part_of c) at (at + len))

rest_of : (at done len : ℕ) (front : List ℕ) (told : Option Contents) → Told told (λ c. front ≡ slice_range (part_of c) at (at + done)) → done ≤ len → Rest at len front told
rest_of at done len front None bytes within = record { rest = []; bytes = λ c is. nothing_told c is }
rest_of at done len front (Some d) bytes within =
    let more : ℕ = len - done in
    record {
      rest = slice_range (part_of d) (at + done) (at + done + more);
      bytes = λ c is.
          let same : d ≡ c = cc in
          let all : done + more ≡ len = omega arith in
          ap (λ (l : List ℕ). l ++ slice_range (part_of d) (at + done) (at + done + more)) (bytes d refl)
          ∙ joined (part_of d) at done more
          ∙ (λ i. slice_range (part_of (same i)) at (at + all i));
    }

-- Whatever comes of the copy, a file of these bytes was begun.
pub copies_begun_at_create : (name : List ℕ) (at len : ℕ) (old new : Option Contents) → Adds (IsFailedFile name) old new → Copies (IsBegunFile name) at len old new
copies_begun_at_create name at len old new failed =
    let rest = rest_of at 0 len [] old (λ c is. none_yet at (part_of c)) (omega arith) in
    record { body = rest.rest; bytes = rest.bytes; adds = adds_begun_at_create name old old new rest.rest failed }

pub copies_begun_at_write : (name : List ℕ) (at done len : ℕ) (old mid new : Option Contents) → Copied name at done old mid → done ≤ len
    → Adds (IsFailedFile name) mid new → Copies (IsBegunFile name) at len old new
copies_begun_at_write name at done len old mid new copied within failed =
    let rest = rest_of at done len copied.front old copied.bytes within in
    record { body = copied.front ++ rest.rest; bytes = rest.bytes; adds = adds_begun_at_write name old mid new copied.front rest.rest copied.adds failed }

pub copies_begun_at_sync : (name : List ℕ) (at done len : ℕ) (old mid new : Option Contents) → done ≡ len → Copied name at done old mid
    → Adds (IsFailedFile name) mid new → Copies (IsBegunFile name) at len old new
copies_begun_at_sync name at done len old mid new all copied failed = record {
  body = copied.front;
  bytes = λ c is. copied.bytes c is ∙ ap (λ n. slice_range (part_of c) at (at + n)) all;
  adds = adds_begun_at_sync name old mid new copied.front copied.adds failed;
}

pub copies_synced : (name : List ℕ) (at done len : ℕ) (old mid new : Option Contents) → done ≡ len → Copied name at done old mid
    → new ≡ with_entries mid (Sync name ∷ []) → Copies (IsFileJournal name) at len old new
copies_synced name at done len old mid new all copied told = record {
  body = copied.front;
  bytes = λ c is. copied.bytes c is ∙ ap (λ n. slice_range (part_of c) at (at + n)) all;
  adds = adds_synced name old mid new copied.front copied.adds told;
}

-- A file that is made of bytes at hand.
module _ (name bytes : List ℕ) (old made now new : Option Contents) (create : made ≡ with_entries old (Create name ∷ [])) where
  empty_file : Adds (IsWrittenFile name []) old made
  empty_file = adds_written_nothing name old old made create

  pub made_there : Told made (λ c. IsSome (file_of c name))
  made_there = told_there name [] old made empty_file

  pub make_begun_at_write : Adds (IsFailedFile name) made new → Adds (IsBegunFile name bytes) old new
  make_begun_at_write failed = adds_begun_at_write name old made new [] bytes empty_file failed

  module _ (write : now ≡ with_entries made (Write name 0 bytes ∷ [])) where
    full_file : Adds (IsWrittenFile name bytes) old now
    full_file = adds_written_more name old made now [] bytes 0 refl empty_file write

    pub written_there : Told now (λ c. IsSome (file_of c name))
    written_there = told_there name bytes old now full_file

    pub make_begun_at_sync : Adds (IsFailedFile name) now new → Adds (IsBegunFile name bytes) old new
    make_begun_at_sync failed = adds_begun_at_sync name old now new bytes full_file failed

    pub made_whole : new ≡ with_entries now (Sync name ∷ []) → Adds (IsFileJournal name bytes) old new
    made_whole sync = adds_synced name old now new bytes full_file sync

-- facts of an answer
pub on_err : {T E P : Type 0} (r : Result T E) → P → OnErr r P
on_err (Ok x) fact = tt
on_err (Err e) fact = fact

pub map_ok : {T E P Q : Type 0} (r : Result T E) → (P → Q) → OnOk r P → OnOk r Q
map_ok (Ok x) more fact = more fact
map_ok (Err e) more fact = tt

pub map_err : {T E P Q : Type 0} (r : Result T E) → (P → Q) → OnErr r P → OnErr r Q
map_err (Ok x) more fact = tt
map_err (Err e) more fact = more fact
