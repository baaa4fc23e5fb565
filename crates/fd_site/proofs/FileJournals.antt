-- Files that are made whole: how a writer builds one up, and what one leaves.
use Rattle.std.proofs.Common.{◌≡◌, inl, inr, ℕ, ◌+◌, ◌-◌, Bool, true, List, [], ◌∷◌, ◌++◌, length, take, drop, replicate, Option, Some, if◌then◌else◌, IsSome}
use Rattle.std.proofs.Common.{refl, sym, ◌∙◌, ap, subst, arith, length-append, append_assoc}
use Rattle.std.proofs.lemmas.List.{append-nil, drop_all, take_all}
use Rattle.std.proofs.lemmas.List.Folds.{concat-append}
use Rattle.std.specs.List.{concat}
use Rattle.std.specs.Str.{bytes_eq}
use Rattle.fd_site.specs.Begun.{IsBegun, IsFailed}
use Rattle.fd_site.specs.Contents.{Contents, Adds, IsFailedFile, Told, file_of, with_entries}
use Rattle.fd_site.specs.FileJournal.{IsBegunFile, IsFileJournal, IsWrittenFile, file_writes}
use Rattle.fd_site.specs.Journal.{Entry, Create, Write, Sync, file_after, file_after_own, file_step, file_written, is_on, stable_after}
use Rattle.fd_site.proofs.Begun.{IsBegun-behind, IsBegun-whole, IsBegun-within}
use Rattle.fd_site.proofs.OnFile.{AllOnFile, AllOnFile-append, AllOnFile-begins, same_name}
use Rattle.fd_site.proofs.Told.{Before, adds_then, before, file_after-append, stable_after-append}
use Rattle.fd_site.proofs.Written.{in_pieces-append}

module _ (name : List ℕ) where
  -- A writer makes a file, adds pieces, and syncs it.
  pub written_nothing : IsWrittenFile name [] (Create name ∷ [])
  written_nothing = record { pieces = []; joined = refl; is = refl }

  pub written_more : (front piece : List ℕ) (at : ℕ) (es : List Entry) → at ≡ length front → IsWrittenFile name front es
      → IsWrittenFile name (front ++ piece) (es ++ Write name at piece ∷ [])
  written_more front piece at es place w = record {
    pieces = w.pieces ++ piece ∷ [];
    joined = concat-append w.pieces (piece ∷ []) ∙ (λ i. w.joined i ++ append-nil piece i);
    is =
        ap (λ (l : List Entry). l ++ Write name at piece ∷ []) w.is
        ∙ ap (λ n. Create name ∷ (file_writes name 0 w.pieces ++ Write name n piece ∷ [])) behind
        ∙ ap (λ (l : List Entry). Create name ∷ l) (sym (in_pieces-append (λ place piece. Write name place piece) 0 w.pieces (piece ∷ [])));
  }
    where
      behind : at ≡ 0 + length (concat w.pieces)
      behind = omega (arith, place, ap length w.joined)

  pub synced : (bytes : List ℕ) (es : List Entry) → IsWrittenFile name bytes es → IsFileJournal name bytes (es ++ Sync name ∷ [])
  synced bytes es w = record { pieces = w.pieces; joined = w.joined; is = ap (λ (l : List Entry). l ++ Sync name ∷ []) w.is }

  -- Whatever comes of it, a file was begun.
  pub begun_whole : (bytes : List ℕ) (journal : List Entry) → IsFileJournal name bytes journal → IsBegunFile name bytes journal
  begun_whole bytes journal is_file = record { planned = journal; is_file = is_file; begun = IsBegun-whole journal }

  failed_next : (e : Entry) (more added : List Entry) → ((es : List Entry) → IsFailedFile name es → IsFailed e es) → IsFailedFile name added → IsBegun (e ∷ more) added
  failed_next e more [] fails failed = tt
  failed_next e more (a ∷ added) fails failed = inr (fails (a ∷ added) failed)

  pub begun_at_create : (bytes : List ℕ) (added : List Entry) → IsFailedFile name added → IsBegunFile name bytes added
  begun_at_create bytes added failed = record {
    planned = Create name ∷ (file_writes name 0 (bytes ∷ []) ++ Sync name ∷ []);
    is_file = record { pieces = bytes ∷ []; joined = append-nil bytes; is = refl };
    begun = failed_next (Create name) (file_writes name 0 (bytes ∷ []) ++ Sync name ∷ []) added (λ es f. f) failed;
  }

  -- with the rest of the bytes still to be written in one piece, and that write or what stands before it failed
  pub begun_at_write : (front rest : List ℕ) (es added : List Entry) → IsWrittenFile name front es → IsFailedFile name added → IsBegunFile name (front ++ rest) (es ++ added)
  begun_at_write front rest es added w failed =
      let next : List Entry = Write name (length front) rest ∷ [] in
      record {
        planned = (es ++ next) ++ Sync name ∷ [];
        is_file = synced (front ++ rest) (es ++ next) (written_more front rest (length front) es refl w);
        begun =
            IsBegun-within (es ++ next) (Sync name ∷ []) (es ++ added)
            (IsBegun-behind es next added (failed_next (Write name (length front) rest) [] added (λ es f. f) failed));
      }

  pub begun_at_sync : (bytes : List ℕ) (es added : List Entry) → IsWrittenFile name bytes es → IsFailedFile name added → IsBegunFile name bytes (es ++ added)
  begun_at_sync bytes es added w failed = record {
    planned = es ++ Sync name ∷ [];
    is_file = synced bytes es w;
    begun = IsBegun-behind es (Sync name ∷ []) added (failed_next (Sync name) [] added (λ es f. f) failed);
  }

  pub begun_before : (front rest : List ℕ) (es : List Entry) → IsWrittenFile name front es → IsBegunFile name (front ++ rest) es
  begun_before front rest es w =
      subst (IsBegunFile name (front ++ rest)) (append-nil es) (begun_at_write front rest es [] w (inl refl))

  -- The same of what is told.
  module _ (old mid new : Option Contents) where
    pub adds_written_nothing : new ≡ with_entries old (Create name ∷ []) → Adds (IsWrittenFile name []) old new
    adds_written_nothing told = (Create name ∷ [], written_nothing, told)

    pub adds_written_more : (front piece : List ℕ) (at : ℕ) → at ≡ length front → Adds (IsWrittenFile name front) old mid
        → new ≡ with_entries mid (Write name at piece ∷ []) → Adds (IsWrittenFile name (front ++ piece)) old new
    adds_written_more front piece at place done told =
        adds_then (IsWrittenFile name front) (λ vs. vs ≡ Write name at piece ∷ []) (IsWrittenFile name (front ++ piece))
        (λ us vs w is. subst (λ (l : List Entry). IsWrittenFile name (front ++ piece) (us ++ l)) (sym is) (written_more front piece at us place w)) old mid new done
        (Write name at piece ∷ [], refl, told)

    pub adds_synced : (bytes : List ℕ) → Adds (IsWrittenFile name bytes) old mid → new ≡ with_entries mid (Sync name ∷ []) → Adds (IsFileJournal name bytes) old new
    adds_synced bytes done told =
        adds_then (IsWrittenFile name bytes) (λ vs. vs ≡ Sync name ∷ []) (IsFileJournal name bytes)
        (λ us vs w is. subst (λ (l : List Entry). IsFileJournal name bytes (us ++ l)) (sym is) (synced bytes us w)) old mid new done (Sync name ∷ [], refl, told)

    pub adds_begun_at_create : (bytes : List ℕ) → Adds (IsFailedFile name) old new → Adds (IsBegunFile name bytes) old new
    adds_begun_at_create bytes (added, failed, told) = (added, begun_at_create bytes added failed, told)

    pub adds_begun_at_write : (front rest : List ℕ) → Adds (IsWrittenFile name front) old mid → Adds (IsFailedFile name) mid new → Adds (IsBegunFile name (front ++ rest)) old new
    adds_begun_at_write front rest done failed =
        adds_then (IsWrittenFile name front) (IsFailedFile name) (IsBegunFile name (front ++ rest)) (λ us vs w f. begun_at_write front rest us vs w f) old mid new done failed

    pub adds_begun_at_sync : (bytes : List ℕ) → Adds (IsWrittenFile name bytes) old mid → Adds (IsFailedFile name) mid new → Adds (IsBegunFile name bytes) old new
    adds_begun_at_sync bytes done failed =
        adds_then (IsWrittenFile name bytes) (IsFailedFile name) (IsBegunFile name bytes) (λ us vs w f. begun_at_sync bytes us vs w f) old mid new done failed

  pub adds_begun_before : (front rest : List ℕ) (old new : Option Contents) → Adds (IsWrittenFile name front) old new → Adds (IsBegunFile name (front ++ rest)) old new
  adds_begun_before front rest old new (added, written, told) = (added, begun_before front rest added written, told)

  pub adds_begun_whole : (bytes : List ℕ) (old new : Option Contents) → Adds (IsFileJournal name bytes) old new → Adds (IsBegunFile name bytes) old new
  adds_begun_whole bytes old new (added, is_file, told) = (added, begun_whole bytes added is_file, told)

  -- What a file then is.
  own_step : (was : Option (List ℕ)) (e : Entry) → is_on name e ≡ bytes_eq name name → file_step name was e ≡ file_after_own was e
  own_step was e named = ap (λ b. if b then file_after_own was e else was) (named ∙ same_name name)

  file_written-end : (front piece : List ℕ) → file_written front (length front) piece ≡ front ++ piece
  file_written-end front piece =
      let none : length front - length front ≡ 0 = omega arith in
      (λ i. (take_all (length front) front (omega arith) i ++ replicate (none i) 0) ++ (piece ++ drop_all (length front + length piece) front (omega arith) i))
      ∙ (λ i. append-nil front i ++ append-nil piece i)

  file_after-writes : (front : List ℕ) (at : ℕ) (pieces : List (List ℕ)) → at ≡ length front
      → file_after name (Some front) (file_writes name at pieces) ≡ Some (front ++ concat pieces)
  file_after-writes front at [] place = ap (λ l. Some l) (sym (append-nil front))
  file_after-writes front at (p ∷ ps) place =
      let rest : List Entry = file_writes name (at + length p) ps in
      ap (λ f. file_after name f rest) (own_step (Some front) (Write name at p) refl)
      ∙ ap (λ l. file_after name (Some l) rest) (ap (λ n. file_written front n p) place ∙ file_written-end front p)
      ∙ file_after-writes (front ++ p) (at + length p) ps (omega (arith, place, length-append front p))
      ∙ ap (λ l. Some l) (append_assoc front p (concat ps))

  pub file_after-written : (bytes : List ℕ) (es : List Entry) (was : Option (List ℕ)) → IsWrittenFile name bytes es → file_after name was es ≡ Some bytes
  file_after-written bytes es was w =
      ap (λ l. file_after name was l) w.is
      ∙ ap (λ f. file_after name f (file_writes name 0 w.pieces)) (own_step was (Create name) refl)
      ∙ file_after-writes [] 0 w.pieces refl
      ∙ ap (λ l. Some l) w.joined

  pub file_after-whole : (bytes : List ℕ) (journal : List Entry) (was : Option (List ℕ)) → IsFileJournal name bytes journal → file_after name was journal ≡ Some bytes
  file_after-whole bytes journal was j =
      let done : List Entry = Create name ∷ file_writes name 0 j.pieces in
      ap (λ l. file_after name was l) j.is
      ∙ file_after-append name was done (Sync name ∷ [])
      ∙ own_step (file_after name was done) (Sync name) refl
      ∙ file_after-written bytes done was (record { pieces = j.pieces; joined = j.joined; is = refl })

  pub stable_after-whole : (bytes : List ℕ) (journal : List Entry) (was : Bool) → IsFileJournal name bytes journal → stable_after name was journal ≡ true
  stable_after-whole bytes journal was j =
      let done : List Entry = Create name ∷ file_writes name 0 j.pieces in
      ap (λ l. stable_after name was l) j.is
      ∙ stable_after-append name was done (Sync name ∷ [])
      ∙ ap (λ b. if b then true else stable_after name was done) (same_name name)

  -- where it is told
  pub told_written : (bytes : List ℕ) (old new : Option Contents) → Adds (IsWrittenFile name bytes) old new → Told new (λ c. file_of c name ≡ Some bytes)
  told_written bytes old new (es, w, adds) c told =
      let b : Before old es c = before old es c (sym adds ∙ told) in
      b.file name ∙ file_after-written bytes es (file_of b.was name) w

  pub told_there : (bytes : List ℕ) (old new : Option Contents) → Adds (IsWrittenFile name bytes) old new → Told new (λ c. IsSome (file_of c name))
  told_there bytes old new adds c told = subst (λ f. IsSome f) (sym (told_written bytes old new adds c told)) refl

  pub told_whole : (bytes : List ℕ) (old new : Option Contents) → Adds (IsFileJournal name bytes) old new → Told new (λ c. file_of c name ≡ Some bytes)
  told_whole bytes old new (es, j, adds) c told =
      let b : Before old es c = before old es c (sym adds ∙ told) in
      b.file name ∙ file_after-whole bytes es (file_of b.was name) j

  -- All its entries are on this file alone.
  AllOnFile-writes : (at : ℕ) (pieces : List (List ℕ)) → AllOnFile name (file_writes name at pieces)
  AllOnFile-writes at [] = tt
  AllOnFile-writes at (p ∷ ps) =
      (record { named = λ q. refl; step = λ part. refl; torn = λ part these. refl }, AllOnFile-writes (at + length p) ps)

  pub AllOnFile-whole : (bytes : List ℕ) (journal : List Entry) → IsFileJournal name bytes journal → AllOnFile name journal
  AllOnFile-whole bytes journal j =
      subst (AllOnFile name) (sym j.is) (
        record { named = λ q. refl; step = λ part. refl; torn = λ part these. refl },
        AllOnFile-append name (file_writes name 0 j.pieces) (Sync name ∷ []) (AllOnFile-writes 0 j.pieces)
            (record { named = λ q. refl; step = λ part. refl; torn = λ part these. refl }, tt),
      )

  pub AllOnFile-begun : (bytes : List ℕ) (added : List Entry) → IsBegunFile name bytes added → AllOnFile name added
  AllOnFile-begun bytes added b = AllOnFile-begins name b.planned added (AllOnFile-whole bytes b.planned b.is_file) b.begun
