-- Planned writes that began, stopped, or came to their end, and what follows for longer plans.
use Rattle.std.proofs.Common.{◌≡◌, inr, ℕ, ◌+◌, ◌*◌, ◌/◌, ◌<◌, List, [], ◌∷◌, ◌++◌, length, take, true, Option, Result, Ok, Err, OnErr}
use Rattle.std.proofs.Common.{refl, sym, ◌∙◌, ap, arith, length-append}
use Rattle.std.proofs.lemmas.List.{length-replicate, length-take-le, take-append-le}
use Rattle.std.proofs.Math.Seq.{take-append-add}
use Rattle.fd_site.specs.Journal.{Entry, Part, Sector, all_kept, kept_sectors}
use Rattle.fd_site.specs.Contents.{Contents, Adds, whole_part, with_entries}
use Rattle.fd_site.proofs.Begun.{IsBegun-behind, IsBegun-within}
use Rattle.fd_site.proofs.Told.{behind, with_entries-nil}
use Rattle.fd_part.specs.Writes.{Begins, IsWriteOf, Stops}
use Rattle.fd_part.proofs.Sectors.{kept_sectors-append, kept_sectors-one, length-whole_part, whole_part-front}

-- after an error
pub on_err : {T E Q : Type 0} (r : Result T E) → Q → OnErr r Q
on_err (Ok x) q = tt
on_err (Err e) q = q

-- more is planned behind
module _ (P R : List Entry → Type 0) (more : List Entry) (joins : (us : List Entry) → P us → R (us ++ more)) (old new : Option Contents) where
  abbrev pub begins_first : Begins P old new → Begins R old new
  begins_first b = record {
    planned = b.planned ++ more;
    is_planned = joins b.planned b.is_planned;
    added = b.added;
    begun = IsBegun-within b.planned more b.added b.begun;
    told = b.told;
  }

  pub stops_first : (n : ℕ) → Stops P n old new → Stops R n old new
  stops_first n s =
      let all = kept_sectors s.begins.planned in
      let longer : kept_sectors (s.begins.planned ++ more) ≡ all ++ kept_sectors more = kept_sectors-append s.begins.planned more in
      record {
        begins = begins_first s.begins;
        sectors = s.sectors ∙ sym (ap (λ (l : List Sector). take n l) longer ∙ take-append-le n all (kept_sectors more) (omega (arith, s.short)));
        short = omega (arith, s.short, ap length longer, length-append all (kept_sectors more));
      }

-- what was planned before is done
module _ (P Q R : List Entry → Type 0) (joins : (us vs : List Entry) → P us → Q vs → R (us ++ vs)) (old mid new : Option Contents) (done : Adds P old mid) where
  abbrev pub begins_then : Begins Q mid new → Begins R old new
  begins_then b = record {
    planned = done.0 ++ b.planned;
    is_planned = joins done.0 b.planned done.1 b.is_planned;
    added = done.0 ++ b.added;
    begun = IsBegun-behind done.0 b.planned b.added b.begun;
    told = behind P Q R joins old mid new done b.added b.told;
  }

  pub stops_then : (count : ℕ) → ((us : List Entry) → P us → length (kept_sectors us) ≡ count) → (n left : ℕ) → n + count ≡ left → Stops Q n mid new → Stops R left old new
  stops_then count counts n left sum s =
      let before = kept_sectors done.0 in
      let all = kept_sectors s.begins.planned in
      let place : left ≡ length before + n = omega (arith, sum, counts done.0 done.1) in
      let joined : kept_sectors (done.0 ++ s.begins.planned) ≡ before ++ all = kept_sectors-append done.0 s.begins.planned in
      record {
        begins = begins_then s.begins;
        sectors =
            kept_sectors-append done.0 s.begins.added
            ∙ ap (λ (l : List Sector). before ++ l) s.sectors
            ∙ sym ((λ i. take (place i) (joined i)) ∙ take-append-add before all n);
        short = omega (arith, place, s.short, ap length joined, length-append before all);
      }

-- one write that stopped before it began
pub stops_before : (at : ℕ) (bytes : List ℕ) (n : ℕ) (old new : Option Contents) → n ≡ 0 → n < length bytes / 512 → new ≡ old → Stops (IsWriteOf at bytes) n old new
stops_before at bytes n old new none short same = record {
  begins = record {
    planned = whole_part at bytes ∷ [];
    is_planned = refl;
    added = [];
    begun = tt;
    told = same ∙ with_entries-nil old;
  };
  sectors = sym (ap (λ k. take k (kept_sectors (whole_part at bytes ∷ []))) none);
  short = omega (arith, short, ap length (kept_sectors-one (whole_part at bytes)), length-whole_part at bytes);
}

-- one write of the first sectors alone
pub stops_within : (at : ℕ) (bytes : List ℕ) (n : ℕ) (old new : Option Contents) → n < length bytes / 512
    → new ≡ with_entries old (whole_part at (take (n * 512) bytes) ∷ [])
    → Stops (IsWriteOf at bytes) n old new
stops_within at bytes n old new short told =
    let front : List ℕ = take (n * 512) bytes in
    let size : length front ≡ n * 512 = length-take-le (n * 512) bytes (omega (arith, short)) in
    let count : length front / 512 ≡ n = omega (arith, size) in
    let kept : length (all_kept front) ≡ n = length-replicate (length front / 512) true ∙ count in
    record {
      begins = record {
        planned = whole_part at bytes ∷ [];
        is_planned = refl;
        added = whole_part at front ∷ [];
        begun =
            inr (inr (all_kept front, omega (arith, kept, short), ap (λ k. Part at (take (k * 512) bytes) (all_kept front) ∷ []) (sym kept)));
        told = told;
      };
      sectors =
          kept_sectors-one (whole_part at front)
          ∙ whole_part-front at bytes n (omega (arith, short)) count
          ∙ sym (ap (λ (l : List Sector). take n l) (kept_sectors-one (whole_part at bytes)));
      short = omega (arith, short, ap length (kept_sectors-one (whole_part at bytes)), length-whole_part at bytes);
    }
