-- Bytes that are written in pieces, one piece after the other.
use Rattle.std.proofs.Common.{◌≡◌, ℕ, ◌+◌, ◌*◌, ◌/◌, ◌%◌, List, [], ◌∷◌, ◌++◌, length, Option, refl, sym, ◌∙◌, ap, subst, arith, length-append, append_assoc}
use Rattle.std.proofs.lemmas.List.{append-nil}
use Rattle.std.proofs.lemmas.List.Folds.{concat-append}
use Rattle.std.specs.List.{concat}
use Rattle.fd_site.specs.Journal.{Entry, kept_sectors, sectors_of}
use Rattle.fd_site.specs.Contents.{Contents, Adds, whole_part, with_entries}
use Rattle.fd_site.proofs.Told.{adds_then}
use Rattle.fd_site.proofs.Written.{in_pieces-append}
use Rattle.fd_part.specs.Dump.{AllSectors, writes_from}
use Rattle.fd_part.specs.Writes.{Begins, IsWriteOf, IsWritesOf, Stops}
use Rattle.fd_part.proofs.Sectors.{kept_sectors-writes_from, length-whole_part}
use Rattle.fd_part.proofs.Progress.{begins_first, begins_then, stops_first, stops_then}

AllSectors-append : (ps qs : List (List ℕ)) → AllSectors ps → AllSectors qs → AllSectors (ps ++ qs)
AllSectors-append [] qs a b = b
AllSectors-append (p ∷ ps) qs a b = (a.0, AllSectors-append ps qs a.1 b)

-- one piece, and pieces behind others
pub one_write : (at : ℕ) (p : List ℕ) (writes : List Entry) → length p % 512 ≡ 0 → IsWriteOf at p writes → IsWritesOf at p writes
one_write at p writes whole is = record { pieces = p ∷ []; sectors = (whole, tt); joined = append-nil p; is = is }

pub writes_joined : (at next : ℕ) (p q : List ℕ) (us vs : List Entry) → next ≡ at + length p → IsWritesOf at p us → IsWritesOf next q vs → IsWritesOf at (p ++ q) (us ++ vs)
writes_joined at next p q us vs place a b = record {
  pieces = a.pieces ++ b.pieces;
  sectors = AllSectors-append a.pieces b.pieces a.sectors b.sectors;
  joined = concat-append a.pieces b.pieces ∙ (λ i. a.joined i ++ b.joined i);
  is =
      (λ i. a.is i ++ (b.is ∙ ap (λ n. writes_from n b.pieces) (place ∙ ap (λ (l : List ℕ). at + length l) (sym a.joined))) i)
      ∙ sym (in_pieces-append whole_part at a.pieces b.pieces);
}

-- their sectors are those of the bytes
pub sectors_of_writes : (at : ℕ) (bytes : List ℕ) (writes : List Entry) → IsWritesOf at bytes writes → kept_sectors writes ≡ sectors_of (whole_part at bytes)
sectors_of_writes at bytes writes w =
    ap kept_sectors w.is ∙ kept_sectors-writes_from at w.pieces w.sectors ∙ ap (λ (l : List ℕ). sectors_of (whole_part at l)) w.joined

pub count_of_writes : (at : ℕ) (bytes : List ℕ) (writes : List Entry) → IsWritesOf at bytes writes → length (kept_sectors writes) ≡ length bytes / 512
count_of_writes at bytes writes w = ap length (sectors_of_writes at bytes writes w) ∙ length-whole_part at bytes

-- pieces of whole sectors join to whole sectors
length_whole : (ps : List (List ℕ)) → AllSectors ps → length (concat ps) % 512 ≡ 0
length_whole [] sectors = refl
length_whole (p ∷ ps) sectors = omega (arith, sectors.0, length_whole ps sectors.1, length-append p (concat ps))

-- of some bytes all but the rest were written
pub record WroteBut (from : ℕ) (all rest : List ℕ) (old new : Option Contents) : Type 0 where
  pub front : List ℕ
  pub joined : front ++ rest ≡ all
  pub adds : Adds (IsWritesOf from front) old new

-- a piece more, whole or not
module _ (from at : ℕ) (all to_come p rest : List ℕ) (old mid new : Option Contents) (wrote : WroteBut from all to_come old mid) (more : to_come ≡ p ++ rest)
    (whole : length p % 512 ≡ 0) (place : at + length to_come ≡ from + length all) where
  next : at ≡ from + length wrote.front
  next = omega (arith, place, ap length wrote.joined, length-append wrote.front to_come)

  joined : (wrote.front ++ p) ++ rest ≡ all
  joined = append_assoc wrote.front p rest ∙ ap (λ (l : List ℕ). wrote.front ++ l) (sym more) ∙ wrote.joined

  abbrev Front : List Entry → Type 0
  Front = IsWritesOf from wrote.front

  abbrev WithPiece : List Entry → Type 0
  WithPiece = IsWritesOf from (wrote.front ++ p)

  with_piece : (us vs : List Entry) → Front us → IsWriteOf at p vs → WithPiece (us ++ vs)
  with_piece us vs front piece = writes_joined from at wrote.front p us vs next front (one_write at p vs whole piece)

  pub wrote_more : new ≡ with_entries mid (whole_part at p ∷ []) → WroteBut from all rest old new
  wrote_more told = record {
    front = wrote.front ++ p;
    joined = joined;
    adds = adds_then Front (IsWriteOf at p) WithPiece with_piece old mid new wrote.adds (whole_part at p ∷ [], refl, told);
  }

  module _ (whole_rest : length rest % 512 ≡ 0) where
    abbrev last : ℕ
    last = from + length (wrote.front ++ p)

    with_rest : (us : List Entry) → WithPiece us → IsWritesOf from all (us ++ whole_part last rest ∷ [])
    with_rest us is =
        subst (λ (l : List ℕ). IsWritesOf from l (us ++ whole_part last rest ∷ [])) joined
        (writes_joined from last (wrote.front ++ p) rest us (whole_part last rest ∷ []) refl is (one_write last rest (whole_part last rest ∷ []) whole_rest refl))

    pub begins_in_piece : Begins (IsWriteOf at p) mid new → Begins (IsWritesOf from all) old new
    begins_in_piece b =
        begins_first WithPiece (IsWritesOf from all) (whole_part last rest ∷ []) with_rest old new
        (begins_then Front (IsWriteOf at p) WithPiece with_piece old mid new wrote.adds b)

    pub stops_in_piece : (now left : ℕ) → now * 512 + length all ≡ left * 512 + length to_come → Stops (IsWriteOf at p) now mid new → Stops (IsWritesOf from all) left old new
    stops_in_piece now left counts s =
        let front = wrote.adds.1 in
        let sum : now + length wrote.front / 512 ≡ left =
        omega (arith, counts, length_whole front.pieces front.sectors, ap length front.joined, ap length wrote.joined, length-append wrote.front to_come) in
        stops_first WithPiece (IsWritesOf from all) (whole_part last rest ∷ []) with_rest old new left
        (stops_then Front (IsWriteOf at p) WithPiece with_piece old mid new wrote.adds (length wrote.front / 512) (count_of_writes from wrote.front) now left sum s)
