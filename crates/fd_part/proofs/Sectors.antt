-- The sectors of writes, in order.
use Rattle.std.proofs.Common.{◌≡◌, ℕ, zero, suc, ◌+◌, ◌*◌, ◌/◌, ◌%◌, ◌≤◌, Bool, true, List, [], ◌∷◌, ◌++◌, length, take, drop, replicate}
use Rattle.std.proofs.Common.{if◌then◌else◌, refl, sym, ◌∙◌, ap, arith, length-append, length-drop, append_assoc}
use Rattle.std.proofs.lemmas.List.{append-nil, nil_from_length, length-replicate, take-append-le, drop-append-le, take-take, drop-take, replicate-append-replicate}
use Rattle.std.specs.List.{concat}
use Rattle.fd_site.specs.Journal.{Entry, Sector, all_kept, kept_sectors, sectors_of, sectors_of_write}
use Rattle.fd_site.specs.Contents.{whole_part}
use Rattle.fd_part.specs.Dump.{AllSectors, writes_from}

-- those of a write of two parts are the sectors of the first, then those of the second
sectors_of_write-append : (ks ls : List Bool) (at : ℕ) (p q : List ℕ) → length ks * 512 ≡ length p
    → sectors_of_write at (p ++ q) (ks ++ ls) ≡ sectors_of_write at p ks ++ sectors_of_write (at + length p) q ls
sectors_of_write-append [] ls at p q size =
    let none : length p ≡ 0 = omega arith in
    let same : at ≡ at + length p = omega arith in
    (λ i. sectors_of_write (same i) (nil_from_length p none i ++ q) ls)
sectors_of_write-append (k ∷ ks) ls at p q size =
    let here : take 512 (p ++ q) ≡ take 512 p = take-append-le 512 p q (omega arith) in
    let rest : drop 512 (p ++ q) ≡ drop 512 p ++ q = drop-append-le 512 p q (omega arith) in
    let place : at + 512 + length (drop 512 p) ≡ at + length p = omega (arith, length-drop 512 p) in
    (λ i. first k (here i) ++ sectors_of_write (at + 512) (rest i) (ks ++ ls))
    ∙ ap (λ (l : List Sector). first k (take 512 p) ++ l)
    (sectors_of_write-append ks ls (at + 512) (drop 512 p) q (omega (arith, length-drop 512 p))
    ∙ ap (λ (n : ℕ). sectors_of_write (at + 512) (drop 512 p) ks ++ sectors_of_write n q ls) place)
    ∙ sym (append_assoc (first k (take 512 p)) (sectors_of_write (at + 512) (drop 512 p) ks) (sectors_of_write (at + length p) q ls))
  where
    first : Bool → List ℕ → List Sector
    first kept bytes = if kept then record { at = at; bytes = bytes } ∷ [] else []

all_kept-append : (p q : List ℕ) → length p % 512 ≡ 0 → all_kept (p ++ q) ≡ all_kept p ++ all_kept q
all_kept-append p q whole =
    let counts : length (p ++ q) / 512 ≡ length p / 512 + length q / 512 = omega (arith, length-append p q) in
    ap (λ n. replicate n true) counts ∙ sym (replicate-append-replicate (length p / 512) (length q / 512) true)

pub whole_part-append : (at : ℕ) (p q : List ℕ) → length p % 512 ≡ 0
    → sectors_of (whole_part at (p ++ q)) ≡ sectors_of (whole_part at p) ++ sectors_of (whole_part (at + length p) q)
whole_part-append at p q whole =
    ap (λ ks. sectors_of_write at (p ++ q) ks) (all_kept-append p q whole)
    ∙ sectors_of_write-append (all_kept p) (all_kept q) at p q (omega (arith, length-replicate (length p / 512) true))

-- one for each 512 bytes
length-all_kept : (n at : ℕ) (p : List ℕ) → length (sectors_of_write at p (replicate n true)) ≡ n
length-all_kept zero at p = refl
length-all_kept (suc n) at p = ap suc (length-all_kept n (at + 512) (drop 512 p))

pub length-whole_part : (at : ℕ) (p : List ℕ) → length (sectors_of (whole_part at p)) ≡ length p / 512
length-whole_part at p = length-all_kept (length p / 512) at p

-- those of a write of a front are the first ones
first_all_kept : (n m at : ℕ) (p : List ℕ) → n ≤ m → sectors_of_write at (take (n * 512) p) (replicate n true) ≡ take n (sectors_of_write at p (replicate m true))
first_all_kept zero m at p le = refl
first_all_kept (suc n) zero at p le = absurd (omega arith)
first_all_kept (suc n) (suc m) at p le =
    let count : suc n * 512 ≡ 512 + n * 512 = omega arith in
    let here : take 512 (take (suc n * 512) p) ≡ take 512 p = take-take 512 (suc n * 512) p (omega arith) in
    let rest : drop 512 (take (suc n * 512) p) ≡ take (n * 512) (drop 512 p) = ap (λ k. drop 512 (take k p)) count ∙ drop-take 512 (n * 512) p in
    (λ i. sector (here i) ∷ sectors_of_write (at + 512) (rest i) (replicate n true))
    ∙ ap (λ (l : List Sector). sector (take 512 p) ∷ l) (first_all_kept n m (at + 512) (drop 512 p) (omega arith))
  where
    sector : List ℕ → Sector
    sector bytes = record { at = at; bytes = bytes }

pub whole_part-front : (at : ℕ) (p : List ℕ) (n : ℕ) → n ≤ length p / 512 → length (take (n * 512) p) / 512 ≡ n
    → sectors_of (whole_part at (take (n * 512) p)) ≡ take n (sectors_of (whole_part at p))
whole_part-front at p n le count =
    ap (λ m. sectors_of_write at (take (n * 512) p) (replicate m true)) count ∙ first_all_kept n (length p / 512) at p le

-- those of journals
pub kept_sectors-append : (es fs : List Entry) → kept_sectors (es ++ fs) ≡ kept_sectors es ++ kept_sectors fs
kept_sectors-append [] fs = refl
kept_sectors-append (e ∷ es) fs =
    ap (λ (l : List Sector). sectors_of e ++ l) (kept_sectors-append es fs) ∙ sym (append_assoc (sectors_of e) (kept_sectors es) (kept_sectors fs))

pub kept_sectors-one : (e : Entry) → kept_sectors (e ∷ []) ≡ sectors_of e
kept_sectors-one e = append-nil (sectors_of e)

-- writes of pieces have the sectors of one write of the whole
pub kept_sectors-writes_from : (at : ℕ) (pieces : List (List ℕ)) → AllSectors pieces → kept_sectors (writes_from at pieces) ≡ sectors_of (whole_part at (concat pieces))
kept_sectors-writes_from at [] whole = refl
kept_sectors-writes_from at (p ∷ ps) whole =
    ap (λ (l : List Sector). sectors_of (whole_part at p) ++ l) (kept_sectors-writes_from (at + length p) ps whole.1) ∙ sym (whole_part-append at p (concat ps) whole.0)
