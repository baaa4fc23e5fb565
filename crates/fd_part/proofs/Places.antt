-- What writes leave at the places of a partition.
use Rattle.std.proofs.Common.{◌≡◌, ℕ, ◌+◌, ◌-◌, ◌≤◌, List, [], ◌∷◌, ◌++◌, length, take, drop, slice_range, refl, sym, ◌∙◌, ap, arith, length-append}
use Rattle.std.proofs.Common.{length-drop, take-append-drop, append_assoc}
use Rattle.std.proofs.lemmas.List.{length-take-le, take-take, drop_at, drop-drop, drop-take, take-append-le}
use Rattle.std.proofs.lemmas.Slice.{take-put_mid, drop-put_mid}
use Rattle.std.specs.List.{concat}
use borrow.Rule.Slice.PartMut.{put_mid}
use Rattle.fd_site.specs.Journal.{part_step, part_after}
use Rattle.fd_site.specs.Contents.{whole_part}
use Rattle.fd_site.proofs.Written.{written-all_kept}
use Rattle.fd_part.specs.Dump.{AllSectors, writes_from}

-- so many bytes from a place on
pub range_is : (part : List ℕ) (at n : ℕ) → slice_range part at (at + n) ≡ take n (drop at part)
range_is part at n = let size : at + n - at ≡ n = omega arith in ap (λ m. take m (drop at part)) size

-- what stands before a place is the same where all before it is
pub same_before : (at n end : ℕ) (part q : List ℕ) → at + n ≤ end → take end q ≡ take end part → take n (drop at q) ≡ take n (drop at part)
same_before at n end part q le same =
    let less : take (at + n) q ≡ take (at + n) part =
    sym (take-take (at + n) end q le) ∙ ap (λ (l : List ℕ). take (at + n) l) same ∙ take-take (at + n) end part le in
    sym (drop-take at n q) ∙ ap (λ (l : List ℕ). drop at l) less ∙ drop-take at n part

pub length-put : (at : ℕ) (part bytes : List ℕ) → at + length bytes ≤ length part → length (put_mid at (length bytes) part bytes) ≡ length part
length-put at part bytes le =
    let rest = drop (length bytes) (drop at part) in
    omega (arith, length-append (take at part) (bytes ++ rest), length-append bytes rest, length-take-le at part (omega arith), length-drop (length bytes) (drop at part), length-drop at part)

-- the first bytes of a write stand at its place
pub at_put : (at : ℕ) (part bytes : List ℕ) (n : ℕ) → at ≤ length part → n ≤ length bytes → take n (drop at (put_mid at (length bytes) part bytes)) ≡ take n bytes
at_put at part bytes n le less =
    let rest = drop (length bytes) (drop at part) in
    let here : drop at (take at part ++ (bytes ++ rest)) ≡ bytes ++ rest = drop_at (take at part) (bytes ++ rest) at (length-take-le at part le) in
    ap (λ (l : List ℕ). take n l) here ∙ take-append-le n bytes rest less

-- two writes, one behind the other, are one
put_put : (at : ℕ) (part xs ys : List ℕ) → at + length xs + length ys ≤ length part
    → put_mid (at + length xs) (length ys) (put_mid at (length xs) part xs) ys ≡ put_mid at (length (xs ++ ys)) part (xs ++ ys)
put_put at part xs ys le =
    let now = put_mid at (length xs) part xs in
    let front : take (at + length xs) now ≡ take at part ++ xs = take-put_mid at (length xs) part xs (at + length xs) refl (omega arith) in
    let size : at + length xs + length ys ≡ at + length (xs ++ ys) = omega (arith, length-append xs ys) in
    let back : drop (length ys) (drop (at + length xs) now) ≡ drop (length (xs ++ ys)) (drop at part) =
    drop-drop (length ys) (at + length xs) now
    ∙ drop-put_mid at (length xs) part xs (at + length xs + length ys) (omega arith) (omega arith) refl
    ∙ ap (λ (n : ℕ). drop n part) size
    ∙ sym (drop-drop (length (xs ++ ys)) at part) in
    (λ i. front i ++ (ys ++ back i)) ∙ append_assoc (take at part) xs (ys ++ drop (length (xs ++ ys)) (drop at part))
    ∙ ap (λ (l : List ℕ). take at part ++ l) (sym (append_assoc xs ys (drop (length (xs ++ ys)) (drop at part))))

-- so the pieces of a body are one write of it
pub part_after-writes_from : (at : ℕ) (part : List ℕ) (pieces : List (List ℕ)) → AllSectors pieces → at + length (concat pieces) ≤ length part
    → part_after part (writes_from at pieces) ≡ put_mid at (length (concat pieces)) part (concat pieces)
part_after-writes_from at part [] sectors le = sym (take-append-drop at part)
part_after-writes_from at part (p ∷ ps) sectors le =
    let size : length (p ++ concat ps) ≡ length p + length (concat ps) = length-append p (concat ps) in
    let first : part_step part (whole_part at p) ≡ put_mid at (length p) part p = written-all_kept part at p sectors.0 in
    ap (λ (l : List ℕ). part_after l (writes_from (at + length p) ps)) first
    ∙ part_after-writes_from (at + length p) (put_mid at (length p) part p) ps sectors.1 (omega (arith, size, length-put at part p (omega (arith, size))))
    ∙ put_put at part p (concat ps) (omega (arith, size))
