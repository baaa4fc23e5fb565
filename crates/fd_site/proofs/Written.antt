-- What a write leaves of a partition.
use Rattle.std.proofs.Common.{◌≡◌, ℕ, zero, suc, ◌+◌, ◌*◌, ◌/◌, ◌%◌, ◌≤◌, Bool, true, false, List, [], ◌∷◌, ◌++◌, length, take}
use Rattle.std.proofs.Common.{drop, replicate, refl, sym, ◌∙◌, ap, arith, length-append, length-drop, take-append-drop}
use Rattle.std.proofs.lemmas.List.{length-take-le}
use Rattle.std.proofs.lemmas.Slice.{take-put_mid_below, drop-put_mid, between-put_mid}
use Rattle.std.specs.List.{between, concat}
use borrow.Rule.Slice.PartMut.{put_mid}
use Rattle.fd_site.specs.Journal.{Entry, merged, all_kept, in_pieces, written, part_step, part_after}
use Rattle.fd_site.specs.Contents.{Contents, part_of, whole_part}

-- what is merged into as many bytes has as many
pub length-merged : (kept : List Bool) (new old : List ℕ) → length new % 512 ≡ 0 → length new ≤ length old → length (merged kept new old) ≡ length new
length-merged kept [] old whole le = refl
length-merged [] (b ∷ bs) old whole le = length-take-le (length (b ∷ bs)) old le
length-merged (true ∷ ks) (b ∷ bs) old whole le =
    let new = b ∷ bs in
    let rest : length (merged ks (drop 512 new) (drop 512 old)) ≡ length (drop 512 new) =
    length-merged ks (drop 512 new) (drop 512 old) (omega (arith, length-drop 512 new)) (omega (arith, length-drop 512 new, length-drop 512 old)) in
    omega (arith, rest, length-append (take 512 new) (merged ks (drop 512 new) (drop 512 old)), length-take-le 512 new (omega arith), length-drop 512 new)
length-merged (false ∷ ks) (b ∷ bs) old whole le =
    let new = b ∷ bs in
    let rest : length (merged ks (drop 512 new) (drop 512 old)) ≡ length (drop 512 new) =
    length-merged ks (drop 512 new) (drop 512 old) (omega (arith, length-drop 512 new)) (omega (arith, length-drop 512 new, length-drop 512 old)) in
    omega (arith, rest, length-append (take 512 old) (merged ks (drop 512 new) (drop 512 old)), length-take-le 512 old (omega arith), length-drop 512 new)

-- where every sector was kept, the new bytes stand
pub merged-replicate : (n : ℕ) (new old : List ℕ) → n * 512 ≡ length new → merged (replicate n true) new old ≡ new
merged-replicate n [] old whole = refl
merged-replicate zero (b ∷ bs) old whole = absurd (omega arith)
merged-replicate (suc n) (b ∷ bs) old whole =
    ap (λ (l : List ℕ). take 512 (b ∷ bs) ++ l) (merged-replicate n (drop 512 (b ∷ bs)) (drop 512 old) (omega (arith, length-drop 512 (b ∷ bs)))) ∙ take-append-drop 512 (b ∷ bs)

-- a write that kept all
pub written-all_kept : (part : List ℕ) (at : ℕ) (bytes : List ℕ) → length bytes % 512 ≡ 0 → written part at bytes (all_kept bytes) ≡ put_mid at (length bytes) part bytes
written-all_kept part at bytes whole =
    ap (λ (m : List ℕ). put_mid at (length bytes) part m) (merged-replicate (length bytes / 512) bytes (drop at part) (omega arith))

-- the partition keeps its size
pub length-written : (part : List ℕ) (at : ℕ) (bytes : List ℕ) (kept : List Bool) → length bytes % 512 ≡ 0 → at + length bytes ≤ length part → length (written part at bytes kept) ≡ length part
length-written part at bytes kept whole le =
    let m = merged kept bytes (drop at part) in
    let same : length m ≡ length bytes = length-merged kept bytes (drop at part) whole (omega (arith, length-drop at part)) in
    omega (
      arith,
      same,
      length-append (take at part) (m ++ drop (length bytes) (drop at part)),
      length-append m (drop (length bytes) (drop at part)),
      length-take-le at part (omega arith),
      length-drop (length bytes) (drop at part),
      length-drop at part,
    )

-- what lies behind a write stays
pub drop-written : (part : List ℕ) (at : ℕ) (bytes : List ℕ) (kept : List Bool) (n : ℕ) → length bytes % 512 ≡ 0 →
    at + length bytes ≤ n → at + length bytes ≤ length part → drop n (written part at bytes kept) ≡ drop n part
drop-written part at bytes kept n whole le inside =
    drop-put_mid at (length bytes) part (merged kept bytes (drop at part)) n le (omega arith) (length-merged kept bytes (drop at part) whole (omega (arith, length-drop at part)))

-- what lies before it stays
pub take-written : (part : List ℕ) (at : ℕ) (bytes : List ℕ) (kept : List Bool) (n : ℕ) → n ≤ at → at ≤ length part → take n (written part at bytes kept) ≡ take n part
take-written part at bytes kept n le inside = take-put_mid_below at (length bytes) part (merged kept bytes (drop at part)) n le inside

pub part_after-append : (part : List ℕ) (es fs : List Entry) → part_after part (es ++ fs) ≡ part_after (part_after part es) fs
part_after-append part [] fs = refl
part_after-append part (e ∷ es) fs = part_after-append (part_step part e) es fs

-- one whole write more
pub part_after-whole_part : (base part : List ℕ) (es : List Entry) (at : ℕ) (bytes : List ℕ) → part ≡ part_after base es → length bytes % 512 ≡ 0
    → put_mid at (length bytes) part bytes ≡ part_after base (es ++ whole_part at bytes ∷ [])
part_after-whole_part base part es at bytes is whole =
    ap (λ (l : List ℕ). put_mid at (length bytes) l bytes) is ∙ sym (written-all_kept (part_after base es) at bytes whole) ∙ sym (part_after-append base es (whole_part at bytes ∷ []))

-- what was written whole is read
pub between-part_after : (c : Contents) (at : ℕ) (bytes : List ℕ) → length bytes % 512 ≡ 0 → at + length bytes ≤ length (part_of c)
    → between at (at + length bytes) (part_after c.base_part (c.journal ++ whole_part at bytes ∷ [])) ≡ bytes
between-part_after c at bytes whole le =
    let now : part_after c.base_part (c.journal ++ whole_part at bytes ∷ []) ≡ put_mid at (length bytes) (part_of c) bytes =
    part_after-append c.base_part c.journal (whole_part at bytes ∷ []) ∙ written-all_kept (part_of c) at bytes whole in
    ap (λ (l : List ℕ). between at (at + length bytes) l) now ∙ between-put_mid at (length bytes) (part_of c) bytes (at + length bytes) (omega arith) (omega arith)

-- writes in pieces, one behind the other
pub in_pieces-append : (entry : ℕ → List ℕ → Entry) (at : ℕ) (ps qs : List (List ℕ)) → in_pieces entry at (ps ++ qs) ≡ in_pieces entry at ps ++ in_pieces entry (at + length (concat ps)) qs
in_pieces-append entry at [] qs = let same : at ≡ at + 0 = omega arith in ap (λ n. in_pieces entry n qs) same
in_pieces-append entry at (p ∷ ps) qs =
    let same : at + length p + length (concat ps) ≡ at + length (p ++ concat ps) = omega (arith, length-append p (concat ps)) in
    ap (λ (l : List Entry). entry at p ∷ l) (in_pieces-append entry (at + length p) ps qs ∙ ap (λ n. in_pieces entry (at + length p) ps ++ in_pieces entry n qs) same)
