-- Where a machine may stop within some writes.
use Rattle.std.proofs.Common.{◌≡◌, ◌⊎◌, inl, inr, ℕ, zero, suc, ◌+◌, ◌*◌, ◌%◌, ◌≤◌, Bool, List, [], ◌∷◌, ◌++◌, length, take, drop}
use Rattle.std.proofs.Common.{refl, sym, ◌∙◌, ap, subst, arith, length-append}
use Rattle.std.specs.List.{concat}
use Rattle.fd_site.specs.Begun.{IsBegun}
use Rattle.fd_site.specs.Journal.{Entry, Part, written, part_step, part_after}
use Rattle.fd_site.specs.Cut.{both, part_torn, part_cut}
use Rattle.fd_part.specs.Dump.{AllSectors, writes_from}
use Rattle.fd_judge.proofs.Torn.{IsTorn, IsTorn-written, length-torn, drop-torn}

-- a write of whole sectors that ends at a place or before it
abbrev pub IsBelow : ℕ → Entry → Type 0
IsBelow end (Part at bytes kept) = (length bytes % 512 ≡ 0) × (at + length bytes ≤ end)
IsBelow end e = ⊥

abbrev pub AllBelow : ℕ → List Entry → Type 0
AllBelow end [] = Unit {0}
AllBelow end (e ∷ es) = IsBelow end e × AllBelow end es

pub AllBelow-append : (end : ℕ) (es fs : List Entry) → AllBelow end es → AllBelow end fs → AllBelow end (es ++ fs)
AllBelow-append end [] fs a b = b
AllBelow-append end (e ∷ es) fs a b = (a.0, AllBelow-append end es fs a.1 b)

-- a partition of the same size, and the same from a place on
pub record IsSameFrom (end : ℕ) (old new : List ℕ) : Type 0 where
  pub size : length new ≡ length old
  pub tail : drop end new ≡ drop end old

same_then : (end : ℕ) (a b c : List ℕ) → IsSameFrom end a b → IsSameFrom end b c → IsSameFrom end a c
same_then end a b c first then = record { size = then.size ∙ first.size; tail = then.tail ∙ first.tail }

torn_same : (end : ℕ) (part : List ℕ) (at : ℕ) (bytes q : List ℕ) → at + length bytes ≤ end → end ≤ length part → IsTorn part at bytes q
    → IsSameFrom end part q
torn_same end part at bytes q below le torn =
    record { size = length-torn part at bytes q torn (omega arith); tail = drop-torn part at bytes q torn (omega arith) end below }

step_same : (end : ℕ) (part : List ℕ) (at : ℕ) (bytes : List ℕ) (kept : List Bool) → IsBelow end (Part at bytes kept) → end ≤ length part
    → IsSameFrom end part (written part at bytes kept)
step_same end part at bytes kept below le =
    torn_same end part at bytes (written part at bytes kept) below.1 le (IsTorn-written part at bytes kept below.0)

-- after some writes that end at a place or before it
pub after_same : (end : ℕ) (part : List ℕ) (es : List Entry) → AllBelow end es → end ≤ length part → IsSameFrom end part (part_after part es)
after_same end part [] below le = record { size = refl; tail = refl }
after_same end part (Part at bytes kept ∷ es) below le =
    let now = written part at bytes kept in
    let first = step_same end part at bytes kept below.0 le in
    same_then end part now (part_after now es) first (after_same end now es below.1 (omega (arith, first.size)))
after_same end part (e ∷ es) below le = absurd below.0

-- a write that failed, cut or not
torn_by_failed : (part : List ℕ) (at : ℕ) (bytes : List ℕ) (kept : List Bool) (k : ℕ) (these : List Bool) → length kept * 512 ≤ length bytes
    → IsTorn part at bytes (part_cut part (Part at (take (length kept * 512) bytes) kept ∷ []) k these)
torn_by_failed part at bytes kept zero these fits = record { count = length kept; kept = both kept these; inside = fits; is = refl }
torn_by_failed part at bytes kept (suc k) these fits = record { count = length kept; kept = kept; inside = fits; is = refl }

-- a cut of entries that began a write and more: it tears the write, or the write is done and it is a cut of the rest
pub first_write : (part : List ℕ) (e : Entry) (es : List Entry) (at : ℕ) (bytes : List ℕ) (kept : List Bool) (ws : List Entry) (k : ℕ) (these : List Bool)
    → length bytes % 512 ≡ 0 → IsBegun (Part at bytes kept ∷ ws) (e ∷ es)
    → IsTorn part at bytes (part_cut part (e ∷ es) k these)
    ⊎ ((later : ℕ) × IsBegun ws es × (part_cut part (e ∷ es) k these ≡ part_cut (written part at bytes kept) es later these))
first_write part e es at bytes kept ws zero these whole (inl (is, rest)) =
    inl (subst (λ (x : Entry). IsTorn part at bytes (part_torn part x these)) (sym is) (IsTorn-written part at bytes (both kept these) whole))
first_write part e es at bytes kept ws (suc k) these whole (inl (is, rest)) =
    inr (k, rest, ap (λ (x : Entry). part_cut (part_step part x) es k these) is)
first_write part e es at bytes kept ws k these whole (inr (inl none)) = absurd (cc)
first_write part e es at bytes kept ws k these whole (inr (inr (some, fits, one))) =
    inl (subst (λ (l : List Entry). IsTorn part at bytes (part_cut part l k these)) (sym one) (torn_by_failed part at bytes some k these fits))

cut_of_none : (part : List ℕ) (es : List Entry) (k : ℕ) (these : List Bool) → IsBegun [] es → part_cut part es k these ≡ part
cut_of_none part [] k these begun = refl
cut_of_none part (e ∷ es) k these begun = absurd begun

-- where nothing changed yet, what holds of a cut of the rest holds of the cut
onward : {end : ℕ} {part now after bytes q rest : List ℕ} {at : ℕ} → IsSameFrom end part now → q ≡ rest → IsSameFrom end now rest ⊎ IsTorn after at bytes rest
    → IsSameFrom end part q ⊎ IsTorn after at bytes q
onward {end} {part} {now} {q = q} {rest = rest} first is (inl same) = inl (subst (IsSameFrom end part) (sym is) (same_then end part now rest first same))
onward {after = after} {bytes = bytes} {at = at} first is (inr torn) = inr (subst (IsTorn after at bytes) (sym is) torn)

-- a cut of some writes below a place and of a last one, as far as they were begun: from that place on nothing changed,
-- or the writes are done and the last one is torn
pub cut_of_begun : (end : ℕ) (part : List ℕ) (ws : List Entry) (at : ℕ) (bytes : List ℕ) (kept : List Bool) (es : List Entry) (k : ℕ) (these : List Bool)
    → AllBelow end ws → end ≤ length part → length bytes % 512 ≡ 0 → IsBegun (ws ++ Part at bytes kept ∷ []) es
    → IsSameFrom end part (part_cut part es k these) ⊎ IsTorn (part_after part ws) at bytes (part_cut part es k these)
cut_of_begun end part [] at bytes kept [] k these below le whole begun = inl (record { size = refl; tail = refl })
cut_of_begun end part [] at bytes kept (e ∷ es) k these below le whole begun = elim (first_write part e es at bytes kept [] k these whole begun) [
  | inl torn ↦ inr torn
  | inr on ↦ inr (subst (IsTorn part at bytes) (sym (on.2 ∙ cut_of_none (written part at bytes kept) es on.0 these on.1)) (IsTorn-written part at bytes kept whole))
]
cut_of_begun end part (w ∷ ws) at bytes kept [] k these below le whole begun = inl (record { size = refl; tail = refl })
cut_of_begun end part (Part here piece all ∷ ws) at bytes kept (e ∷ es) k these below le whole begun =
    let now : List ℕ = written part here piece all in
    let first : IsSameFrom end part now = step_same end part here piece all below.0 le in
    elim (first_write part e es here piece all (ws ++ Part at bytes kept ∷ []) k these below.0.0 begun) [
      | inl torn ↦ inl (torn_same end part here piece (part_cut part (e ∷ es) k these) below.0.1 le torn)
      | inr on ↦ onward first on.2 (cut_of_begun end now ws at bytes kept es on.0 these below.1 (omega (arith, first.size)) whole on.1)
    ]
cut_of_begun end part (w ∷ ws) at bytes kept (e ∷ es) k these below le whole begun = absurd below.0

-- pieces that end at a place or before it
pub AllBelow-writes_from : (end at : ℕ) (pieces : List (List ℕ)) → AllSectors pieces → at + length (concat pieces) ≤ end → AllBelow end (writes_from at pieces)
AllBelow-writes_from end at [] sectors le = tt
AllBelow-writes_from end at (p ∷ ps) sectors le =
    let size : length (p ++ concat ps) ≡ length p + length (concat ps) = length-append p (concat ps) in
    ((sectors.0, omega (arith, size)), AllBelow-writes_from end (at + length p) ps sectors.1 (omega (arith, size)))
