-- What a write leaves of which only some sectors became new.
use Rattle.std.proofs.Common.{◌≡◌, ◌⊎◌, inl, inr, ℕ, ◌+◌, ◌*◌, ◌/◌, ◌%◌, ◌≤◌, Bool, true, false, List, [], ◌∷◌, ◌++◌, length, take, drop, refl, sym}
use Rattle.std.proofs.Common.{◌∙◌, ap, arith, length-drop, take-append-drop, append_assoc}
use Rattle.std.proofs.lemmas.List.{length-take-le, take_all, take-take, take_at, drop_at}
use Rattle.fd_site.specs.Journal.{merged, written}
use Rattle.fd_site.proofs.Written.{length-written, take-written, drop-written}

-- the partition after some of the first sectors of a write, of which any became new
pub record IsTorn (part : List ℕ) (at : ℕ) (bytes q : List ℕ) : Type 0 where
  pub count : ℕ
  pub kept : List Bool
  pub inside : count * 512 ≤ length bytes
  pub is : q ≡ written part at (take (count * 512) bytes) kept

-- all the sectors of a write are some of them
pub IsTorn-written : (part : List ℕ) (at : ℕ) (bytes : List ℕ) (kept : List Bool) → length bytes % 512 ≡ 0 → IsTorn part at bytes (written part at bytes kept)
IsTorn-written part at bytes kept whole = record {
  count = length bytes / 512;
  kept = kept;
  inside = omega arith;
  is = ap (λ (l : List ℕ). written part at l kept) (sym (take_all (length bytes / 512 * 512) bytes (omega arith)));
}

take-sector : (xs rest post : List ℕ) → 512 ≤ length xs → take 512 ((take 512 xs ++ rest) ++ post) ≡ take 512 xs
take-sector xs rest post le =
    ap (λ (l : List ℕ). take 512 l) (append_assoc (take 512 xs) rest post) ∙ take_at (take 512 xs) (rest ++ post) 512 (length-take-le 512 xs le)

-- the first of merged sectors is the new one or the old one
first_sector : (kept : List Bool) (new old : List ℕ) → length new % 512 ≡ 0 → length new ≤ length old
    → ((512 ≤ length new) × (take 512 (merged kept new old ++ drop (length new) old) ≡ take 512 new))
    ⊎ (take 512 (merged kept new old ++ drop (length new) old) ≡ take 512 old)
first_sector kept [] old whole le = inr refl
first_sector [] (b ∷ bs) old whole le = inr (ap (λ (l : List ℕ). take 512 l) (take-append-drop (length (b ∷ bs)) old))
first_sector (true ∷ ks) (b ∷ bs) old whole le =
    inl (omega arith, take-sector (b ∷ bs) (merged ks (drop 512 (b ∷ bs)) (drop 512 old)) (drop (length (b ∷ bs)) old) (omega arith))
first_sector (false ∷ ks) (b ∷ bs) old whole le =
    inr (take-sector old (merged ks (drop 512 (b ∷ bs)) (drop 512 old)) (drop (length (b ∷ bs)) old) (omega arith))

module _ (part : List ℕ) (at : ℕ) (bytes q : List ℕ) (torn : IsTorn part at bytes q) (room : at + length bytes ≤ length part) where
  abbrev sectors : List ℕ
  sectors = take (torn.count * 512) bytes

  length-sectors : length sectors ≡ torn.count * 512
  length-sectors = length-take-le (torn.count * 512) bytes torn.inside

  -- the partition keeps its size
  pub length-torn : length q ≡ length part
  length-torn = ap length torn.is ∙ length-written part at sectors torn.kept (omega (arith, length-sectors)) (omega (arith, length-sectors, torn.inside))

  -- what lies before stays
  pub take-torn : take at q ≡ take at part
  take-torn = ap (λ (l : List ℕ). take at l) torn.is ∙ take-written part at sectors torn.kept at (omega arith) (omega arith)

  -- what lies behind stays
  pub drop-torn : (end : ℕ) → at + length bytes ≤ end → drop end q ≡ drop end part
  drop-torn end below =
      ap (λ (l : List ℕ). drop end l) torn.is
      ∙ drop-written part at sectors torn.kept end (omega (arith, length-sectors)) (omega (arith, length-sectors, torn.inside)) (omega (arith, length-sectors, torn.inside))

  abbrev behind : List ℕ
  behind = merged torn.kept sectors (drop at part) ++ drop (length sectors) (drop at part)

  here : take 512 (drop at q) ≡ take 512 behind
  here =
      ap (λ (l : List ℕ). take 512 (drop at l)) torn.is
      ∙ ap (λ (l : List ℕ). take 512 l) (drop_at (take at part) behind at (length-take-le at part (omega arith)))

  -- the first sector is the new one or the old one
  pub sector-torn : (take 512 (drop at q) ≡ take 512 bytes) ⊎ (take 512 (drop at q) ≡ take 512 (drop at part))
  sector-torn = elim (first_sector torn.kept sectors (drop at part) (omega (arith, length-sectors)) (omega (arith, length-sectors, torn.inside, length-drop at part))) [
    | inl new ↦ inl (here ∙ new.1 ∙ take-take 512 (torn.count * 512) bytes (omega (arith, new.0, length-sectors)))
    | inr old ↦ inr (here ∙ old)
  ]
