-- What a machine leaves of a partition that stops while files are made and one sector is written behind them.
use Rattle.std.proofs.Common.{◌≡◌, ◌⊎◌, inl, inr, ℕ, zero, suc, ◌+◌, ◌*◌, ◌≤◌, Bool, true, false, List, [], ◌∷◌, ◌++◌, length, take, drop, refl, sym, ◌∙◌, ap, subst, arith, take-append-drop}
use Rattle.std.proofs.lemmas.List.{append-nil, drop-drop, drop_all, take_all}
use Rattle.fd_site.specs.Begun.{IsBegun}
use Rattle.fd_site.specs.Contents.{whole_part}
use Rattle.fd_site.specs.Cut.{both, part_cut, part_torn}
use Rattle.fd_site.specs.Journal.{Entry, Part, all_kept, merged, part_step, written}
use Rattle.fd_site.proofs.OnFile.{AllOnFile, AllOnFile-begins, IsOnFile, part_cut-on_file}

-- each entry is on some file
abbrev pub AllFiles : List Entry → Type 0
AllFiles [] = Unit {0}
AllFiles (e ∷ es) = ((name : List ℕ) × IsOnFile name e) × AllFiles es

pub AllFiles-append : (es fs : List Entry) → AllFiles es → AllFiles fs → AllFiles (es ++ fs)
AllFiles-append [] fs ours theirs = theirs
AllFiles-append (e ∷ es) fs ours theirs = (ours.0, AllFiles-append es fs ours.1 theirs)

pub AllFiles-one : (name : List ℕ) (es : List Entry) → AllOnFile name es → AllFiles es
AllFiles-one name [] on = tt
AllFiles-one name (e ∷ es) on = ((name, on.0), AllFiles-one name es on.1)

-- the partition with these bytes at a place
abbrev pub with_bytes : List ℕ → ℕ → List ℕ → List ℕ
with_bytes part at bytes = take at part ++ (bytes ++ drop (at + 512) part)

-- one sector is new, or it isn't
one_sector : (part : List ℕ) (at : ℕ) (bytes : List ℕ) (kept : List Bool) → length bytes ≡ 512
    → (written part at bytes kept ≡ part) ⊎ (written part at bytes kept ≡ with_bytes part at bytes)
one_sector part at [] kept size = absurd (omega (arith, size))
one_sector part at (b ∷ bs) [] size =
    inl (ap (λ (l : List ℕ). take at part ++ l) (take-append-drop (length (b ∷ bs)) (drop at part)) ∙ take-append-drop at part)
one_sector part at (b ∷ bs) (true ∷ ks) size =
    let none : drop 512 (b ∷ bs) ≡ [] = drop_all 512 (b ∷ bs) (omega (arith, size)) in
    let rest : drop (length (b ∷ bs)) (drop at part) ≡ drop (at + 512) part = ap (λ n. drop n (drop at part)) size ∙ drop-drop 512 at part in
    inr ((λ i. take at part ++ ((take_all 512 (b ∷ bs) (omega (arith, size)) i ++ merged ks (none i) (drop 512 (drop at part))) ++ rest i))
    ∙ ap (λ (l : List ℕ). take at part ++ (l ++ drop (at + 512) part)) (append-nil (b ∷ bs)))
one_sector part at (b ∷ bs) (false ∷ ks) size =
    let none : drop 512 (b ∷ bs) ≡ [] = drop_all 512 (b ∷ bs) (omega (arith, size)) in
    inl ((λ i. take at part ++ ((take 512 (drop at part) ++ merged ks (none i) (drop 512 (drop at part))) ++ drop (size i) (drop at part)))
    ∙ ap (λ (l : List ℕ). take at part ++ (l ++ drop 512 (drop at part))) (append-nil (take 512 (drop at part)))
    ∙ ap (λ (l : List ℕ). take at part ++ l) (take-append-drop 512 (drop at part))
    ∙ take-append-drop at part)

-- a write of none of its sectors changes nothing
no_sector : (part : List ℕ) (at : ℕ) (kept : List Bool) → written part at [] kept ≡ part
no_sector part at kept = take-append-drop at part

-- a failed write of one sector: of its first sectors, none or the one
one_write : (part : List ℕ) (at : ℕ) (bytes : List ℕ) (kept these : List Bool) → length bytes ≡ 512 → length kept * 512 ≤ length bytes
    → (written part at (take (length kept * 512) bytes) these ≡ part) ⊎ (written part at (take (length kept * 512) bytes) these ≡ with_bytes part at bytes)
one_write part at bytes [] these size le = inl (no_sector part at these)
one_write part at bytes (k ∷ []) these size le =
    let all : take 512 bytes ≡ bytes = take_all 512 bytes (omega (arith, size)) in
    subst (λ (l : List ℕ). (written part at l these ≡ part) ⊎ (written part at l these ≡ with_bytes part at bytes)) (sym all) (one_sector part at bytes these size)
one_write part at bytes (k ∷ l ∷ ks) these size le = absurd (omega (arith, size, le))

-- the sector is new: then all files are done, and one entry is behind them
pub record IsWritten (part : List ℕ) (at : ℕ) (bytes : List ℕ) (files added : List Entry) (k : ℕ) (these : List Bool) : Type 0 where
  pub place : ℕ
  pub piece : List ℕ
  pub kept : List Bool
  pub is : added ≡ files ++ Part place piece kept ∷ []
  pub behind : length files ≤ k
  pub written : part_cut part added k these ≡ with_bytes part at bytes

abbrev pub Stays : (part : List ℕ) (at : ℕ) (bytes : List ℕ) (files added : List Entry) (k : ℕ) (these : List Bool) → Type 0
Stays part at bytes files added k these = (part_cut part added k these ≡ part) ⊎ IsWritten part at bytes files added k these

-- the write alone, cut
cut_of_part : (part : List ℕ) (at : ℕ) (bytes : List ℕ) (place : ℕ) (piece : List ℕ) (kept : List Bool) (k : ℕ) (these : List Bool)
    → ((ks : List Bool) → (written part place piece ks ≡ part) ⊎ (written part place piece ks ≡ with_bytes part at bytes))
    → Stays part at bytes [] (Part place piece kept ∷ []) k these
cut_of_part part at bytes place piece kept zero these either = elim (either (both kept these)) [
  | inl same ↦ inl same
  | inr new ↦ inr (record { place = place; piece = piece; kept = kept; is = refl; behind = omega arith; written = new })
]
cut_of_part part at bytes place piece kept (suc k) these either = elim (either kept) [
  | inl same ↦ inl same
  | inr new ↦ inr (record { place = place; piece = piece; kept = kept; is = refl; behind = omega arith; written = new })
]

pub stays : (part : List ℕ) (at : ℕ) (bytes : List ℕ) (files added : List Entry) (k : ℕ) (these : List Bool) → length bytes ≡ 512 → AllFiles files
    → IsBegun (files ++ whole_part at bytes ∷ []) added → Stays part at bytes files added k these
stays part at bytes [] [] k these size on begun = inl refl
stays part at bytes [] (e ∷ []) k these size on (inl (same, begun)) =
    subst (λ d. Stays part at bytes [] (d ∷ []) k these) (sym same)
    (cut_of_part part at bytes at bytes (all_kept bytes) k these (λ ks. one_sector part at bytes ks size))
stays part at bytes [] (e ∷ d ∷ es) k these size on (inl (same, begun)) = absurd begun
stays part at bytes [] (e ∷ es) k these size on (inr (inl none)) = absurd (cc)
stays part at bytes [] (e ∷ es) k these size on (inr (inr (kept, le, one))) =
    subst (λ l. Stays part at bytes [] l k these) (sym one)
    (cut_of_part part at bytes at (take (length kept * 512) bytes) kept k these (λ ks. one_write part at bytes kept ks size le))
stays part at bytes (f ∷ fs) [] k these size on begun = inl refl
stays part at bytes (f ∷ fs) (e ∷ es) zero these size on (inl (same, begun)) =
    inl (ap (λ d. part_torn part d these) same ∙ on.0.1.torn part these)
stays part at bytes (f ∷ fs) (e ∷ es) (suc k) these size on (inl (same, begun)) =
    let step : part_step part e ≡ part = ap (part_step part) same ∙ on.0.1.step part in
    elim (stays part at bytes fs es k these size on.1 begun) [
      | inl still ↦ inl (ap (λ p. part_cut p es k these) step ∙ still)
      | inr w ↦ inr (record {
        place = w.place;
        piece = w.piece;
        kept = w.kept;
        is = (λ i. same i ∷ w.is i);
        behind = omega (arith, w.behind);
        written = ap (λ p. part_cut p es k these) step ∙ w.written;
      })
    ]
stays part at bytes (f ∷ fs) (e ∷ es) k these size on (inr failed) =
    inl (part_cut-on_file on.0.0 part (e ∷ es) k these (AllOnFile-begins on.0.0 (f ∷ []) (e ∷ es) (on.0.1, tt) (inr failed)))
