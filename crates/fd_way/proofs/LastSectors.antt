-- What stands in a sector of a partition after some writes: what the last of their kept sectors at its place has, or
-- what was there.
use Rattle.std.proofs.Common.{◌≡◌, ◌⊎◌, inl, inr, ℕ, zero, suc, ◌+◌, ◌-◌, ◌*◌, ◌/◌, ◌%◌, ◌<◌, ◌≤◌, Bool, true, false, ◌==◌, List, [], ◌∷◌, ◌++◌, length, take, drop, replicate}
use Rattle.std.proofs.Common.{if◌then◌else◌, refl, sym, ◌∙◌, ap, subst, arith, length-drop, append_assoc, take-append-drop}
use Rattle.std.proofs.lemmas.Bool.Decides.{nat_tests}
use Rattle.std.proofs.lemmas.List.{drop-drop, drop_at, length-replicate, length-take-le, take_at}
use Rattle.fd_site.specs.Begun.{IsBegun}
use Rattle.fd_site.specs.Contents.{whole_part}
use Rattle.fd_site.specs.Journal.{Create, Entry, Part, Sector, Spoiled, Sync, Write, all_kept, kept_sectors, merged, part_after, sectors_of, sectors_of_write, written}
use Rattle.fd_site.proofs.Written.{length-written, take-written}
use Rattle.fd_part.proofs.Places.{same_before}

-- the last of some sectors at a place, or else these bytes
abbrev pub last_at : ℕ → List Sector → List ℕ → List ℕ
last_at p [] old = old
last_at p (s ∷ ss) old = last_at p ss (if s.at == p then s.bytes else old)

pub last_at-append : (p : ℕ) (xs ys : List Sector) (old : List ℕ) → last_at p (xs ++ ys) old ≡ last_at p ys (last_at p xs old)
last_at-append p [] ys old = refl
last_at-append p (s ∷ xs) ys old = last_at-append p xs ys (if s.at == p then s.bytes else old)

-- none of some sectors is at a place
abbrev pub Apart : ℕ → List Sector → Type 0
Apart p [] = Unit {0}
Apart p (s ∷ ss) = (s.at ≡ p → ⊥) × Apart p ss

other_place : (a p : ℕ) (new old : List ℕ) → (a ≡ p → ⊥) → (if a == p then new else old) ≡ old
other_place a p new old apart = let no_ : (a == p) ≡ false = grind (arith, nat_tests, apart) in ap (λ b. if b then new else old) no_

same_place : (a : ℕ) (new old : List ℕ) → (if a == a then new else old) ≡ new
same_place a new old = let yes_ : (a == a) ≡ true = grind (arith, nat_tests) in ap (λ b. if b then new else old) yes_

pub last_at-apart : (p : ℕ) (ss : List Sector) (old : List ℕ) → Apart p ss → last_at p ss old ≡ old
last_at-apart p [] old apart = refl
last_at-apart p (s ∷ ss) old apart = ap (last_at p ss) (other_place s.at p s.bytes old apart.0) ∙ last_at-apart p ss old apart.1

pub Apart-append : (p : ℕ) (xs ys : List Sector) → Apart p xs → Apart p ys → Apart p (xs ++ ys)
Apart-append p [] ys a b = b
Apart-append p (s ∷ xs) ys a b = (a.0, Apart-append p xs ys a.1 b)

pub Apart-take : (p n : ℕ) (xs : List Sector) → Apart p xs → Apart p (take n xs)
Apart-take p zero xs a = tt
Apart-take p (suc n) [] a = tt
Apart-take p (suc n) (s ∷ xs) a = (a.0, Apart-take p n xs a.1)

-- the sectors of a write lie from its place on, one for each truth value
pub Apart-write : (p at : ℕ) (bytes : List ℕ) (kept : List Bool) → (p < at) ⊎ (at + 512 * length kept ≤ p) → Apart p (sectors_of_write at bytes kept)
Apart-write p at bytes [] away = tt
Apart-write p at bytes (true ∷ ks) (inl below) = ((λ is. omega arith), Apart-write p (at + 512) (drop 512 bytes) ks (inl (omega arith)))
Apart-write p at bytes (true ∷ ks) (inr above) = ((λ is. omega arith), Apart-write p (at + 512) (drop 512 bytes) ks (inr (omega arith)))
Apart-write p at bytes (false ∷ ks) (inl below) = Apart-write p (at + 512) (drop 512 bytes) ks (inl (omega arith))
Apart-write p at bytes (false ∷ ks) (inr above) = Apart-write p (at + 512) (drop 512 bytes) ks (inr (omega arith))

-- what merged sectors leave behind a place
abbrev over : List Bool → (new old : List ℕ) → List ℕ
over kept new old = merged kept new old ++ drop (length new) old

-- one sector more in front
over-step : (k : Bool) (ks : List Bool) (new old : List ℕ) → 512 ≤ length new → over (k ∷ ks) new old ≡ take 512 (if k then new else old) ++ over ks (drop 512 new) (drop 512 old)
over-step k ks [] old some = absurd (omega arith)
over-step k ks (b ∷ bs) old some =
    let count : 512 + length (drop 512 (b ∷ bs)) ≡ length (b ∷ bs) = omega (arith, length-drop 512 (b ∷ bs)) in
    let rest : drop (length (b ∷ bs)) old ≡ drop (length (drop 512 (b ∷ bs))) (drop 512 old) =
    sym (drop-drop (length (drop 512 (b ∷ bs))) 512 old ∙ ap (λ n. drop n old) count) in
    append_assoc (take 512 (if k then b ∷ bs else old)) (merged ks (drop 512 (b ∷ bs)) (drop 512 old)) (drop (length (b ∷ bs)) old)
    ∙ ap (λ (l : List ℕ). take 512 (if k then b ∷ bs else old) ++ (merged ks (drop 512 (b ∷ bs)) (drop 512 old) ++ l)) rest

length-chosen : (k : Bool) (new old : List ℕ) → 512 ≤ length new → 512 ≤ length old → length (take 512 (if k then new else old)) ≡ 512
length-chosen true new old a b = length-take-le 512 new a
length-chosen false new old a b = length-take-le 512 old b

-- the first sector is the chosen one, as the first of the sectors says
chosen : (k : Bool) (at : ℕ) (new old : List ℕ) (rest : List Sector) → Apart at rest
    → take 512 (if k then new else old) ≡ last_at at ((if k then record { at = at; bytes = take 512 new } ∷ [] else []) ++ rest) (take 512 old)
chosen true at new old rest apart = sym (last_at-apart at rest _ apart ∙ same_place at (take 512 new) (take 512 old))
chosen false at new old rest apart = sym (last_at-apart at rest (take 512 old) apart)

skipped : (k : Bool) (at p : ℕ) (new old : List ℕ) (rest : List Sector) → (at ≡ p → ⊥)
    → last_at p rest old ≡ last_at p ((if k then record { at = at; bytes = take 512 new } ∷ [] else []) ++ rest) old
skipped true at p new old rest apart = ap (last_at p rest) (sym (other_place at p (take 512 new) old apart))
skipped false at p new old rest apart = refl

first_or_behind : (q : ℕ) → q % 512 ≡ 0 → (q ≡ 0) ⊎ ((r : ℕ) × (q ≡ 512 + r) × (r % 512 ≡ 0))
first_or_behind zero whole = inl refl
first_or_behind (suc n) whole = inr (suc n - 512, omega arith, omega arith)

-- the sector at a place in them
sector_over : (q : ℕ) (kept : List Bool) (at : ℕ) (new old : List ℕ) → q % 512 ≡ 0 → length new % 512 ≡ 0 → length new ≤ length old → length kept * 512 ≤ length new
    → take 512 (drop q (over kept new old)) ≡ last_at (at + q) (sectors_of_write at new kept) (take 512 (drop q old))
sector_over q [] at [] old whole sectors le few = refl
sector_over q [] at (b ∷ bs) old whole sectors le few = ap (λ (l : List ℕ). take 512 (drop q l)) (take-append-drop (length (b ∷ bs)) old)
sector_over q (k ∷ ks) at new old whole sectors le few =
    let front : List ℕ = take 512 (if k then new else old) in
    let back : List ℕ = over ks (drop 512 new) (drop 512 old) in
    let all : List ℕ = over (k ∷ ks) new old in
    let rest : List Sector = sectors_of_write (at + 512) (drop 512 new) ks in
    let joined : all ≡ front ++ back = over-step k ks new old (omega arith) in
    let long : length front ≡ 512 = length-chosen k new old (omega arith) (omega arith) in
    elim (first_or_behind q whole) [
      | inl is ↦
          let place : at ≡ at + q = omega (arith, is) in
          (λ i. take 512 (drop (is i) all))
          ∙ ap (λ (l : List ℕ). take 512 l) joined ∙ take_at front back 512 long
          ∙ chosen k at new old rest (Apart-write at (at + 512) (drop 512 new) ks (inl (omega arith)))
          ∙ (λ i. last_at (place i) (sectors_of_write at new (k ∷ ks)) (take 512 (drop (sym is i) old)))
      | inr (r, is, sectors_r) ↦
          let place : at + 512 + r ≡ at + q = omega (arith, is) in
          let behind : drop q all ≡ drop r back =
          (λ i. drop (is i) (joined i)) ∙ sym (drop-drop r 512 (front ++ back)) ∙ ap (λ (l : List ℕ). drop r l) (drop_at front back 512 long) in
          let old_behind : drop r (drop 512 old) ≡ drop q old = drop-drop r 512 old ∙ ap (λ n. drop n old) (sym is) in
          ap (λ (l : List ℕ). take 512 l) behind
          ∙ sector_over r ks (at + 512) (drop 512 new) (drop 512 old) sectors_r (omega (arith, length-drop 512 new)) (omega (arith, length-drop 512 new, length-drop 512 old))
          (omega (arith, length-drop 512 new))
          ∙ (λ i. last_at (place i) rest (take 512 (old_behind i)))
          ∙ skipped k at (at + q) new (take 512 (drop q old)) rest (λ e. omega arith)
    ]

-- a write of whole sectors inside a partition of this size
pub record IsSectorWrite (size at : ℕ) (bytes : List ℕ) (kept : List Bool) : Type 0 where
  pub start : at % 512 ≡ 0
  pub whole : length bytes % 512 ≡ 0
  pub few : length kept * 512 ≤ length bytes
  pub inside : at + length bytes ≤ size

abbrev pub IsSectors : ℕ → Entry → Type 0
IsSectors size (Part at bytes kept) = IsSectorWrite size at bytes kept
IsSectors size (Create name) = ⊥
IsSectors size (Write name at bytes) = ⊥
IsSectors size (Sync name) = ⊥
IsSectors size (Spoiled name now) = ⊥

abbrev pub AllWrites : ℕ → List Entry → Type 0
AllWrites size [] = Unit {0}
AllWrites size (e ∷ es) = IsSectors size e × AllWrites size es

pub AllWrites-append : (size : ℕ) (es fs : List Entry) → AllWrites size es → AllWrites size fs → AllWrites size (es ++ fs)
AllWrites-append size [] fs a b = b
AllWrites-append size (e ∷ es) fs a b = (a.0, AllWrites-append size es fs a.1 b)

pub below_or_from : (p at : ℕ) → (p < at) ⊎ (at ≤ p)
below_or_from p at = grind arith

-- the sector at a place after one write
after_write : (p : ℕ) (part : List ℕ) (at : ℕ) (bytes : List ℕ) (kept : List Bool) → p % 512 ≡ 0 → IsSectorWrite (length part) at bytes kept
    → take 512 (drop p (written part at bytes kept)) ≡ last_at p (sectors_of_write at bytes kept) (take 512 (drop p part))
after_write p part at bytes kept whole w = elim (below_or_from p at) [
  | inl below ↦
      same_before p 512 at part (written part at bytes kept) (omega (arith, whole, w.start))
      (take-written part at bytes kept at (omega arith) (omega (arith, w.inside)))
      ∙ sym (last_at-apart p (sectors_of_write at bytes kept) (take 512 (drop p part)) (Apart-write p at bytes kept (inl below)))
  | inr from ↦
      let q : ℕ = p - at in
      let place : at + q ≡ p = omega arith in
      let tail : List ℕ = drop at part in
      let behind : drop p (written part at bytes kept) ≡ drop q (over kept bytes tail) =
      ap (λ n. drop n (written part at bytes kept)) (sym place) ∙ sym (drop-drop q at (written part at bytes kept))
      ∙ ap (λ (l : List ℕ). drop q l) (drop_at (take at part) (over kept bytes tail) at (length-take-le at part (omega (arith, w.inside)))) in
      let old_behind : drop q tail ≡ drop p part = drop-drop q at part ∙ ap (λ n. drop n part) place in
      ap (λ (l : List ℕ). take 512 l) behind
      ∙ sector_over q kept at bytes tail (omega (arith, whole, w.start)) w.whole (omega (arith, w.inside, length-drop at part)) w.few
      ∙ (λ i. last_at (place i) (sectors_of_write at bytes kept) (take 512 (old_behind i)))
]

-- and after some
pub after_writes : (p : ℕ) (part : List ℕ) (es : List Entry) → p % 512 ≡ 0 → AllWrites (length part) es
    → take 512 (drop p (part_after part es)) ≡ last_at p (kept_sectors es) (take 512 (drop p part))
after_writes p part [] whole all = refl
after_writes p part (Part at bytes kept ∷ es) whole all =
    let now : List ℕ = written part at bytes kept in
    let size : length now ≡ length part = length-written part at bytes kept all.0.whole all.0.inside in
    after_writes p now es whole (subst (λ n. AllWrites n es) (sym size) all.1)
    ∙ ap (last_at p (kept_sectors es)) (after_write p part at bytes kept whole all.0)
    ∙ sym (last_at-append p (sectors_of_write at bytes kept) (kept_sectors es) (take 512 (drop p part)))
after_writes p part (Create name ∷ es) whole all = absurd all.0
after_writes p part (Write name at bytes ∷ es) whole all = absurd all.0
after_writes p part (Sync name ∷ es) whole all = absurd all.0
after_writes p part (Spoiled name now ∷ es) whole all = absurd all.0

pub length-writes : (part : List ℕ) (es : List Entry) → AllWrites (length part) es → length (part_after part es) ≡ length part
length-writes part [] all = refl
length-writes part (Part at bytes kept ∷ es) all =
    let size : length (written part at bytes kept) ≡ length part = length-written part at bytes kept all.0.whole all.0.inside in
    length-writes (written part at bytes kept) es (subst (λ n. AllWrites n es) (sym size) all.1) ∙ size
length-writes part (Create name ∷ es) all = absurd all.0
length-writes part (Write name at bytes ∷ es) all = absurd all.0
length-writes part (Sync name ∷ es) all = absurd all.0
length-writes part (Spoiled name now ∷ es) all = absurd all.0

-- what was begun of such writes are such writes
pub AllWrites-begun : (size : ℕ) (planned added : List Entry) → AllWrites size planned → IsBegun planned added → AllWrites size added
AllWrites-begun size planned [] all begun = tt
AllWrites-begun size [] (e ∷ es) all begun = absurd begun
AllWrites-begun size (w ∷ ws) (e ∷ es) all (inl (is, rest)) = (subst (IsSectors size) (sym is) all.0, AllWrites-begun size ws es all.1 rest)
AllWrites-begun size (Part at bytes kept ∷ ws) (e ∷ es) all (inr (inl none)) = absurd (cc)
AllWrites-begun size (Part at bytes kept ∷ ws) (e ∷ es) all (inr (inr (some, fits, one))) =
    subst (AllWrites size) (sym one) (
      record {
        start = all.0.start;
        whole = omega (arith, length-take-le (length some * 512) bytes fits);
        few = omega (arith, length-take-le (length some * 512) bytes fits);
        inside = omega (arith, all.0.inside, length-take-le (length some * 512) bytes fits);
      },
      tt,
    )
AllWrites-begun size (Create name ∷ ws) (e ∷ es) all (inr failed) = absurd all.0
AllWrites-begun size (Write name at bytes ∷ ws) (e ∷ es) all (inr failed) = absurd all.0
AllWrites-begun size (Sync name ∷ ws) (e ∷ es) all (inr failed) = absurd all.0
AllWrites-begun size (Spoiled name now ∷ ws) (e ∷ es) all (inr failed) = absurd all.0

-- a write that keeps all
pub whole_write : (size at : ℕ) (bytes : List ℕ) → at % 512 ≡ 0 → length bytes % 512 ≡ 0 → at + length bytes ≤ size → IsSectors size (whole_part at bytes)
whole_write size at bytes start whole inside =
    record { start = start; whole = whole; few = omega (arith, length-replicate (length bytes / 512) true); inside = inside }

pub Apart-whole : (p at : ℕ) (bytes : List ℕ) → (p < at) ⊎ (at + length bytes ≤ p) → length bytes % 512 ≡ 0 → Apart p (sectors_of (whole_part at bytes))
Apart-whole p at bytes (inl below) whole = Apart-write p at bytes (all_kept bytes) (inl below)
Apart-whole p at bytes (inr above) whole = Apart-write p at bytes (all_kept bytes) (inr (omega (arith, length-replicate (length bytes / 512) true)))

-- the first sector of one that isn't empty, and the others
pub whole_first : (at : ℕ) (bytes : List ℕ) → 512 ≤ length bytes
    → sectors_of (whole_part at bytes) ≡ record { at = at; bytes = take 512 bytes } ∷ sectors_of_write (at + 512) (drop 512 bytes) (replicate (length bytes / 512 - 1) true)
whole_first at bytes some =
    let one : length bytes / 512 ≡ suc (length bytes / 512 - 1) = omega arith in
    ap (λ n. sectors_of_write at bytes (replicate n true)) one

-- so it is what stands at the write's place, where one sector of it or more was written, and others elsewhere
pub first_there : (at n : ℕ) (bytes old : List ℕ) → 512 ≤ length bytes → 1 ≤ n → last_at at (take n (sectors_of (whole_part at bytes))) old ≡ take 512 bytes
first_there at zero bytes old some more = absurd (omega arith)
first_there at (suc n) bytes old some more =
    let rest : List Sector = sectors_of_write (at + 512) (drop 512 bytes) (replicate (length bytes / 512 - 1) true) in
    ap (λ (l : List Sector). last_at at (take (suc n) l) old) (whole_first at bytes some)
    ∙ ap (last_at at (take n rest)) (same_place at (take 512 bytes) old)
    ∙ last_at-apart at (take n rest) (take 512 bytes) (Apart-take at n rest (Apart-write at (at + 512) (drop 512 bytes) (replicate (length bytes / 512 - 1) true) (inl (omega arith))))
