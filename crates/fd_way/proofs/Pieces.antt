-- Pieces that stand in a list one after another, and what is read in them.
use Rattle.std.proofs.Common.{◌≡◌, ℕ, zero, suc, ◌+◌, ◌-◌, ◌*◌, ◌<◌, ◌≤◌, ◌^◌, List, [], ◌∷◌, ◌++◌, length, get_or}
use Rattle.std.proofs.Common.{refl, sym, ◌∙◌, ap, arith, length-append, append_assoc, append-nil, mul-suc, suc-mul}
use Rattle.std.specs.Int.{w64, to_le_bytes, from_le_bytes}
use Rattle.std.specs.List.{flat_map}
use Rattle.std.proofs.lemmas.List.{get_or-append_right, get_or_append_left}
use Rattle.fd_bytes.specs.Field.{u64_le_at}
use Rattle.fd_bytes.proofs.Fields.{u64_le_at-spelled}
use Rattle.fd_dump.proofs.Stands.{Stands, range-Stands, range_within-Stands}

-- the first and the second of two pieces
pub Stands-first : (first rest : List ℕ) → Stands first 0 (first ++ rest)
Stands-first first rest = record { front = []; rest = rest; before = refl; joined = refl }

pub Stands-last : (front last : List ℕ) (at : ℕ) → length front ≡ at → Stands last at (front ++ last)
Stands-last front last at before = record { front = front; rest = []; before = before; joined = ap (λ l. front ++ l) (sym (append-nil last)) }

-- an element of the part is an element of the whole
pub get_or-Stands : (part whole : List ℕ) (at i : ℕ) → Stands part at whole → i < length part → get_or whole (at + i) 0 ≡ get_or part i 0
get_or-Stands part whole at i stands within =
    let here : at + i - at ≡ i = omega arith in
    ap (λ l. get_or l (at + i) 0) stands.joined
    ∙ get_or-append_right stands.front (part ++ stands.rest) at (at + i) 0 stands.before (omega arith)
    ∙ ap (λ k. get_or (part ++ stands.rest) k 0) here
    ∙ get_or_append_left part stands.rest 0 i within

-- a number that is spelled at a place is read there
pub u64_le_at-Stands : (whole : List ℕ) (at n : ℕ) → Stands (to_le_bytes w64 n) at whole → n < 2 ^ 64 → u64_le_at whole at ≡ n
u64_le_at-Stands whole at n stands fits =
    u64_le_at-spelled whole at n fits (sym (range-Stands (to_le_bytes w64 n) whole at 8 stands refl))

-- and so is one that the part has
pub u64_le_at-within : (part whole : List ℕ) (at i : ℕ) → Stands part at whole → i + 8 ≤ length part → u64_le_at whole (at + i) ≡ u64_le_at part i
unfolding u64_le_at
u64_le_at-within part whole at i stands within = ap (λ l. from_le_bytes w64 l) (range_within-Stands part whole at i 8 stands within)

-- pieces of one size, joined
pub length-pieces : {X : Type 0} (f : X → List ℕ) (size : ℕ) (xs : List X) → ((x : X) → length (f x) ≡ size) → length (flat_map f xs) ≡ length xs * size
length-pieces f size [] same = omega arith
length-pieces f size (x ∷ xs) same = omega (arith, length-append (f x) (flat_map f xs), same x, length-pieces f size xs same, suc-mul (length xs) size)

-- each of them stands behind those before it
pub Stands-piece : {X : Type 0} (f : X → List ℕ) (size : ℕ) (xs : List X) (i : ℕ) (d : X) → ((x : X) → length (f x) ≡ size) → i < length xs → Stands (f (get_or xs i d)) (size * i) (flat_map f xs)
Stands-piece f size [] i d same within = absurd (omega arith)
Stands-piece f size (x ∷ xs) zero d same within = record { front = []; rest = flat_map f xs; before = omega arith; joined = refl }
Stands-piece f size (x ∷ xs) (suc i) d same within =
    let later = Stands-piece f size xs i d same (omega arith) in
    record {
      front = f x ++ later.front;
      rest = later.rest;
      before = omega (arith, length-append (f x) later.front, later.before, same x, mul-suc size i);
      joined = ap (λ l. f x ++ l) later.joined ∙ sym (append_assoc (f x) later.front (f (get_or xs i d) ++ later.rest));
    }
