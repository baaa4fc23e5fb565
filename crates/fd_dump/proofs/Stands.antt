-- Parts of a list, each at its place.
use Rattle.std.proofs.Common.{◌≡◌, ℕ, ◌+◌, ◌-◌, ◌≤◌, List, ◌++◌, length, take, drop, slice_range, refl, sym, ◌∙◌, ap, arith, length-append, append_assoc}
use Rattle.std.proofs.lemmas.List.{take_at, drop_at, length-take-le, length-drop, take-append-drop}

-- a part stands at a place of a list, between what is before it and what is behind it
pub record Stands (part : List ℕ) (at : ℕ) (whole : List ℕ) : Type 0 where
  pub front : List ℕ
  pub rest : List ℕ
  pub before : length front ≡ at
  pub joined : whole ≡ front ++ (part ++ rest)

-- a part of a part
pub Stands-inner : (part mid whole : List ℕ) (a b c : ℕ) → b + a ≡ c → Stands part a mid → Stands mid b whole → Stands part c whole
Stands-inner part mid whole a b c place inner outer =
    let regrouped : outer.front ++ ((inner.front ++ (part ++ inner.rest)) ++ outer.rest) ≡ (outer.front ++ inner.front) ++ (part ++ (inner.rest ++ outer.rest)) = simp append_assoc in
    record {
      front = outer.front ++ inner.front;
      rest = inner.rest ++ outer.rest;
      before = omega (arith, length-append outer.front inner.front, inner.before, outer.before);
      joined = outer.joined ∙ ap (λ l. outer.front ++ (l ++ outer.rest)) inner.joined ∙ regrouped;
    }

-- the range at the part's place is the part
pub range-Stands : (part whole : List ℕ) (at n : ℕ) → Stands part at whole → length part ≡ n → slice_range whole at (at + n) ≡ part
range-Stands part whole at n stands long =
    ap (λ l. take (at + n - at) (drop at l)) stands.joined
    ∙ ap (take (at + n - at)) (drop_at stands.front (part ++ stands.rest) at stands.before)
    ∙ take_at part stands.rest (at + n - at) (omega arith)

-- a range of a list is a part of it
pub Stands-range : (whole : List ℕ) (at n : ℕ) → at + n ≤ length whole → Stands (slice_range whole at (at + n)) at whole
Stands-range whole at n within = record {
  front = take at whole;
  rest = drop (at + n - at) (drop at whole);
  before = length-take-le at whole (omega arith);
  joined = sym (ap (λ l. take at whole ++ l) (take-append-drop (at + n - at) (drop at whole)) ∙ take-append-drop at whole);
}

-- a range within the part is a range of the whole
pub range_within-Stands : (part whole : List ℕ) (at i n : ℕ) → Stands part at whole → i + n ≤ length part → slice_range whole (at + i) (at + i + n) ≡ slice_range part i (i + n)
range_within-Stands part whole at i n stands within =
    let here : ℕ = i + n - i in
    let long : length (slice_range part i (i + n)) ≡ n = length-take-le here (drop i part) (omega (arith, length-drop i part)) ∙ omega arith in
    range-Stands (slice_range part i (i + n)) whole (at + i) n
    (Stands-inner (slice_range part i (i + n)) part whole i at (at + i) refl (Stands-range part i n within) stands) long

-- a part ends within the list
pub end-Stands : (part whole : List ℕ) (at : ℕ) → Stands part at whole → at + length part ≤ length whole
end-Stands part whole at stands =
    omega (arith, stands.before, ap length stands.joined, length-append stands.front (part ++ stands.rest), length-append part stands.rest)
