-- What is left of a range when its first addresses are taken.
use Rattle.std.proofs.Common.{◌≡◌, ◌∙◌, ap, ℕ, ◌+◌, ◌/◌, ◌%◌, ◌^◌, ◌<◌, ◌≤◌, ◌⊎◌, Option, inl, inr, sym, subst, arith}
use Rattle.fd_pte.specs.Entry.{bytes_under}
use Rattle.fd_walk.specs.declared.walker.Place.{Place}
use Rattle.fd_walk.specs.PageTables.{PageTables}
use Rattle.fd_walk.specs.Descent.{IsInTable, IsOnWay}
use Rattle.fd_walk.specs.Ranges.{IsRest}
use Rattle.fd_walk.proofs.Ways.{topmost_table}
use Rattle.fd_walk.proofs.Spans.{table_beside}

-- the table in which a walk goes on: the one in which it ended for an address before, or the topmost
abbrev pub GoesOn : PageTables → (before later : ℕ) → (ended next : Place) → Type 0
GoesOn t before later ended next =
    ((next ≡ ended) × (before / bytes_under (ended.height + 1) ≡ later / bytes_under (ended.height + 1)))
    ⊎ ((next.height + 1 ≡ t.levels) × (next.table ≡ t.root))

-- the walk for the rest's first address comes to it
pub IsRest-after : (t : PageTables) (lowest before at left : ℕ) (ended next : Place) (entry : Option ℕ)
    → t.root % 4096 ≡ 0 → t.root < 2 ^ 64 → 2 ≤ t.levels → t.levels ≤ 4 → lowest ≤ 1 → at + left ≤ 2 ^ 64
    → IsOnWay t before ended.height ended.table entry → ended.table % 4096 ≡ 0 → lowest ≤ ended.height → ended.table + 4096 ≤ 2 ^ 64
    → GoesOn t before at ended next → IsRest t lowest (record { at = at; left = left; place = next })
IsRest-after t lowest before at left ended next entry aligned fits some most low within way table_aligned above room (inl (stays, same)) = record {
  aligned = aligned;
  some_levels = some;
  most_levels = most;
  within = within;
  table = subst (λ (p : Place). IsInTable t at p.height p.table) (sym stays)
      (table_beside t before at ended.height ended.table entry way same);
  table_aligned = subst (λ (p : Place). p.table % 4096 ≡ 0) (sym stays) table_aligned;
  low = subst (λ (p : Place). lowest ≤ p.height) (sym stays) above;
  room = subst (λ (p : Place). p.table + 4096 ≤ 2 ^ 64) (sym stays) room;
}
IsRest-after t lowest before at left ended next entry aligned fits some most low within way table_aligned above room (inr (top, is_root)) = record {
  aligned = aligned;
  some_levels = some;
  most_levels = most;
  within = within;
  table = topmost_table t at next.height next.table top is_root;
  table_aligned = ap (λ n. n % 4096) is_root ∙ aligned;
  low = omega arith;
  room = omega arith;
}
