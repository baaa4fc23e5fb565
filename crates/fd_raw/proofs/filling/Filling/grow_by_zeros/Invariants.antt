use Rattle.std.proofs.Common.{◌-◌, ◌≡◌, ◌+◌, ◌≤◌, ◌++◌, length, replicate}
use Rattle.fd_raw.proofs.filling.Filling.grow_by_zeros.Given as goal

abbrev pub invariant-loop-self : goal.invariant-loop-self
invariant-loop-self l =
    let now = l.self-inside in let old = l.initial.self-inside in
    (now.cells.bytes ++ replicate (l.end - now.len) 0 ≡ old.cells.bytes ++ replicate l.count 0) × (now.len ≡ length now.cells.bytes) × (now.len + now.cells.room ≡ now.room)
    × (now.room ≡ old.room) × (now.cells.alloc ≡ now.alloc) × (now.len ≤ l.end) × (l.end ≤ now.room)

abbrev pub decreases-loop-self : goal.decreases-loop-self
decreases-loop-self l = l.end - l.self-inside.len
