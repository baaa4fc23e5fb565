-- What a look-up of an address finds.
use Rattle.std.specs.Prelude.{ℕ, Option, Some, None, ◌-◌, ◌%◌}
use Rattle.fd_pte.specs.Entry.{bytes_under}
use Rattle.fd_walk.specs.declared.step.Step.{Step}
use Rattle.fd_walk.specs.declared.step.Step.TheVariants.{Absent, Leaf}
use Rattle.fd_walk.specs.PageTables.{PageTables}
use Rattle.fd_walk.specs.Leaf.{MappedBy, leaf_at, last_table}

-- the first address that an address shares an entry of this height with
abbrev pub first_under : (height va : ℕ) → ℕ
first_under height va = va - va % bytes_under height

-- the leaf at an address, if there is one, with the last-level table that the walk was sent to
abbrev pub step_of : (va : ℕ) → Option ℕ → Option MappedBy → Step
step_of va table None = Absent table
step_of va table (Some leaf) = Leaf (first_under leaf.height va) leaf.address (bytes_under leaf.height) leaf.bits table

-- what the look-up of an address finds
abbrev pub step_at : PageTables → ℕ → Step
step_at t va = step_of va (last_table t va) (leaf_at t va)
