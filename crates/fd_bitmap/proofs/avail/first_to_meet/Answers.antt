-- The runs before one that begins at or below the page end there.
use Rattle.std.proofs.Common.{◌≡◌, ℕ, ◌-◌, List, true, false, Option, Some, None, get_or, refl, sym, ◌∙◌, arith, rules}
use Rattle.std.specs.Prelude.{slice_get, unwrap_or, nat_le}
use Rattle.std.specs.Option.{option_map}
use Rattle.std.proofs.lemmas.Bool.{leb-true}
use Rattle.std.proofs.lemmas.Option.{slice_get-get_or}
use Rattle.fd_bitmap.specs.declared.avail.Run.{Run}
use Rattle.fd_bitmap.specs.Runs.{EndUpTo}
use Rattle.fd_bitmap.proofs.LaidRuns.{IsOrdered-pages, Splits, Splits-from_search}
use Rattle.fd_bitmap.proofs.JoinedRuns.{EndUpTo-before, no_run}
use Rattle.fd_bitmap.proofs.avail.first_to_meet.Goals as goal

-- a test that a run passed tells that there is the run
passed : (page : ℕ) (runs : List Run) (k : ℕ) (found : Option Run) (P : Type 0) → slice_get runs k ≡ found → unwrap_or (option_map (λ (run : Run). nat_le run.page page) found) false ≡ true
    → ((run : Run) → slice_get runs k ≡ Some run → nat_le run.page page ≡ true → P) → P
passed page runs k None P at is gives = absurd cc
passed page runs k (Some run) P at is gives = gives run at is

pub returns-then-not-begins_up_to-clause-before : goal.returns-then-not-begins_up_to-clause-before
returns-then-not-begins_up_to-clause-before c =
    let page : ℕ = c.args.page in
    let runs : List Run = c.args.runs.now in
    let near : ℕ = c.args.near in
    passed page runs near (slice_get runs near) (EndUpTo near page runs) refl (sym c.begins_up_to.ensures ∙ c.if-begins_up_to.true)
    (λ run at low. EndUpTo-before page runs near run c.requires at (leb-true run.page page low))

pub returns-clause-before : goal.returns-clause-before
returns-clause-before c =
    let page : ℕ = c.args.page in
    let runs : List Run = c.args.runs.now in
    let count : ℕ = c.partition_point.result in
    let splits : Splits (λ run. run.page) page runs count =
    Splits-from_search (λ run. run.page) page runs count c.partition_point.ensures.partitioned (IsOrdered-pages 0 0 runs c.requires) (λ a r f k. search rules) in
    λ k run order at.
    EndUpTo-before page runs (count - 1) (get_or runs (count - 1) no_run) c.requires
    (slice_get-get_or runs (count - 1) no_run (omega (arith, c.partition_point.ensures.bound)))
    (leb-true (get_or runs (count - 1) no_run).page page (splits.0 (count - 1) no_run (omega arith) (omega (arith, c.partition_point.ensures.bound))))
    k run (omega (arith, order, c.saturating_sub.ensures)) at
