-- The pages so far follow one another.
use Rattle.fd_dump.specs.Sections.{IsRun}
use Rattle.fd_dump.proofs.plan.Plan.run_length.Given as goal

abbrev pub invariant-loop-count : goal.invariant-loop-count
invariant-loop-count l = IsRun l.self l.bit l.pa l.count
