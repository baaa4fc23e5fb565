-- Entries that give nothing are passed, and what is left to be found stays the same.
use Rattle.std.proofs.Common.{◌≡◌}
use Rattle.fd_walk.specs.Ranges.{IsRest}
use Rattle.fd_walk.proofs.range_walk.RangeWalkIterator.next.Given as goal

abbrev pub invariant-loop-rest : goal.invariant-loop-rest
invariant-loop-rest g l =
    let now = l.self-inside in
    let before = l.initial.self-inside in
    let t = g.W.Finds.tables (g.M.Memory.word_at now.mem.now) now.root in
    record {
      rest : IsRest t g.W.Finds.lowest l.rest;
      same : g.W.Finds.found_in t l.rest.at l.rest.left
          ≡ g.W.Finds.found_in (g.W.Finds.tables (g.M.Memory.word_at before.mem.now) before.root) before.rest.at before.rest.left;
    }

abbrev pub decreases-loop-rest : goal.decreases-loop-rest
decreases-loop-rest g l = l.rest.left
