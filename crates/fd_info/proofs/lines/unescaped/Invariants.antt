use Rattle.std.proofs.Common.{◌≡◌, ◌<◌, ℕ, List, get_or, drop, length}
use Rattle.fd_info.specs.Info.{IsLabel, escaped}
use Rattle.fd_info.proofs.lines.unescaped.Given as goal

abbrev pub invariant-loop-i : goal.invariant-loop-i
invariant-loop-i g l = record {
  size : length l.field ≡ g.row.N;
  bytes : (text : List ℕ) → IsLabel g.row.N text → l.fn.value ≡ escaped text → (k : ℕ) → k < l.i → get_or l.field k 0 ≡ get_or text k 0;
  rest : (text : List ℕ) → IsLabel g.row.N text → l.fn.value ≡ escaped text → l.rest ≡ escaped (drop l.i text);
}
