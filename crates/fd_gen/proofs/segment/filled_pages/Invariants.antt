use Rattle.std.proofs.Common.{◌≡◌, ◌*◌, ◌-◌, ◌++◌, replicate}
use Rattle.fd_gen.specs.Spelled.{pages_of}
use Rattle.fd_gen.proofs.segment.filled_pages.Given as goal

-- the pages so far, and behind them the zeros of the others
abbrev pub invariant-loop-page : goal.invariant-loop-page
invariant-loop-page g l = l.region ≡ pages_of (g.W.Words.word_at l.words) l.page ++ replicate (4096 * (l.pages - l.page)) 0
