use Rattle.std.proofs.Common.{◌≡◌, ◌*◌, ◌++◌, drop}
use Rattle.fd_gen.specs.Spelled.{words_of}
use Rattle.fd_gen.proofs.segment.fill_page.Given as goal

-- the words so far, and behind them the bytes as they were
abbrev pub invariant-loop-index : goal.invariant-loop-index
invariant-loop-index g l = l.bytes ≡ words_of (g.W.Words.word_at l.words l.page) l.index ++ drop (8 * l.index) l.fn.bytes
