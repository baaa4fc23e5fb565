-- The page has the pairs so far.
use Rattle.std.proofs.Common.{◌≡◌, ◌*◌, length}
use Rattle.fd_dump.specs.Sections.{pair_at}
use Rattle.fd_dump.proofs.Made.{made_of}
use Rattle.fd_dump.proofs.sections.avail_page.Given as goal

abbrev pub invariant-loop-place : goal.invariant-loop-place
invariant-loop-place l = record {
  so_far : l.page ≡ made_of (pair_at l.pairs) (256 * l.index) l.place;
  long : length l.page ≡ 16 * l.place;
}
