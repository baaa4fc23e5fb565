-- The page has the bytes so far.
use Rattle.std.proofs.Common.{◌≡◌, ◌*◌, length}
use Rattle.fd_dump.proofs.Made.{made_of}
use Rattle.fd_dump.proofs.SectionPages.{bitmap_byte}
use Rattle.fd_dump.proofs.sections.bitmap_page.Given as goal

abbrev pub invariant-loop-place : goal.invariant-loop-place
invariant-loop-place l = record {
  so_far : l.page ≡ made_of (bitmap_byte l.map) (4096 * l.index) l.place;
  long : length l.page ≡ l.place;
}
