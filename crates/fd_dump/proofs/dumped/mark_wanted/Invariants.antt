-- The wanted pages that are left are still to be marked.
use Rattle.std.proofs.Common.{◌≡◌, drop, length}
use Rattle.std.specs.Prelude.{◌==◌}
use Rattle.std.specs.List.{list_any}
use Rattle.fd_dump.specs.Marks.{marked}
use Rattle.fd_dump.proofs.dumped.mark_wanted.Given as goal

abbrev pub invariant-loop-page : goal.invariant-loop-page
invariant-loop-page l = record {
  marks : marked l.windows (λ address. list_any (λ page. page == address) (drop l.page-index l.wanted)) l.avail l.map
      ≡ marked l.windows (λ address. list_any (λ page. page == address) l.wanted) l.avail l.fn.map;
  bits : length l.map ≡ length l.fn.map;
}
