-- The segments so far, before what is read of the rest, are all that is read.
use Rattle.std.proofs.Common.{◌≡◌, ℕ, ◌-◌, true, List, Some}
use Rattle.fd_site.specs.Contents.{Told, file_of}
use Rattle.fd_site.specs.Seen.{Untouched}
use Rattle.fd_elfcore.specs.Elf.{rise_from}
use Rattle.fd_elfcore.specs.Opening.{segments_from}
use Rattle.fd_elfcore.proofs.Headers.{last_end, segments_then}
use Rattle.fd_elfcore.proofs.elf.read_segments.Given as goal

abbrev pub invariant-loop-index : goal.invariant-loop-index
invariant-loop-index g l = record {
  read : Told (g.S.Site.seen l.fn.site).told (λ c. (f : List ℕ) → file_of c l.name ≡ Some f
      → segments_from f 0 l.count 0 ≡ segments_then l.segments.items (segments_from f l.index (l.count - l.index) l.least));
  rise : rise_from 0 l.segments.items ≡ true;
  least : l.least ≡ last_end 0 l.segments.items;
  untouched : Untouched (g.S.Site.seen l.fn.site) (g.S.Site.seen l.site);
}
