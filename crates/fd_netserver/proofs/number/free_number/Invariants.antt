use Rattle.std.proofs.Common.{◌≡◌}
use Rattle.fd_site.specs.Contents.{Told, file_of}
use Rattle.fd_site.specs.Seen.{Untouched}
use Rattle.fd_netserver.specs.Files.{free_number}
use Rattle.fd_netserver.proofs.Numbers.{left}
use Rattle.fd_netserver.proofs.number.free_number.Given as goal

abbrev pub invariant-loop-number : goal.invariant-loop-number
invariant-loop-number g l = record {
  untouched : Untouched (g.S.Site.seen l.initial.site) (g.S.Site.seen l.site);
  number : Told (g.S.Site.seen l.initial.site).told (λ c. free_number (file_of c) ≡ left (file_of c) l.number);
}
