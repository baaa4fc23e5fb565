use Rattle.std.proofs.Common.{◌≡◌}
use Rattle.fd_gen.proofs.Wanted.{wanted_among}
use Rattle.fd_gen.proofs.ranges.wanted_pages.Given as goal

abbrev pub invariant-loop-page : goal.invariant-loop-page
invariant-loop-page l = l.wanted.items ≡ wanted_among l.pages l.page
