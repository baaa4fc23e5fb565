use Rattle.std.proofs.Common.{◌≡◌, ℕ, ◌+◌, ◌%◌, ◌<◌, false}
use Rattle.fd_site.specs.Contents.{Told, file_of}
use Rattle.fd_site.specs.Seen.{Untouched}
use Rattle.fd_save.specs.Number.{is_free}
use Rattle.fd_save.proofs.number.first_free.Given as goal

abbrev pub invariant-loop-tries : goal.invariant-loop-tries
invariant-loop-tries g l = record {
  taken : Told (g.S.Site.seen l.fn.site).told (λ c. (earlier : ℕ) → earlier < l.tries → is_free (file_of c) ((l.from + earlier) % 65536) ≡ false);
  untouched : Untouched (g.S.Site.seen l.fn.site) (g.S.Site.seen l.site);
}
