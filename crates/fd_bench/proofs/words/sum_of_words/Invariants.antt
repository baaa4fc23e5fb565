use Rattle.fd_site.specs.Contents.{Told}
use Rattle.fd_kvm.specs.Reader.{StandsFor}
use Rattle.fd_bench.proofs.words.sum_of_words.Given as goal

-- the reader stands for the file
abbrev pub invariant-loop-read : goal.invariant-loop-read
invariant-loop-read g l = Told (g.S.Site.seen l.site).told (StandsFor l.kvm)
