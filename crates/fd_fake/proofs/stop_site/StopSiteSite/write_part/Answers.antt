-- What is added where the number of sectors is used up: the first of them.
use Rattle.std.proofs.Common.{◌∙◌, ap, arith}
use Rattle.fd_fake.specs.StopSite.{inner_of}
use Rattle.fd_fake.proofs.Stopped.{adds_first}
use Rattle.fd_fake.proofs.stop_site.StopSiteSite.write_part.Goals as goal

pub returns-clause-err : goal.returns-clause-err
returns-clause-err g c =
    adds_first c.args.at c.args.self.now.left c.args.bytes.now (g.S.Site.seen (inner_of c.args.self.now)).told (g.S.Site.seen (inner_of c.stop-2.new.self)).told
    (omega arith) (ap (λ s. (g.S.Site.seen s).told) c.stop-2.ensures.inner ∙ c.in_ok-pass.ensures.ok)
