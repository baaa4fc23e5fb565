use Rattle.std.proofs.Common.{inr, refl, sym, ◌∙◌}
use Rattle.fd_site.specs.Begun.{IsBegun}
use Rattle.fd_save.specs.Outcome.{IsAll}
use Rattle.fd_save.specs.Saving.{clearing}
use Rattle.fd_save.proofs.Clears.{cleared_from}
use Rattle.fd_save.proofs.clearing.clear_only.Goals as goal

pub returns-in_err-clear_sector-in-Dump-clause-fault : goal.returns-in_err-clear_sector-in-Dump-clause-fault
returns-in_err-clear_sector-in-Dump-clause-fault g c _ =
    inr (record {
      header = c.in-Dump.header;
      at = c.in-Dump.at;
      sector = c.in-Dump.sector;
      found = λ told is. sym (c.in_ok-sector.ensures.verdict told is) ∙ c.in-Dump.is;
      adds =
          cleared_from IsBegun c.in-Dump.sector (g.S.Site.seen c.args.site.now) (g.S.Site.seen c.judge.new.site) (g.S.Site.seen c.clear_sector.new.site).told
          c.in_ok-sector.ensures.untouched c.in_err-clear_sector-in-Dump.ensures.err;
    })

pub returns-in_ok-clear_sector-in-Dump-clause-cleared : goal.returns-in_ok-clear_sector-in-Dump-clause-cleared
returns-in_ok-clear_sector-in-Dump-clause-cleared g c = record {
  header = c.in-Dump.header;
  at = c.in-Dump.at;
  sector = c.in-Dump.sector;
  found = λ told is. sym (c.in_ok-sector.ensures.verdict told is) ∙ c.in-Dump.is;
  adds =
      cleared_from IsAll c.in-Dump.sector (g.S.Site.seen c.args.site.now) (g.S.Site.seen c.judge.new.site) (g.S.Site.seen c.clear_sector.new.site).told
      c.in_ok-sector.ensures.untouched
      (clearing (g.S.Site.seen c.judge.new.site).size (g.S.Site.seen c.judge.new.site).block c.in-Dump.sector, refl, c.in_ok-clear_sector-in-Dump.ensures.ok);
}
