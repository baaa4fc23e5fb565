-- Other architectures' last-level tables aren't dumped for being tables.
use Rattle.std.proofs.Common.{◌∙◌, ap, sym}
use Rattle.fd_dump.specs.Dumped.{dumps_last_tables, is_last_table}
use Rattle.fd_dump.proofs.Marking.{marked-unless}
use Rattle.fd_dump.proofs.dumped.mark_dumped_tables.Goals as goal

pub returns-else-profile : goal.returns-else-profile
returns-else-profile g c = record {
  marks = marked-unless c.args.windows.now (dumps_last_tables c.args.image.now.arch) (is_last_table c.args.image.now) c.args.avail.now c.args.map.now
      (ap dumps_last_tables (sym c.arch.ensures.value) ∙ ap (λ profile. profile.dumps_last_tables) (sym c.profile.ensures) ∙ c.if-profile.false);
}
