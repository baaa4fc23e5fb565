use Rattle.std.proofs.Common.{Some, true, false, refl}
use Rattle.fd_words.specs.declared.command.Command.TheVariants as command
use Rattle.fd_cli.proofs.Calls.{call_by}
use Rattle.fd_cli.proofs.Cuts.{each_dump_is_safe, each_marked_dump_is_safe, found_of_call, left_of}
use Rattle.fd_cli.proofs.Delivering.{delivered_of_call}
use Rattle.fd_cli.proofs.Images.{reads_of_call}
use Rattle.fd_cli.proofs.Sound.{sound}
use Rattle.fd_cli.proofs.run.crashway.Goals as goal

pub returns-clause-crash : goal.returns-clause-crash
returns-clause-crash g c source is =
    each_dump_is_safe source _ _ (λ d told. g.met.S.Site.told_size _ d told)
    (left_of _ _ _ _ (sound (Some (command.Dump false source)) (refl, refl)) (call_by _ _ _ _ _ is c.carry_out.ensures))

pub returns-clause-marked : goal.returns-clause-marked
returns-clause-marked g c source is =
    each_marked_dump_is_safe source _ _ (λ d told. g.met.S.Site.told_size _ d told)
    (left_of _ _ _ _ (sound (Some (command.Dump true source)) (refl, refl)) (call_by _ _ _ _ _ is c.carry_out.ensures))

pub returns-clause-found : goal.returns-clause-found
returns-clause-found g c mark source is zero =
    found_of_call mark _ _ source _ (λ d told. g.met.S.Site.told_size _ d told) (call_by _ _ _ _ _ is c.carry_out.ensures) zero

pub returns-clause-reads : goal.returns-clause-reads
returns-clause-reads g c name va count is =
    reads_of_call c.each_read_of_a_minidump_is_the_images.ensures _ _ name va count _ (call_by _ _ _ _ _ is c.carry_out.ensures).ends

pub returns-clause-stopped : goal.returns-clause-stopped
returns-clause-stopped g c options keep is =
    c.each_savecore_is_safe.ensures options keep _ _ (λ d told. g.met.S.Site.told_size _ d told)
    (left_of _ _ _ _ (sound (Some (command.Save options keep)) (refl, refl)) (call_by _ _ _ _ _ is c.carry_out.ensures))

pub returns-clause-others : goal.returns-clause-others
returns-clause-others g c options keep is none =
    c.each_saved_file_is_left.ensures options keep _ _ none (λ d told. g.met.S.Site.told_size _ d told)
    (left_of _ _ _ _ (sound (Some (command.Save options keep)) (refl, refl)) (call_by _ _ _ _ _ is c.carry_out.ensures))

pub returns-clause-delivered : goal.returns-clause-delivered
returns-clause-delivered g c source server is zero =
    delivered_of_call c.each_netdump_is_delivered.ensures _ _ source server _ (call_by _ _ _ _ _ is c.carry_out.ensures) zero
