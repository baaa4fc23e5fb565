-- Each end of the way.
use Rattle.fd_way.specs.Drill.{Drill, Drills}
use Rattle.fd_way.proofs.Ways.{not_read, not_saved, not_written, read, refusal_unprinted, refused, refused_by}
use Rattle.fd_way.proofs.Errors.{by_error}
use Rattle.fd_way.proofs.OverClear.{not_clear}
use Rattle.fd_way.proofs.drilling.drill.Goals as goal

pub returns-in_err-write_first-clause-drills : goal.returns-in_err-write_first-clause-drills
returns-in_err-write_first-clause-drills g c =
    let d : Drill = record { image = c.args.image.now; stop = c.args.stop; va = c.args.va; count = c.args.length } in
    let sink = g.O.Sink.seen c.args.out.now in
    by_error c.from_residual.result c.in_err-write_first.field-0.0 (Drills d (g.S.Site.seen c.args.site.now) (g.S.Site.seen c.write_first.new.site) sink sink)
    c.from_residual.ensures.1 (not_written d _ _ _ c.in_err-write_first.field-0.0 c.in_err-write_first.ensures.writes)

pub returns-in_err-fault-in-Ok-clause-drills : goal.returns-in_err-fault-in-Ok-clause-drills
returns-in_err-fault-in-Ok-clause-drills g c =
    let d : Drill = record { image = c.args.image.now; stop = c.args.stop; va = c.args.va; count = c.args.length } in
    let wrote = c.in_ok-write_first.ensures in
    by_error c.from_residual-in_err-fault-in-Ok.result c.in_err-fault-in-Ok.field-0.0
    (Drills d (g.S.Site.seen c.args.site.now) (g.S.Site.seen c.read_saved.new.site) (g.O.Sink.seen c.args.out.now) (g.O.Sink.seen c.read_saved.new.out))
    c.from_residual-in_err-fault-in-Ok.ensures.1
    (not_read d _ _ _ wrote.writes wrote.frame c.each_save_is_saved.ensures _ _ _ c.in-Ok.saved c.in-Ok.ensures.saves c.in_err-fault-in-Ok.ensures.untouched.told
    c.in_err-fault-in-Ok.field-0.0 c.in_err-fault-in-Ok.ensures.reads)

pub returns-in_ok-fault-in-Ok-clause-drills : goal.returns-in_ok-fault-in-Ok-clause-drills
returns-in_ok-fault-in-Ok-clause-drills g c =
    let d : Drill = record { image = c.args.image.now; stop = c.args.stop; va = c.args.va; count = c.args.length } in
    let wrote = c.in_ok-write_first.ensures in
    read d _ _ _ wrote.writes wrote.frame c.each_save_is_saved.ensures _ _ _ c.in-Ok.saved c.in-Ok.ensures.saves c.in_ok-fault-in-Ok.ensures.untouched.told
    c.in_ok-fault-in-Ok.fault c.in_ok-fault-in-Ok.ensures.reads

pub returns-in-Err-SiteFault-clause-drills : goal.returns-in-Err-SiteFault-clause-drills
returns-in-Err-SiteFault-clause-drills g c =
    let d : Drill = record { image = c.args.image.now; stop = c.args.stop; va = c.args.va; count = c.args.length } in
    let wrote = c.in_ok-write_first.ensures in
    not_saved d _ _ _ wrote.writes wrote.frame _ c.in-Err-SiteFault.field-0 c.in-Err-SiteFault.field-0-is c.in-Err-SiteFault.ensures.saves

pub returns-in_err-refuse-in-Err-Refused-clause-drills : goal.returns-in_err-refuse-in-Err-Refused-clause-drills
returns-in_err-refuse-in-Err-Refused-clause-drills g c =
    let d : Drill = record { image = c.args.image.now; stop = c.args.stop; va = c.args.va; count = c.args.length } in
    let wrote = c.in_ok-write_first.ensures in
    let why = c.in-Err-Refused.why in
    by_error c.from_residual-in_err-refuse-in-Err-Refused.result c.in_err-refuse-in-Err-Refused.field-0.0
    (Drills d (g.S.Site.seen c.args.site.now) (g.S.Site.seen c.save_and_clear.new.site) (g.O.Sink.seen c.args.out.now) (g.O.Sink.seen c.refuse.new.out))
    c.from_residual-in_err-refuse-in-Err-Refused.ensures.1
    (refusal_unprinted d _ _ _ wrote.writes wrote.frame _ _ why (refused_by _ _ c.in-Err-Refused.field-0 why c.in-Err-Refused.field-0-is c.in-Err-Refused.ensures.saves)
    c.in_err-refuse-in-Err-Refused.field-0.0 c.in_err-refuse-in-Err-Refused.ensures.prints)

pub returns-in_ok-refuse-in-Err-Refused-clause-drills : goal.returns-in_ok-refuse-in-Err-Refused-clause-drills
returns-in_ok-refuse-in-Err-Refused-clause-drills g c =
    let d : Drill = record { image = c.args.image.now; stop = c.args.stop; va = c.args.va; count = c.args.length } in
    let wrote = c.in_ok-write_first.ensures in
    let why = c.in-Err-Refused.why in
    refused d _ _ _ wrote.writes wrote.frame _ _ why (refused_by _ _ c.in-Err-Refused.field-0 why c.in-Err-Refused.field-0-is c.in-Err-Refused.ensures.saves)
    c.in_ok-refuse-in-Err-Refused.ensures.prints

pub returns-in_err-fault-in-Ok-clause-unread : goal.returns-in_err-fault-in-Ok-clause-unread
returns-in_err-fault-in-Ok-clause-unread g c fault is =
    let d : Drill = record { image = c.args.image.now; stop = c.args.stop; va = c.args.va; count = c.args.length } in
    not_clear c.each_read_of_a_minidump_is_the_images.ensures d _ _ _ _ c.from_residual-in_err-fault-in-Ok.result fault c.in_ok-write_first.ensures.writes.valid c.requires
    (λ e told. g.met.S.Site.told_size _ e told) (returns-in_err-fault-in-Ok-clause-drills g c) is
