use Rattle.std.proofs.Common.{◌∙◌, ap}
use Rattle.fd_dump.specs.Header.{header_of}
use Rattle.fd_cli.proofs.Dumps.{dump_done, on_no_room, refused_for_room}
use Rattle.fd_cli.proofs.dump_image.write_plan.Goals as goal

pub returns-in-Ok-clause-works : goal.returns-in-Ok-clause-works
returns-in-Ok-clause-works g c =
    dump_done _ _ c.args.mark c.args.image.now _ _ _ c.in-Ok.field-0 _ c.pieces-pieces.ensures.to_come
    (c.header-header.ensures.value ∙ ap (header_of c.args.image.now) c.block.ensures) (c.length.ensures c.args.image.now c.requires.plan)
    c.in-Ok.ensures.room c.in-Ok.ensures.whole c.in_ok-reply.ensures

pub returns-in-Err-NoRoom-clause-works : goal.returns-in-Err-NoRoom-clause-works
returns-in-Err-NoRoom-clause-works g c =
    refused_for_room _ _ c.args.mark c.args.image.now _ c.in-Err-NoRoom.field-0 c.in-Err-NoRoom.room _ c.in-Err-NoRoom.field-0-is
    c.pieces-pieces.ensures.to_come (on_no_room _ _ _ c.in-Err-NoRoom.field-0-is c.in-Err-NoRoom.ensures.no_room)
    c.in-Err-NoRoom.ensures.room (ap g.S.Site.seen (on_no_room _ _ _ c.in-Err-NoRoom.field-0-is c.in-Err-NoRoom.ensures.untouched))
    c.in_ok-reply-in-Err-NoRoom.ensures
