-- The dump was written, whole or its first sectors.
use Rattle.std.proofs.Common.{◌∙◌, ap}
use Rattle.fd_dump.specs.Header.{header_of}
use Rattle.fd_way.proofs.FirstSectors.{first_written}
use Rattle.fd_way.proofs.first_sectors.write_first.Goals as goal

pub returns-in-Ok-clause-writes : goal.returns-in-Ok-clause-writes
returns-in-Ok-clause-writes g c =
    let wrote = c.in-Ok.ensures in
    first_written c.args.image.now c.args.stop _ _ _ _ c.in-Ok.field-0 _ c.pieces-pieces.ensures.to_come
    (c.header-header.ensures.value ∙ ap (header_of c.args.image.now) c.block.ensures) c.in_ok-plan.ensures.valid wrote.room wrote.whole wrote.enough wrote.stopped
