use Rattle.std.proofs.Common.{length, ◌∙◌, ap, arith}
use Rattle.fd_part.proofs.Progress.{on_err}
use Rattle.fd_part.proofs.Blocks.{IsBlock-good, length-header_block}
use Rattle.fd_part.proofs.WholeDump.{begins_in_body, begins_in_leading, begins_in_trailing, dump_done, is_placed, length-dump_sectors}
use Rattle.fd_part.proofs.WholeDump.{stops_in_body, stops_in_leading, stops_in_trailing}
use Rattle.fd_part.proofs.dump.write_parts.Goals as goal

pub returns-in_err-rest-clause-fault : goal.returns-in_err-rest-clause-fault
returns-in_err-rest-clause-fault g c =
    let seen = g.S.Site.seen c.args.site.now in
    let placed = is_placed (g.P.Pieces.to_come c.args.pieces.now) c.args.header.now seen.size seen.block _ _ _ _ c.size.ensures
    (c.from-block.ensures ∙ c.block.ensures) c.requires.dumpextent c.padded-buffer.ensures c.requires.partition in
    on_err c.from_residual.result (begins_in_body _ _ _ _ _ _ _ _ placed _ _ c.in_err-rest.ensures.fault)

pub returns-in-None-clause-stopped : goal.returns-in-None-clause-stopped
returns-in-None-clause-stopped g c =
    let seen = g.S.Site.seen c.args.site.now in
    let placed = is_placed (g.P.Pieces.to_come c.args.pieces.now) c.args.header.now seen.size seen.block _ _ _ _ c.size.ensures
    (c.from-block.ensures ∙ c.block.ensures) c.requires.dumpextent c.padded-buffer.ensures c.requires.partition in
    stops_in_body _ _ _ _ _ _ _ _ placed _ _ c.args.left (rw c.in-None.is at c.in_ok-rest.ensures.stopped)

pub returns-in_err-rest-2-clause-fault : goal.returns-in_err-rest-2-clause-fault
returns-in_err-rest-2-clause-fault g c =
    let seen = g.S.Site.seen c.args.site.now in
    let placed = is_placed (g.P.Pieces.to_come c.args.pieces.now) c.args.header.now seen.size seen.block _ _ _ _ c.size.ensures
    (c.from-block.ensures ∙ c.block.ensures) c.requires.dumpextent c.padded-buffer.ensures c.requires.partition in
    on_err c.from_residual-in_err-rest-2.result (begins_in_leading _ _ _ _ _ _ _ _ placed _ _ (rw c.in-Some.is at c.in_ok-rest.ensures.whole) _
    c.in_err-rest-2.ensures.fault)

pub returns-in-None-2-clause-stopped : goal.returns-in-None-2-clause-stopped
returns-in-None-2-clause-stopped g c =
    let seen = g.S.Site.seen c.args.site.now in
    let placed = is_placed (g.P.Pieces.to_come c.args.pieces.now) c.args.header.now seen.size seen.block _ _ _ _ c.size.ensures
    (c.from-block.ensures ∙ c.block.ensures) c.requires.dumpextent c.padded-buffer.ensures c.requires.partition in
    stops_in_leading _ _ _ _ _ _ _ _ placed _ _ (rw c.in-Some.is at c.in_ok-rest.ensures.whole) _
    c.in-Some.rest c.args.left (rw c.in-Some.is at c.in_ok-rest.ensures.rest) (rw c.in-None-2.is at c.in_ok-rest-2.ensures.stopped)

pub returns-in_err-write_bytes-clause-fault : goal.returns-in_err-write_bytes-clause-fault
returns-in_err-write_bytes-clause-fault g c =
    let seen = g.S.Site.seen c.args.site.now in
    let placed = is_placed (g.P.Pieces.to_come c.args.pieces.now) c.args.header.now seen.size seen.block _ _ _ _ c.size.ensures
    (c.from-block.ensures ∙ c.block.ensures) c.requires.dumpextent c.padded-buffer.ensures c.requires.partition in
    on_err c.from_residual-in_err-write_bytes.result (begins_in_trailing _ _ _ _ _ _ _ _ placed _ _ (rw c.in-Some.is at c.in_ok-rest.ensures.whole) _
    (rw c.in-Some-2.is at c.in_ok-rest-2.ensures.whole) _ c.in_err-write_bytes.ensures.fault)

pub returns-in-None-3-clause-stopped : goal.returns-in-None-3-clause-stopped
returns-in-None-3-clause-stopped g c =
    let seen = g.S.Site.seen c.args.site.now in
    let placed = is_placed (g.P.Pieces.to_come c.args.pieces.now) c.args.header.now seen.size seen.block _ _ _ _ c.size.ensures
    (c.from-block.ensures ∙ c.block.ensures) c.requires.dumpextent c.padded-buffer.ensures c.requires.partition in
    stops_in_trailing _ _ _ _ _ _ _ _ placed _ _ (rw c.in-Some.is at c.in_ok-rest.ensures.whole) _
    (rw c.in-Some-2.is at c.in_ok-rest-2.ensures.whole) _ c.in-Some-2.rest c.args.left
    (omega (arith, rw c.in-Some.is at c.in_ok-rest.ensures.rest, rw c.in-Some-2.is at c.in_ok-rest-2.ensures.rest))
    (rw c.in-None-3.is at c.in_ok-write_bytes.ensures.stopped)

pub returns-in-Some-3-clause-whole : goal.returns-in-Some-3-clause-whole
returns-in-Some-3-clause-whole g c =
    let seen = g.S.Site.seen c.args.site.now in
    let placed = is_placed (g.P.Pieces.to_come c.args.pieces.now) c.args.header.now seen.size seen.block _ _ _ _ c.size.ensures
    (c.from-block.ensures ∙ c.block.ensures) c.requires.dumpextent c.padded-buffer.ensures c.requires.partition in
    dump_done _ _ _ _ _ _ _ _ placed _ _ (rw c.in-Some.is at c.in_ok-rest.ensures.whole) _
    (rw c.in-Some-2.is at c.in_ok-rest-2.ensures.whole) _ (rw c.in-Some-3.is at c.in_ok-write_bytes.ensures.whole)

pub returns-in-Some-3-clause-enough : goal.returns-in-Some-3-clause-enough
returns-in-Some-3-clause-enough g c =
    let seen = g.S.Site.seen c.args.site.now in
    let block = seen.block in
    let placed = is_placed (g.P.Pieces.to_come c.args.pieces.now) c.args.header.now seen.size seen.block _ _ _ _ c.size.ensures
    (c.from-block.ensures ∙ c.block.ensures) c.requires.dumpextent c.padded-buffer.ensures c.requires.partition in
    let low = (IsBlock-good _ block c.requires.partition).low in
    let size = ap length placed.is_block ∙ length-header_block c.args.header.now block c.requires.labels low in
    let first = rw c.in-Some.is at c.in_ok-rest.ensures.rest in
    let second = rw c.in-Some-2.is at c.in_ok-rest-2.ensures.rest in
    let third = rw c.in-Some-3.is at c.in_ok-write_bytes.ensures.rest in
    omega (arith, first, second, third, size, length-dump_sectors (g.P.Pieces.to_come c.args.pieces.now) c.args.header.now seen.size block c.requires.labels low)
