-- What was written is all but what is to come, and the count of sectors went down by as many.
use Rattle.std.proofs.Common.{◌≡◌, ◌+◌, ◌*◌, ◌≤◌, ◌%◌, length}
use Rattle.fd_part.proofs.BodyWrites.{WroteBut}
use Rattle.fd_part.proofs.writes.write_pieces.Given as goal

abbrev pub invariant-loop-pieces : goal.invariant-loop-pieces
invariant-loop-pieces g l = record {
  wrote : WroteBut l.from (g.P.Pieces.to_come l.fn.pieces) (g.P.Pieces.to_come l.pieces) (g.S.Site.seen l.fn.site).told (g.S.Site.seen l.site).told;
  place : l.at + length (g.P.Pieces.to_come l.pieces) ≡ l.from + length (g.P.Pieces.to_come l.fn.pieces);
  rest : l.rest * 512 + length (g.P.Pieces.to_come l.fn.pieces) ≡ l.left * 512 + length (g.P.Pieces.to_come l.pieces);
  sector : l.at % 512 ≡ 0;
  whole : length (g.P.Pieces.to_come l.pieces) % 512 ≡ 0;
  size : (g.S.Site.seen l.site).size ≡ (g.S.Site.seen l.fn.site).size;
  block : (g.S.Site.seen l.site).block ≡ (g.S.Site.seen l.fn.site).block;
  count : (g.S.Site.seen l.fn.site).faults ≤ (g.S.Site.seen l.site).faults;
}

abbrev pub decreases-loop-pieces : goal.decreases-loop-pieces
decreases-loop-pieces g l = length (g.P.Pieces.to_come l.pieces)
