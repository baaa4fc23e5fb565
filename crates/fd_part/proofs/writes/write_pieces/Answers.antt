use Rattle.std.proofs.Common.{◌≡◌, ◌+◌, [], ◌∷◌, ℕ, List, length, ◌∙◌, ap, subst, arith, length-append}
use Rattle.fd_site.specs.Contents.{whole_part, with_entries}
use Rattle.fd_part.specs.Writes.{Begins, IsWriteOf, Stops}
use Rattle.fd_part.proofs.BodyWrites.{begins_in_piece, stops_in_piece, wrote_more}
use Rattle.fd_part.proofs.Progress.{on_err}
use Rattle.fd_part.proofs.writes.write_pieces.Goals as goal

pub loop-pieces-preserved : goal.loop-pieces-preserved
loop-pieces-preserved g c =
    let i = c.loop-pieces.invariant in
    let p = g.P.Pieces.current c.advance.new.self in
    let rest = g.P.Pieces.to_come c.advance.new.self in
    let more = c.loop-pieces-test.ensures.more in
    let size : length (g.P.Pieces.to_come c.loop-pieces.pieces) ≡ length p + length rest = ap length more ∙ length-append p rest in
    let same : length c.piece-piece.result.now ≡ length p = ap length c.piece-piece.ensures in
    let told = rw c.in-Some.is at c.in_ok-now.ensures.whole in
    let left = rw c.in-Some.is at c.in_ok-now.ensures.rest in
    record {
      wrote = wrote_more c.args.from c.loop-pieces.at _ _ p rest _ _ _ i.wrote more (omega (arith, c.loop-pieces-test.ensures.whole)) i.place
          (told ∙ ap (λ (b : List ℕ). with_entries (g.S.Site.seen c.loop-pieces.site).told (whole_part c.loop-pieces.at b ∷ [])) c.piece-piece.ensures);
      place = omega (arith, i.place, size, same);
      rest = omega (arith, i.rest, size, same, left, c.loop-pieces-test.ensures.whole);
      sector = omega (arith, i.sector, same, c.loop-pieces-test.ensures.whole);
      whole = omega (arith, i.whole, size, c.loop-pieces-test.ensures.whole);
      size = c.in_ok-now.ensures.frame.size ∙ i.size;
      block = c.in_ok-now.ensures.frame.block ∙ i.block;
      count = omega (arith, i.count, c.in_ok-now.ensures.frame.count);
    }

pub returns-in_err-now-clause-fault : goal.returns-in_err-now-clause-fault
returns-in_err-now-clause-fault g c =
    let i = c.loop-pieces.invariant in
    let p = g.P.Pieces.current c.advance.new.self in
    let rest = g.P.Pieces.to_come c.advance.new.self in
    let more = c.loop-pieces-test.ensures.more in
    let size : length (g.P.Pieces.to_come c.loop-pieces.pieces) ≡ length p + length rest = ap length more ∙ length-append p rest in
    on_err c.from_residual.result (begins_in_piece c.args.from c.loop-pieces.at _ _ p rest _ _ _ i.wrote more (omega (arith, c.loop-pieces-test.ensures.whole)) i.place
    (omega (arith, i.whole, size, c.loop-pieces-test.ensures.whole))
    (subst (λ (b : List ℕ). Begins (IsWriteOf c.loop-pieces.at b) (g.S.Site.seen c.loop-pieces.site).told (g.S.Site.seen c.write_bytes.new.site).told)
    c.piece-piece.ensures c.in_err-now.ensures.fault))

pub returns-in-None-clause-stopped : goal.returns-in-None-clause-stopped
returns-in-None-clause-stopped g c =
    let i = c.loop-pieces.invariant in
    let p = g.P.Pieces.current c.advance.new.self in
    let rest = g.P.Pieces.to_come c.advance.new.self in
    let more = c.loop-pieces-test.ensures.more in
    let size : length (g.P.Pieces.to_come c.loop-pieces.pieces) ≡ length p + length rest = ap length more ∙ length-append p rest in
    stops_in_piece c.args.from c.loop-pieces.at _ _ p rest _ _ _ i.wrote more (omega (arith, c.loop-pieces-test.ensures.whole)) i.place
    (omega (arith, i.whole, size, c.loop-pieces-test.ensures.whole)) c.loop-pieces.rest c.args.left i.rest
    (subst (λ (b : List ℕ). Stops (IsWriteOf c.loop-pieces.at b) c.loop-pieces.rest (g.S.Site.seen c.loop-pieces.site).told (g.S.Site.seen c.write_bytes.new.site).told)
    c.piece-piece.ensures (rw c.in-None.is at c.in_ok-now.ensures.stopped))
