-- One more part is written.
use Rattle.std.proofs.Common.{◌≡◌, ◌+◌, ◌++◌, ℕ, List, take, drop, slice_range, subst, sym, ◌∙◌, ap, arith}
use Rattle.std.proofs.Math.Seq.{take-add}
use Rattle.std.proofs.lemmas.List.{length-take-le, take-append-drop}
use Rattle.fd_site.specs.Writing.{BeginsOn, WritesOn}
use Rattle.fd_site.proofs.Writing.{begins_piece, begins_then, is_there, on_err, writes_piece, writes_then, written_to}
use Rattle.fd_imgfile.proofs.write.write_bytes.Goals as goal

pub write_file-requires-clause-there : goal.write_file-requires-clause-there
write_file-requires-clause-there g c =
    let i = c.loop-done.invariant in
    let place = length-take-le c.loop-done.done c.args.bytes.now i.within in
    is_there c.args.name.now (c.args.at + c.loop-done.done) _
    (written_to c.args.name.now c.args.at (c.args.at + c.loop-done.done) (take c.loop-done.done c.args.bytes.now) _ _ c.requires.made i.written (omega (arith, place)))

pub returns-in_err-write_file-clause-begun : goal.returns-in_err-write_file-clause-begun
returns-in_err-write_file-clause-begun g c =
    let i = c.loop-done.invariant in
    let done : ℕ = c.loop-done.done in
    let bytes : List ℕ = c.args.bytes.now in
    let place = length-take-le done bytes i.within in
    on_err c.from_residual.result
    (subst (λ (l : List ℕ). BeginsOn c.args.name.now c.args.at l (g.S.Site.seen c.args.site.now).told
    (g.S.Site.seen c.write_file.new.self).told) (take-append-drop done bytes)
    (begins_then c.args.name.now c.args.at (c.args.at + done) (take done bytes) (drop done bytes) _ _ _ (omega (arith, place)) i.written
    (begins_piece c.args.name.now (c.args.at + done) (drop done bytes) _ _ c.in_err-write_file.ensures.err)))

pub loop-done-preserved : goal.loop-done-preserved
loop-done-preserved g c =
    let i = c.loop-done.invariant in
    let done : ℕ = c.loop-done.done in
    let count : ℕ = c.min-count.result in
    let bytes : List ℕ = c.args.bytes.now in
    let place = length-take-le done bytes i.within in
    let piece : List ℕ = slice_range bytes done (done + count) in
    let more : take done bytes ++ piece ≡ take (done + count) bytes =
    ap (λ n. take done bytes ++ take n (drop done bytes)) (omega arith) ∙ sym (take-add done count bytes) in
    record {
      within = omega arith;
      written =
          subst (λ (l : List ℕ). WritesOn c.args.name.now c.args.at l (g.S.Site.seen c.args.site.now).told (g.S.Site.seen c.write_file.new.self).told) more
          (writes_then c.args.name.now c.args.at (c.args.at + done) (take done bytes) piece _ _ _ (omega (arith, place)) i.written
          (writes_piece c.args.name.now (c.args.at + done) piece _ _ c.in_ok-write_file.ensures.ok));
      frame = record {
        size = c.in_ok-write_file.ensures.frame.size ∙ i.frame.size;
        block = c.in_ok-write_file.ensures.frame.block ∙ i.frame.block;
        count = omega (arith, c.in_ok-write_file.ensures.frame.count, i.frame.count);
      };
    }
