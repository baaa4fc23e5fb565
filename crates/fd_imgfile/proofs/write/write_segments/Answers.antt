-- One more segment is written.
use Rattle.std.proofs.Common.{◌≡◌, ◌+◌, ℕ, List, length, take, subst, ap, ◌∙◌, arith}
use Rattle.std.specs.List.{flat_map}
use Rattle.fd_image.specs.declared.parts.Seg.{Seg}
use Rattle.fd_image.proofs.Slices.{slice-all}
use Rattle.fd_site.specs.Writing.{BeginsOn, WritesOn}
use Rattle.fd_site.proofs.Writing.{item_begun, item_ends, item_fits, item_written, on_err, written_to}
use Rattle.fd_imgfile.proofs.write.write_segments.Goals as goal

abbrev bytes_of : Seg → List ℕ
bytes_of seg = seg.bytes

pub write_bytes-requires-clause-made : goal.write_bytes-requires-clause-made
write_bytes-requires-clause-made g c =
    let i = c.loop-seg.invariant in
    written_to c.args.name.now c.args.at c.loop-seg.next (flat_map bytes_of (take c.loop-seg.seg-index c.args.segs.now)) _ _ c.requires.made i.written i.next

pub write_bytes-requires-clause-fits : goal.write_bytes-requires-clause-fits
write_bytes-requires-clause-fits g c =
    let segs : List Seg = c.args.segs.now in
    let seg : Seg = c.seg-item.result in
    let all : c.view.result.now ≡ seg.bytes = c.view.ensures ∙ slice-all seg.bytes (0 + c.len.result) (omega (arith, c.len.ensures.value)) in
    omega (
      arith,
      ap length all,
      item_fits c.args.name.now bytes_of segs c.loop-seg.seg-index seg c.args.at c.loop-seg.next c.loop-seg-test.true
          c.seg-item.is c.loop-seg.invariant.next c.requires.fits,
    )

pub returns-in_err-next-clause-begun : goal.returns-in_err-next-clause-begun
returns-in_err-next-clause-begun g c =
    let segs : List Seg = c.args.segs.now in
    let seg : Seg = c.seg-item.result in
    let all : c.view.result.now ≡ seg.bytes = c.view.ensures ∙ slice-all seg.bytes (0 + c.len.result) (omega (arith, c.len.ensures.value)) in
    on_err c.from_residual.result
    (item_begun c.args.name.now bytes_of segs c.loop-seg.seg-index seg c.args.at c.loop-seg.next c.loop-seg-test.true c.seg-item.is c.loop-seg.invariant.next _ _ _ c.loop-seg.invariant.written
    (subst (λ (l : List ℕ). BeginsOn c.args.name.now c.loop-seg.next l (g.S.Site.seen c.loop-seg.site).told (g.S.Site.seen c.write_bytes.new.site).told) all c.in_err-next.ensures.begun))

pub loop-seg-preserved : goal.loop-seg-preserved
loop-seg-preserved g c =
    let segs : List Seg = c.args.segs.now in
    let seg : Seg = c.seg-item.result in
    let i : ℕ = c.loop-seg.seg-index in
    let all : c.view.result.now ≡ seg.bytes = c.view.ensures ∙ slice-all seg.bytes (0 + c.len.result) (omega (arith, c.len.ensures.value)) in
    let frame = c.loop-seg.invariant.frame in
    record {
      next =
          item_ends c.args.name.now bytes_of segs i seg c.args.at c.loop-seg.next c.loop-seg-test.true c.seg-item.is c.loop-seg.invariant.next c.in_ok-next.next
          (c.in_ok-next.ensures.end ∙ ap (λ (l : List ℕ). c.loop-seg.next + length l) all);
      written =
          item_written c.args.name.now bytes_of segs i seg c.args.at c.loop-seg.next c.loop-seg-test.true c.seg-item.is c.loop-seg.invariant.next _ _ _ c.loop-seg.invariant.written
          (subst (λ (l : List ℕ). WritesOn c.args.name.now c.loop-seg.next l (g.S.Site.seen c.loop-seg.site).told (g.S.Site.seen c.write_bytes.new.site).told) all c.in_ok-next.ensures.whole);
      frame = record {
        size = c.in_ok-next.ensures.frame.size ∙ frame.size;
        block = c.in_ok-next.ensures.frame.block ∙ frame.block;
        count = omega (arith, c.in_ok-next.ensures.frame.count, frame.count);
      };
    }
