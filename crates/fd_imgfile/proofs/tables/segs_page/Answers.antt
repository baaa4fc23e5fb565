-- One more segment is put.
use Rattle.std.proofs.Common.{◌≡◌, ◌++◌, ℕ, List, length, sym, ◌∙◌, append_assoc, arith}
use Rattle.fd_image.specs.declared.parts.Seg.{Seg}
use Rattle.fd_imgfile.specs.Spelling.{seg_bytes, u64}
use Rattle.fd_site.proofs.Writing.{items_more}
use Rattle.fd_imgfile.proofs.tables.segs_page.Goals as goal

pub loop-seg-preserved : goal.loop-seg-preserved
loop-seg-preserved c =
    let segs : List Seg = c.args.segs.now in
    let i : ℕ = c.loop-seg.seg-index in
    let seg : Seg = c.seg-item.result in
    let page : List ℕ = c.loop-seg.page in
    let both : c.put_u64_le-in-loop-seg.new.self ≡ page ++ seg_bytes seg =
    c.put_u64_le-in-loop-seg.ensures.bytes ∙ (λ k. c.put_u64_le.ensures.bytes k ++ u64 (c.len.ensures.value k)) ∙ append_assoc page (u64 seg.start) (u64 (length seg.bytes)) in
    record {
      put = both ∙ (λ k. c.loop-seg.invariant.put k ++ seg_bytes (c.seg-item.is k)) ∙ sym (items_more seg_bytes segs i seg (omega arith));
      len = omega (arith, c.put_u64_le.ensures.len, c.put_u64_le-in-loop-seg.ensures.len, c.loop-seg.invariant.len);
    }
