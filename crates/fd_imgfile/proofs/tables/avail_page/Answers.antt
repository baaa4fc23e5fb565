-- One more pair is put.
use Rattle.std.proofs.Common.{◌≡◌, ◌++◌, ℕ, List, get_or, sym, ◌∙◌, append_assoc, arith}
use Rattle.fd_imgfile.specs.Spelling.{avail_bytes, u64}
use Rattle.fd_site.proofs.Writing.{items_more}
use Rattle.fd_imgfile.proofs.tables.avail_page.Goals as goal

pub loop-pair-preserved : goal.loop-pair-preserved
loop-pair-preserved c =
    let avail : List (ℕ × ℕ) = c.args.avail.now in
    let i : ℕ = c.loop-pair.pair-index in
    let pair : ℕ × ℕ = get_or avail i (0, 0) in
    let page : List ℕ = c.loop-pair.page in
    let both : c.put_u64_le-in-loop-pair.new.self ≡ page ++ avail_bytes pair =
    c.put_u64_le-in-loop-pair.ensures.bytes ∙ (λ k. c.put_u64_le.ensures.bytes k ++ u64 pair.1) ∙ append_assoc page (u64 pair.0) (u64 pair.1) in
    record {
      put = both ∙ (λ k. c.loop-pair.invariant.put k ++ avail_bytes pair) ∙ sym (items_more avail_bytes avail i (0, 0) (omega arith));
      len = omega (arith, c.put_u64_le.ensures.len, c.put_u64_le-in-loop-pair.ensures.len, c.loop-pair.invariant.len);
    }
