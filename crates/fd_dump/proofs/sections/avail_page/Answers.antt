-- The page has one pair after another.
use Rattle.std.proofs.Common.{◌≡◌, ◌∙◌, ◌+◌, ◌*◌, ◌++◌, ap, sym, arith}
use Rattle.fd_dump.specs.Sections.{pair_bytes, pair_at}
use Rattle.fd_dump.proofs.Made.{made_of, made-more}
use Rattle.fd_dump.proofs.SectionPages.{avail-page}
use Rattle.fd_dump.proofs.sections.avail_page.Goals as goal

pub loop-place-preserved : goal.loop-place-preserved
loop-place-preserved c = record {
  so_far = c.put_pair.ensures.bytes
      ∙ ap (λ pair. c.loop-place.page ++ pair_bytes pair) c.pair_at.ensures
      ∙ ap (λ l. l ++ pair_at c.args.pairs.now (256 * c.args.index + c.loop-place.place)) c.loop-place.invariant.so_far
      ∙ sym (made-more (pair_at c.args.pairs.now) (256 * c.args.index) c.loop-place.place);
  long = omega (arith, c.put_pair.ensures.len, c.loop-place.invariant.long);
}

pub returns : goal.returns
returns c =
    let end : c.loop-place.place ≡ 256 = omega arith in
    c.bytes.ensures.full (omega (arith, c.loop-place.invariant.long))
    ∙ c.loop-place.invariant.so_far
    ∙ ap (made_of (pair_at c.args.pairs.now) (256 * c.args.index)) end
    ∙ sym (avail-page c.args.pairs.now c.args.index c.requires.within)
