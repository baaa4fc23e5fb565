-- The page has one byte of the bitmap after another.
use Rattle.std.proofs.Common.{◌≡◌, ◌∙◌, ◌+◌, ◌*◌, [], ◌∷◌, ◌++◌, ap, sym, arith}
use Rattle.fd_dump.proofs.Made.{made_of, made-more}
use Rattle.fd_dump.proofs.SectionPages.{bitmap_byte, bitmap-page}
use Rattle.fd_dump.proofs.sections.bitmap_page.Goals as goal

pub loop-place-preserved : goal.loop-place-preserved
loop-place-preserved c = record {
  so_far = c.put_u8.ensures.bytes
      ∙ ap (λ byte. c.loop-place.page ++ byte ∷ []) c.byte.ensures
      ∙ ap (λ l. l ++ bitmap_byte c.args.map.now (4096 * c.args.index + c.loop-place.place)) c.loop-place.invariant.so_far
      ∙ sym (made-more (bitmap_byte c.args.map.now) (4096 * c.args.index) c.loop-place.place);
  long = omega (arith, c.put_u8.ensures.len, c.loop-place.invariant.long);
}

pub returns : goal.returns
returns c =
    let end : c.loop-place.place ≡ 4096 = omega arith in
    c.bytes.ensures.full (c.loop-place.invariant.long ∙ end)
    ∙ c.loop-place.invariant.so_far
    ∙ ap (made_of (bitmap_byte c.args.map.now) (4096 * c.args.index)) end
    ∙ sym (bitmap-page c.args.map.now c.args.index c.requires.within)
