-- The page of each section is that of the minidump at its place.
use Rattle.std.proofs.Common.{◌∙◌, ◌-◌, ◌*◌, ◌/◌, length, ap, sym, arith}
use Rattle.fd_mini.specs.Page as mini
use Rattle.fd_dump.specs.Minidump.{filled, avail_bytes, bitmap_bytes}
use Rattle.fd_dump.specs.Sections.{nth_page}
use Rattle.fd_dump.proofs.Limits.{small, pages_few}
use Rattle.fd_dump.proofs.PlanPages.{header-page, msgbuf-page, ranges-page, ranges-within, bitmap-page, directory-within, directory_page-of}
use Rattle.fd_dump.proofs.Sizes.{length-bits}
use Rattle.fd_dump.proofs.plan.Plan.front_page.Goals as goal

pub avail_page-requires-clause-few : goal.avail_page-requires-clause-few
avail_page-requires-clause-few c = omega (arith, ap length c.avail.ensures.value, (small c.args.image.now c.avail.ensures.valid).pairs)

pub avail_page-requires-clause-within : goal.avail_page-requires-clause-within
avail_page-requires-clause-within c =
    omega (
      arith,
      ap length c.avail.ensures.value,
      ranges-within c.args.self.now c.args.image.now c.places-places.result (4096 * c.args.index) c.requires.plan c.places-places.ensures (omega arith) c.if-at-places-2.false c.if-at-places-3.true,
    )

pub bitmap_page-requires-clause-few : goal.bitmap_page-requires-clause-few
bitmap_page-requires-clause-few c =
    omega (arith, ap (λ plan. length plan.bits) c.self.view_is, ap length c.requires.plan.bits, length-bits c.args.image.now, pages_few c.args.image.now c.requires.plan.valid)

pub directory_page-requires : goal.directory_page-requires
directory_page-requires c =
    directory-within c.args.self.now c.args.image.now c.places-places.result (4096 * c.args.index) c.requires.plan c.places-places.ensures (omega arith) c.if-at-places-4.false
    (omega (arith, ap (λ places. places.pages) c.places-places.ensures, c.requires.front))

pub returns-then-at-places : goal.returns-then-at-places
returns-then-at-places c =
    c.write_header.ensures ∙ ap (λ plan. mini.page_of plan.header) c.self.view_is ∙ ap mini.page_of c.requires.plan.header
    ∙ sym (header-page c.args.self.now c.args.image.now c.places-places.result (4096 * c.args.index) c.requires.plan c.places-places.ensures (omega arith) c.if-at-places.true)

pub returns-then-at-places-2 : goal.returns-then-at-places-2
returns-then-at-places-2 c =
    c.filled_page.ensures
    ∙ ap (λ bytes. nth_page (filled bytes) ((4096 * c.args.index - c.places-places.result.msgbuf) / 4096)) (c.as_slice.ensures ∙ ap (λ texts. texts.msgbuf) c.texts.ensures.value)
    ∙ sym (msgbuf-page c.args.self.now c.args.image.now c.places-places.result (4096 * c.args.index) c.requires.plan c.places-places.ensures (omega arith) c.if-at-places.false c.if-at-places-2.true)

pub returns-then-at-places-3 : goal.returns-then-at-places-3
returns-then-at-places-3 c =
    c.avail_page.ensures
    ∙ ap (λ pairs. nth_page (filled (avail_bytes pairs)) ((4096 * c.args.index - c.places-places.result.avail) / 4096)) c.avail.ensures.value
    ∙ sym (ranges-page c.args.self.now c.args.image.now c.places-places.result (4096 * c.args.index) c.requires.plan c.places-places.ensures (omega arith) c.if-at-places-2.false c.if-at-places-3.true)

pub returns-then-at-places-4 : goal.returns-then-at-places-4
returns-then-at-places-4 c =
    c.bitmap_page.ensures
    ∙ ap (λ bits. nth_page (filled (bitmap_bytes bits)) ((4096 * c.args.index - c.places-places.result.bitmap) / 4096)) (ap (λ plan. plan.bits) c.self.view_is ∙ c.requires.plan.bits)
    ∙ sym (bitmap-page c.args.self.now c.args.image.now c.places-places.result (4096 * c.args.index) c.requires.plan c.places-places.ensures (omega arith) c.if-at-places-3.false c.if-at-places-4.true)

pub returns-else-at-places-4 : goal.returns-else-at-places-4
returns-else-at-places-4 c =
    c.directory_page.ensures
    ∙ sym (directory_page-of c.args.self.now c.args.image.now c.places-places.result (4096 * c.args.index) c.requires.plan c.places-places.ensures (omega arith) c.if-at-places-4.false
    (omega (arith, ap (λ places. places.pages) c.places-places.ensures, c.requires.front)))
