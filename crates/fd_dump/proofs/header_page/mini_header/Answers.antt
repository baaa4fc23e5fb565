-- The sizes fit their fields, because the image keeps its limits.
use Rattle.std.proofs.Common.{length, ap, arith}
use Rattle.fd_dump.proofs.Limits.{small, pages_few}
use Rattle.fd_dump.proofs.header_page.mini_header.Goals as goal

pub overflow_cast-result : goal.overflow_cast-result
overflow_cast-result c =
    let same = ap (λ texts. length texts.msgbuf) c.texts.ensures.value in
    let limits = small c.args.image.now c.texts.ensures.valid in
    omega arith

pub section_size-requires : goal.section_size-requires
section_size-requires c = omega (arith, pages_few c.args.image.now c.arch-arch.ensures.valid)

pub section_size-requires-2 : goal.section_size-requires-2
section_size-requires-2 c =
    let same = ap length c.avail.ensures.value in
    let limits = small c.args.image.now c.avail.ensures.valid in
    omega arith
