-- The words lie in the first one's segment, or with it in none.
use Rattle.std.proofs.Common.{◌≡◌, ◌∙◌, ◌+◌, ◌*◌, Some, None, unwrap_or, ap, sym, arith}
use Rattle.fd_image.specs.Physical.{segment_of}
use Rattle.fd_image.proofs.SamePage.{segment-same_page, word_of-in}
use Rattle.fd_image.proofs.image.ImageMemory.alike.Goals as goal

pub returns-in-Some-clause-alike : goal.returns-in-Some-clause-alike
returns-in-Some-clause-alike c k below =
    let m = c.args.self.now in
    let pa = c.args.pa in
    let seg = c.in-Some.seg.now in
    let here : segment_of m pa ≡ Some seg = sym c.in-Some.ensures.value in
    let there = segment-same_page m pa (8 * k) c.in-Some.ensures.valid (omega (arith, c.words_alike.ensures.most, c.requires.page)) ∙ here in
    word_of-in m (pa + 8 * k) (Some seg) (omega (arith, c.requires.aligned)) there
    ∙ ap Some (c.words_alike.ensures.alike k below)
    ∙ sym (word_of-in m pa (Some seg) c.requires.aligned here)

pub returns-in-Some-clause-other : goal.returns-in-Some-clause-other
returns-in-Some-clause-other c below same =
    let m = c.args.self.now in
    let pa = c.args.pa in
    let seg = c.in-Some.seg.now in
    let count = c.words_alike.result in
    let here : segment_of m pa ≡ Some seg = sym c.in-Some.ensures.value in
    let there = segment-same_page m pa (8 * count) c.in-Some.ensures.valid (omega (arith, c.requires.page)) ∙ here in
    c.words_alike.ensures.other below (ap (λ o. unwrap_or o 0)
    (sym (word_of-in m (pa + 8 * count) (Some seg) (omega (arith, c.requires.aligned)) there) ∙ same ∙ word_of-in m pa (Some seg) c.requires.aligned here))

pub returns-in-None-clause-alike : goal.returns-in-None-clause-alike
returns-in-None-clause-alike c k below =
    let m = c.args.self.now in
    let pa = c.args.pa in
    let here : segment_of m pa ≡ None = sym c.in-None.ensures.value in
    let there = segment-same_page m pa (8 * k) c.in-None.ensures.valid (omega (arith, c.requires.page)) ∙ here in
    word_of-in m (pa + 8 * k) None (omega (arith, c.requires.aligned)) there ∙ sym (word_of-in m pa None c.requires.aligned here)
