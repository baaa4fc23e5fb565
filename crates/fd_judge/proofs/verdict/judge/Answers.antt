use Rattle.std.proofs.Common.{sym, ◌∙◌, ap}
use Rattle.fd_site.specs.Contents.{part_of}
use Rattle.fd_part.specs.Partition.{sector_at, leading_place, dump_place}
use Rattle.fd_judge.specs.Verdict.{judged, by_leading, first_difference}
use Rattle.fd_judge.specs.declared.verdict.Verdict.TheVariants.{Refused}
use Rattle.fd_judge.proofs.Judged.{trailing_read, judged_undecoded, judged_with_reason, judged_by_leading}
use Rattle.fd_judge.proofs.verdict.judge.Goals as goal

pub returns-in-Err-clause-verdict : goal.returns-in-Err-clause-verdict
returns-in-Err-clause-verdict g c told is =
    let read = trailing_read _ _ _ _ (g.met.S.Site.told_size _ told is) c.size-size.ensures c.from-block_bytes.ensures (c.in_ok-read_part.ensures.bytes told is) c.take_sector-seen.ensures in
    ap Refused c.from.ensures ∙ judged_undecoded read c.in-Err.fault (sym c.in-Err.ensures) ∙ ap (λ b. judged (part_of told) b c.args.force) c.block-block.ensures

pub returns-in-Some-clause-verdict : goal.returns-in-Some-clause-verdict
returns-in-Some-clause-verdict g c told is =
    let read = trailing_read _ _ _ _ (g.met.S.Site.told_size _ told is) c.size-size.ensures c.from-block_bytes.ensures (c.in_ok-read_part.ensures.bytes told is) c.take_sector-seen.ensures in
    judged_with_reason read c.in-Ok.header c.in-Some.why (sym c.in-Ok.ensures) (sym c.in-Some.ensures.first) ∙ ap (λ b. judged (part_of told) b c.args.force) c.block-block.ensures

pub returns-in-Some-difference-clause-verdict : goal.returns-in-Some-difference-clause-verdict
returns-in-Some-difference-clause-verdict g c told is =
    let read = trailing_read _ _ _ _ (g.met.S.Site.told_size _ told is) c.size-size.ensures c.from-block_bytes.ensures (c.in_ok-read_part.ensures.bytes told is) c.take_sector-seen.ensures in
    let h = c.in-Ok.header in
    let leading = c.in_ok-read_part-2.ensures.bytes told (c.in_ok-read_part.ensures.untouched.told ∙ is)
    ∙ ap (λ n. sector_at (part_of told) (leading_place c.size-size.result n h.dumpextent)) c.from-block_bytes.ensures in
    ap (by_leading h (dump_place c.size-size.result c.block-block.result h.dumpextent) c.read_part.new.out) c.in-Some-difference.ensures.place
    ∙ judged_by_leading read h c.read_part-2.new.out (sym c.in-Ok.ensures) (sym c.in-None.ensures.first) leading
    ∙ ap (λ b. judged (part_of told) b c.args.force) c.block-block.ensures

pub returns-in-None-difference-clause-verdict : goal.returns-in-None-difference-clause-verdict
returns-in-None-difference-clause-verdict g c told is =
    let read = trailing_read _ _ _ _ (g.met.S.Site.told_size _ told is) c.size-size.ensures c.from-block_bytes.ensures (c.in_ok-read_part.ensures.bytes told is) c.take_sector-seen.ensures in
    let h = c.in-Ok.header in
    let leading = c.in_ok-read_part-2.ensures.bytes told (c.in_ok-read_part.ensures.untouched.told ∙ is)
    ∙ ap (λ n. sector_at (part_of told) (leading_place c.size-size.result n h.dumpextent)) c.from-block_bytes.ensures in
    ap (by_leading h (dump_place c.size-size.result c.from-block_bytes.result h.dumpextent) c.read_part.new.out) c.in-None-difference.ensures.place
    ∙ ap (λ n. by_leading h (dump_place c.size-size.result n h.dumpextent) c.read_part.new.out (first_difference c.take_sector-seen.result c.read_part-2.new.out)) c.from-block_bytes.ensures
    ∙ judged_by_leading read h c.read_part-2.new.out (sym c.in-Ok.ensures) (sym c.in-None.ensures.first) leading
    ∙ ap (λ b. judged (part_of told) b c.args.force) c.block-block.ensures
