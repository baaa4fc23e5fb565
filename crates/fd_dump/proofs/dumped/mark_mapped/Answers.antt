-- The first leaf that is left is marked, and then the later ones.
use Rattle.std.proofs.Common.{◌≡◌, ◌∙◌, ◌%◌, ◌≤◌, ◌+◌, ◌^◌, ap, sym, lit<}
use Rattle.std.specs.List.{list_any}
use Rattle.fd_dump.specs.Dumped.{is_under_leaf}
use Rattle.fd_dump.specs.Marks.{marked}
use Rattle.fd_image.proofs.Valid.{root_is_aligned}
use Rattle.fd_dump.proofs.Limits.{tall_of, window_divided}
use Rattle.fd_dump.proofs.Marking.{marked-each, marked-empty}
use Rattle.fd_dump.proofs.dumped.mark_mapped.Goals as goal

pub leaves-leaf-items-requires : goal.leaves-leaf-items-requires
leaves-leaf-items-requires g c =
    let levels = tall_of _ _ c.args.image.now c.requires.serves.level_count c.requires.serves.heights in
    let window = window_divided c.args.image.now c.root.ensures.valid in
    let aligned : c.root.result % 4096 ≡ 0 = ap (λ root. root % 4096) c.root.ensures.value ∙ root_is_aligned c.args.image.now c.root.ensures.valid in
    let end : c.args.windows.now.kernbase + c.args.windows.now.kernspan ≤ 2 ^ 64 = rw c.requires.windows window.end in
    (lit< tt, (aligned, (levels.some_levels, (levels.most_levels, end))))

pub loop-leaf-preserved : goal.loop-leaf-preserved
loop-leaf-preserved g c = record {
  marks = ap (λ bits. marked c.args.windows.now (λ address. list_any (is_under_leaf address) c.next.new.self) c.args.avail.now bits) c.mark_leaf.ensures.marks
      ∙ sym (marked-each c.args.windows.now is_under_leaf c.in-Some.leaf c.next.new.self c.args.avail.now c.loop-leaf.map)
      ∙ ap (λ left. marked c.args.windows.now (λ address. list_any (is_under_leaf address) left) c.args.avail.now c.loop-leaf.map) (sym c.in-Some.ensures.steps)
      ∙ c.loop-leaf.invariant.marks;
  bits = c.mark_leaf.ensures.bits ∙ c.loop-leaf.invariant.bits;
}

pub returns-clause-marks : goal.returns-clause-marks
returns-clause-marks g c =
    sym (marked-empty c.args.windows.now is_under_leaf c.args.avail.now c.loop-leaf.map)
    ∙ ap (λ left. marked c.args.windows.now (λ address. list_any (is_under_leaf address) left) c.args.avail.now c.loop-leaf.map) (sym c.in-None.ensures.steps.0)
    ∙ c.loop-leaf.invariant.marks
