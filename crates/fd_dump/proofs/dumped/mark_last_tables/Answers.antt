-- The first table that is left is marked, and then the later ones.
use Rattle.std.proofs.Common.{◌≡◌, ◌∙◌, ◌%◌, ◌≤◌, ◌+◌, ◌^◌, ap, sym, lit<}
use Rattle.std.specs.List.{list_any}
use Rattle.std.specs.Prelude.{◌==◌}
use Rattle.fd_dump.specs.Marks.{marked}
use Rattle.fd_image.proofs.Valid.{root_is_aligned}
use Rattle.fd_dump.proofs.Limits.{tall_of, window_divided}
use Rattle.fd_dump.proofs.Marking.{marked-each, marked-empty}
use Rattle.fd_dump.proofs.dumped.mark_last_tables.Goals as goal

pub tables-table-items-requires : goal.tables-table-items-requires
tables-table-items-requires g c =
    let levels = tall_of _ _ c.args.image.now c.requires.serves.level_count c.requires.serves.heights in
    let window = window_divided c.args.image.now c.root.ensures.valid in
    let aligned : c.root.result % 4096 ≡ 0 = ap (λ root. root % 4096) c.root.ensures.value ∙ root_is_aligned c.args.image.now c.root.ensures.valid in
    let end : c.args.windows.now.kernbase + c.args.windows.now.kernspan ≤ 2 ^ 64 = rw c.requires.windows window.end in
    (lit< tt, (aligned, (levels.some_levels, (levels.most_levels, end))))

pub loop-table-preserved : goal.loop-table-preserved
loop-table-preserved g c = record {
  marks = ap (λ bits. marked c.args.windows.now (λ address. list_any (λ table. table == address) c.next.new.self) c.args.avail.now bits) c.mark.ensures.marks
      ∙ sym (marked-each c.args.windows.now (λ address table. table == address) c.in-Some.table c.next.new.self c.args.avail.now c.loop-table.map)
      ∙ ap (λ left. marked c.args.windows.now (λ address. list_any (λ table. table == address) left) c.args.avail.now c.loop-table.map) (sym c.in-Some.ensures.steps)
      ∙ c.loop-table.invariant.marks;
  bits = c.mark.ensures.bits ∙ c.loop-table.invariant.bits;
}

pub returns-clause-marks : goal.returns-clause-marks
returns-clause-marks g c =
    sym (marked-empty c.args.windows.now (λ address table. table == address) c.args.avail.now c.loop-table.map)
    ∙ ap (λ left. marked c.args.windows.now (λ address. list_any (λ table. table == address) left) c.args.avail.now c.loop-table.map) (sym c.in-None.ensures.steps.0)
    ∙ c.loop-table.invariant.marks
