-- The entries that are like an absent one are absent.
use Rattle.std.proofs.Common.{◌≡◌, ◌∙◌, ℕ, ◌+◌, ◌-◌, ◌*◌, Option, ap, sym, arith, inl, inr}
use Rattle.std.proofs.lemmas.Bool.{cases_lt}
use Rattle.fd_walk.specs.PageTables.{kind_of_entry}
use Rattle.fd_walk.proofs.walker.Walker.past_absent_entries.Goals as goal

pub loop-index-preserved : goal.loop-index-preserved
loop-index-preserved g c =
    let index : ℕ = c.loop-index.index in
    let table : ℕ = c.args.place.table in
    let word_at = g.M.Memory.word_at c.args.mem.now in
    let kind_of = λ (word : Option ℕ). kind_of_entry g.E.Entry.kind_of c.args.place.height word in
    let so_far = c.loop-index.invariant in
    let known = c.alike-index.ensures in
    record {
      from = omega (arith, so_far.from);
      to = omega (arith, known.most, c.loop-index-test.true);
      absent = λ k from to.
          elim (cases_lt k index) [
            | inl before ↦ so_far.absent k from before
            | inr behind ↦
                let place : table + 8 * k ≡ table + 8 * index + 8 * (k - index) = omega arith in
                ap (λ pa. kind_of (word_at pa)) place
                ∙ ap kind_of (known.alike (k - index) (omega arith))
                ∙ ap kind_of (sym c.word_near.ensures)
                ∙ sym c.in-Absent.ensures.kind
          ];
    }
