-- Each run adds its run of bits; those before and behind have none of the pages.
use Rattle.std.proofs.Common.{◌≡◌, ℕ, ◌+◌, List, Bool, Some, get_or, length, take, refl, sym, ◌∙◌, ap, arith}
use Rattle.std.specs.Prelude.{slice_get}
use Rattle.std.proofs.lemmas.Option.{slice_get-get_or}
use Rattle.fd_bitmap.specs.declared.avail.Run.{Run}
use Rattle.fd_bitmap.specs.Bits.{with_run}
use Rattle.fd_bitmap.specs.Pages.{is_among, joined}
use Rattle.fd_bitmap.specs.Runs.{run_pages, bit_from, count_among}
use Rattle.fd_bitmap.proofs.LaidRuns.{within}
use Rattle.fd_bitmap.proofs.JoinedRuns.{joined-before, joined-more, joined-up_to, length-joined, room, no_run}
use Rattle.fd_bitmap.proofs.avail.set_in_runs.Goals as goal

pub loop-index-init : goal.loop-index-init
loop-index-init c = record {
  bits =
      sym (joined-before c.args.first c.args.end c.args.runs.now c.first_to_meet-start.result c.args.map.now c.requires.laid c.requires.bits
      c.first_to_meet-start.ensures.within c.first_to_meet-start.ensures.before);
  len = refl;
}

pub returns-then-end-run-clause-bits : goal.returns-then-end-run-clause-bits
returns-then-end-run-clause-bits c =
    let runs : List Run = c.args.runs.now in
    let index : ℕ = c.loop-index.index in
    let at : slice_get runs index ≡ Some (get_or runs index no_run) = slice_get-get_or runs index no_run c.loop-index-test.true in
    c.loop-index.invariant.bits
    ∙ sym (joined-up_to c.args.first c.args.end runs index (get_or runs index no_run) c.args.map.now c.requires.laid c.requires.bits at c.if-end-run.true)

pub set_in_run-requires-clause-low : goal.set_in_run-requires-clause-low
set_in_run-requires-clause-low c =
    let runs : List Run = c.args.runs.now in
    let index : ℕ = c.loop-index.index in
    (within 0 0 runs index (get_or runs index no_run) c.requires.laid (slice_get-get_or runs index no_run c.loop-index-test.true)).below

pub set_in_run-requires-clause-pages : goal.set_in_run-requires-clause-pages
set_in_run-requires-clause-pages c =
    let runs : List Run = c.args.runs.now in
    let index : ℕ = c.loop-index.index in
    (within 0 0 runs index (get_or runs index no_run) c.requires.laid (slice_get-get_or runs index no_run c.loop-index-test.true)).ends

pub set_in_run-requires-clause-bits : goal.set_in_run-requires-clause-bits
set_in_run-requires-clause-bits c =
    let runs : List Run = c.args.runs.now in
    let index : ℕ = c.loop-index.index in
    omega (arith, c.loop-index.invariant.len, c.requires.bits, room 0 0 runs index (get_or runs index no_run) c.requires.laid (slice_get-get_or runs index no_run c.loop-index-test.true))

pub loop-index-preserved : goal.loop-index-preserved
loop-index-preserved c =
    let runs : List Run = c.args.runs.now in
    let index : ℕ = c.loop-index.index in
    let run : Run = get_or runs index no_run in
    let old : List Bool = c.args.map.now in
    let at : slice_get runs index ≡ Some run = slice_get-get_or runs index no_run c.loop-index-test.true in
    let bits : c.set_in_run.new.map ≡ joined (is_among c.args.first c.args.end) (run_pages (take (index + 1) runs)) old =
    c.set_in_run.ensures
    ∙ ap (λ l. with_run l (bit_from c.args.first run) (count_among c.args.first c.args.end run)) c.loop-index.invariant.bits
    ∙ sym (joined-more c.args.first c.args.end runs index run old c.requires.laid at (omega (arith, c.requires.bits, room 0 0 runs index run c.requires.laid at))) in
    record {
      bits = bits;
      len = ap length bits ∙ length-joined (is_among c.args.first c.args.end) (run_pages (take (index + 1) runs)) old;
    }
