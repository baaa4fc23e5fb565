-- One more buffer of wanted pages is written.
use Rattle.std.proofs.Common.{◌≡◌, ◌+◌, ◌-◌, ◌*◌, ◌≤◌, ◌++◌, ℕ, List, length, take, drop, slice_range, subst, sym, ap, ◌∙◌, arith}
use Rattle.std.proofs.Math.Seq.{take-add}
use Rattle.std.proofs.lemmas.List.{length-take-le}
use Rattle.std.proofs.lemmas.List.Concat.{flat_map-append}
use Rattle.std.proofs.lemmas.List.Edits.{length-between}
use Rattle.std.specs.List.{flat_map}
use Rattle.fd_imgfile.specs.Spelling.{u64}
use Rattle.fd_site.specs.Writing.{BeginsOn, WritesOn}
use Rattle.fd_imgfile.proofs.Unfaulted.{eights}
use Rattle.fd_site.proofs.Writing.{begins_first, begins_then, items_split, on_err, writes_then, written_to}
use Rattle.fd_imgfile.proofs.write.write_wanted.Goals as goal

-- the first numbers take eight bytes each
first_length : (numbers : List ℕ) (n : ℕ) → n ≤ length numbers → length (flat_map u64 (take n numbers)) ≡ 8 * n
first_length numbers n within = eights (take n numbers) ∙ ap (λ k. 8 * k) (length-take-le n numbers within)

-- and so do the next, which stand behind them
next_length : (numbers : List ℕ) (n count : ℕ) → n + count ≤ length numbers → length (flat_map u64 (slice_range numbers n (n + count))) ≡ 8 * count
next_length numbers n count within = eights (slice_range numbers n (n + count)) ∙ omega (arith, length-between numbers n (n + count) within)

next_behind : (numbers : List ℕ) (n count : ℕ) → flat_map u64 (take n numbers) ++ flat_map u64 (slice_range numbers n (n + count)) ≡ flat_map u64 (take (n + count) numbers)
next_behind numbers n count =
    let same : n + count - n ≡ count = omega arith in
    sym (flat_map-append u64 (take n numbers) (slice_range numbers n (n + count)))
    ∙ ap (λ k. flat_map u64 (take n numbers ++ take k (drop n numbers))) same ∙ ap (flat_map u64) (sym (take-add n count numbers))

pub write_bytes-requires-clause-made : goal.write_bytes-requires-clause-made
write_bytes-requires-clause-made g c =
    let i = c.loop-done.invariant in
    written_to c.args.name.now c.args.at c.loop-done.next (flat_map u64 (take c.loop-done.done c.args.wanted.now)) _ _ c.requires.made i.written
    (omega (arith, i.next, first_length c.args.wanted.now c.loop-done.done i.within))

pub write_bytes-requires-clause-fits : goal.write_bytes-requires-clause-fits
write_bytes-requires-clause-fits g c =
    let within : c.loop-done.done + c.min-count.result ≤ length c.args.wanted.now = omega (arith, c.min-count.ensures, c.loop-done.invariant.within) in
    let filled = ap length (c.filled.ensures ∙ c.numbers_page-page.ensures) in
    omega (arith, filled, next_length c.args.wanted.now c.loop-done.done c.min-count.result within, c.loop-done.invariant.next, c.requires.fits, within)

pub returns-in_err-next-clause-begun : goal.returns-in_err-next-clause-begun
returns-in_err-next-clause-begun g c =
    let i = c.loop-done.invariant in
    let name : List ℕ = c.args.name.now in
    let at : ℕ = c.args.at in
    let done : ℕ = c.loop-done.done in
    let count : ℕ = c.min-count.result in
    let wanted : List ℕ = c.args.wanted.now in
    let old = (g.S.Site.seen c.args.site.now).told in
    let new = (g.S.Site.seen c.write_bytes.new.site).told in
    on_err c.from_residual.result (subst (λ (l : List ℕ). BeginsOn name at l old new) (sym (items_split u64 wanted (done + count)))
    (begins_first name at (flat_map u64 (take (done + count) wanted)) (flat_map u64 (drop (done + count) wanted)) old new
    (subst (λ (l : List ℕ). BeginsOn name at l old new) (next_behind wanted done count)
    (begins_then name at c.loop-done.next (flat_map u64 (take done wanted)) (flat_map u64 (slice_range wanted done (done + count))) old _ new
    (omega (arith, i.next, first_length wanted done i.within)) i.written
    (subst (λ (l : List ℕ). BeginsOn name c.loop-done.next l (g.S.Site.seen c.loop-done.site).told new) (c.filled.ensures ∙ c.numbers_page-page.ensures) c.in_err-next.ensures.begun)))))

pub loop-done-preserved : goal.loop-done-preserved
loop-done-preserved g c =
    let i = c.loop-done.invariant in
    let name : List ℕ = c.args.name.now in
    let at : ℕ = c.args.at in
    let done : ℕ = c.loop-done.done in
    let count : ℕ = c.min-count.result in
    let wanted : List ℕ = c.args.wanted.now in
    let old = (g.S.Site.seen c.args.site.now).told in
    let new = (g.S.Site.seen c.write_bytes.new.site).told in
    let within : done + count ≤ length wanted = omega (arith, c.min-count.ensures, i.within) in
    let filled = ap length (c.filled.ensures ∙ c.numbers_page-page.ensures) in
    record {
      within = within;
      next = omega (arith, c.in_ok-next.ensures.end, filled, next_length wanted done count within, i.next);
      written =
          subst (λ (l : List ℕ). WritesOn name at l old new) (next_behind wanted done count)
          (writes_then name at c.loop-done.next (flat_map u64 (take done wanted)) (flat_map u64 (slice_range wanted done (done + count))) old _ new
          (omega (arith, i.next, first_length wanted done i.within)) i.written
          (subst (λ (l : List ℕ). WritesOn name c.loop-done.next l (g.S.Site.seen c.loop-done.site).told new) (c.filled.ensures ∙ c.numbers_page-page.ensures) c.in_ok-next.ensures.whole));
      frame = record {
        size = c.in_ok-next.ensures.frame.size ∙ i.frame.size;
        block = c.in_ok-next.ensures.frame.block ∙ i.frame.block;
        count = omega (arith, c.in_ok-next.ensures.frame.count, i.frame.count);
      };
    }
