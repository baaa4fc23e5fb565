-- One more part is written.
use Rattle.std.proofs.Common.{◌≡◌, ◌<◌, ℕ, List, [], Bor, length, take, get_or, ◌∙◌, arith}
use Rattle.std.proofs.lemmas.List.{get_or_default}
use Rattle.std.specs.List.{flat_map}
use Rattle.fd_site.proofs.Writing.{item_begun, item_ends, item_fits, item_written, on_err, written_to}
use Rattle.fd_imgfile.proofs.write.write_parts.Goals as goal

-- what a part is written as, and the one that there is at a place
abbrev bytes_of : Bor (List ℕ) → List ℕ
bytes_of part = part.now

abbrev part_at : List (Bor (List ℕ)) → ℕ → Bor (List ℕ)
part_at parts i = get_or parts i (record { ref_ptr = (0, 0); now = [] })

part_is : (parts : List (Bor (List ℕ))) (i : ℕ) → i < length parts → part_at parts i ≡ get_or parts i (part_at parts i)
part_is parts i within = get_or_default parts i (record { ref_ptr = (0, 0); now = [] }) (part_at parts i) within

pub write_bytes-requires-clause-made : goal.write_bytes-requires-clause-made
write_bytes-requires-clause-made g c =
    let i = c.loop-part.invariant in
    written_to c.args.name.now c.args.at c.loop-part.next (flat_map bytes_of (take c.loop-part.part-index c.args.parts.now)) _ _ c.requires.made i.written i.next

pub write_bytes-requires-clause-fits : goal.write_bytes-requires-clause-fits
write_bytes-requires-clause-fits g c =
    let parts : List (Bor (List ℕ)) = c.args.parts.now in
    let i : ℕ = c.loop-part.part-index in
    item_fits c.args.name.now bytes_of parts i (part_at parts i) c.args.at c.loop-part.next c.loop-part-test.true (part_is parts i c.loop-part-test.true) c.loop-part.invariant.next c.requires.fits

pub returns-in_err-next-clause-begun : goal.returns-in_err-next-clause-begun
returns-in_err-next-clause-begun g c =
    let parts : List (Bor (List ℕ)) = c.args.parts.now in
    let i : ℕ = c.loop-part.part-index in
    on_err c.from_residual.result
    (item_begun c.args.name.now bytes_of parts i (part_at parts i) c.args.at c.loop-part.next c.loop-part-test.true (part_is parts i c.loop-part-test.true) c.loop-part.invariant.next
    _ _ _ c.loop-part.invariant.written c.in_err-next.ensures.begun)

pub loop-part-preserved : goal.loop-part-preserved
loop-part-preserved g c =
    let parts : List (Bor (List ℕ)) = c.args.parts.now in
    let i : ℕ = c.loop-part.part-index in
    let is = part_is parts i c.loop-part-test.true in
    let frame = c.loop-part.invariant.frame in
    record {
      next = item_ends c.args.name.now bytes_of parts i (part_at parts i) c.args.at c.loop-part.next c.loop-part-test.true is c.loop-part.invariant.next c.in_ok-next.next c.in_ok-next.ensures.end;
      written =
          item_written c.args.name.now bytes_of parts i (part_at parts i) c.args.at c.loop-part.next c.loop-part-test.true is c.loop-part.invariant.next
          _ _ _ c.loop-part.invariant.written c.in_ok-next.ensures.whole;
      frame = record {
        size = c.in_ok-next.ensures.frame.size ∙ frame.size;
        block = c.in_ok-next.ensures.frame.block ∙ frame.block;
        count = omega (arith, c.in_ok-next.ensures.frame.count, frame.count);
      };
    }
