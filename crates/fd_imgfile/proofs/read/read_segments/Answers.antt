-- One more segment is read.
use Rattle.std.proofs.Common.{◌≡◌, ℕ, ◌+◌, ◌<◌, ◌≤◌, ◌^◌, List, [], ◌∷◌, ◌++◌, Option, length, map, get_or, slice_range, refl, subst, ◌∙◌, ap, arith}
use Rattle.std.specs.List.{concat, flat_map, sum_by}
use Rattle.std.proofs.lemmas.List.{get_or_default, length_push}
use Rattle.std.proofs.lemmas.List.Elements.{All-push}
use Rattle.std.proofs.lemmas.List.Sums.{sum_by_more, sum_by_more_le}
use Rattle.fd_image.specs.declared.parts.Seg.{Seg}
use Rattle.fd_site.specs.Contents.{Contents}
use Rattle.fd_imgfile.specs.File.{OfFile}
use Rattle.fd_imgfile.specs.Front.{second}
use Rattle.fd_imgfile.specs.Spelling.{seg_bytes}
use Rattle.fd_imgfile.proofs.Files.{IsFileAnd-inside, OfFile-both}
use Rattle.fd_imgfile.proofs.Segments.{memory_more, table_more}
use Rattle.fd_imgfile.proofs.read.read_segments.Goals as goal

pub read_region-requires-clause-inside : goal.read_region-requires-clause-inside
read_region-requires-clause-inside g c =
    let table : List (ℕ × ℕ) = c.args.table.now in
    let i : ℕ = c.loop-pair.pair-index in
    let within : c.loop-pair.next + (get_or table i (0, 0)).1 ≤ c.args.at + sum_by second table = omega (arith, sum_by_more_le second table i (0, 0) (omega arith), c.loop-pair.invariant.next) in
    IsFileAnd-inside _ _ _ (c.loop-pair.next + (get_or table i (0, 0)).1) (c.args.at + sum_by second table) c.requires.inside within c.loop-pair.invariant.untouched.told

pub read_region-requires-clause-fits : goal.read_region-requires-clause-fits
read_region-requires-clause-fits g c =
    let table : List (ℕ × ℕ) = c.args.table.now in
    omega (arith, sum_by_more_le second table c.loop-pair.pair-index (0, 0) (omega arith), c.loop-pair.invariant.next, c.requires.fits)

pub overflow_add-next : goal.overflow_add-next
overflow_add-next g c =
    let table : List (ℕ × ℕ) = c.args.table.now in
    omega (arith, sum_by_more_le second table c.loop-pair.pair-index (0, 0) (omega arith), c.loop-pair.invariant.next, c.requires.fits)

pub loop-pair-preserved : goal.loop-pair-preserved
loop-pair-preserved g c =
    let table : List (ℕ × ℕ) = c.args.table.now in
    let i : ℕ = c.loop-pair.pair-index in
    let pair : ℕ × ℕ = get_or table i (0, 0) in
    let next : ℕ = c.loop-pair.next in
    let segs : List Seg = c.loop-pair.segs.items in
    let seg : Seg = record { start = pair.0; bytes = c.in_ok-bytes.bytes } in
    let pushed : c.push.new.self.items ≡ segs ++ seg ∷ [] = c.in-Ok.ensures.items in
    let len_is : length seg.bytes ≡ pair.1 = c.in_ok-bytes.ensures.len in
    let was : OfFile (g.S.Site.seen c.args.site.now).told c.args.name.now (λ file. seg.bytes ≡ slice_range file next (next + pair.1)) =
    subst (λ (t : Option Contents). OfFile t c.args.name.now
    (λ file. seg.bytes ≡ slice_range file next (next + pair.1))) c.loop-pair.invariant.untouched.told c.in_ok-bytes.ensures.bytes in
    record {
      next = omega (arith, sum_by_more second table i (0, 0) (omega arith), c.loop-pair.invariant.next);
      places = rw pushed (omega (arith, length_push segs seg, c.loop-pair.invariant.places));
      table_so_far = ap (flat_map seg_bytes) pushed ∙ table_more segs seg table i pair (omega arith) (get_or_default table i (0, 0) pair (omega arith)) refl len_is c.loop-pair.invariant.table_so_far;
      memory =
          OfFile-both _ _ (λ file. concat (map (λ seg. seg.bytes) segs) ≡ slice_range file c.args.at next) (λ file. seg.bytes ≡ slice_range file next (next + pair.1))
          (λ file. concat (map (λ seg. seg.bytes) c.push.new.self.items) ≡ slice_range file c.args.at (next + pair.1)) c.loop-pair.invariant.memory was
          (λ f before read. ap (λ (l : List Seg). concat (map (λ seg. seg.bytes) l)) pushed ∙ memory_more f segs seg c.args.at next (next + pair.1) (omega (arith, c.loop-pair.invariant.next))
          (omega arith) before read);
      sizes = rw pushed (All-push (λ seg. length seg.bytes < 2 ^ 64) segs seg c.loop-pair.invariant.sizes (omega (arith, len_is)));
      untouched = record {
        told = c.in_ok-bytes.ensures.untouched.told ∙ c.loop-pair.invariant.untouched.told;
        size = c.in_ok-bytes.ensures.untouched.size ∙ c.loop-pair.invariant.untouched.size;
        block = c.in_ok-bytes.ensures.untouched.block ∙ c.loop-pair.invariant.untouched.block;
        count = omega (arith, c.in_ok-bytes.ensures.untouched.count, c.loop-pair.invariant.untouched.count);
      };
    }
