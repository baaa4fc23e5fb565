-- Each segment's bytes end below 2^64.
use Rattle.std.proofs.Common.{◌≡◌, ℕ, ◌+◌, ◌<◌, ◌≤◌, List, length, get_or, drop, max, ap, arith}
use Rattle.std.proofs.lemmas.List.{drop_more, drop_all}
use Rattle.std.proofs.lemmas.Bool.Decides.{nat_tests}
use Rattle.fd_elfcore.specs.Opening.{file_end_of, greatest_end}
use Rattle.fd_elfcore.specs.declared.segment.Segment.{Segment}
use Rattle.fd_elfcore.proofs.Headers.{each_lies}
use Rattle.fd_elfcore.proofs.segment.greatest_end.Goals as goal

one_more : (end index whole : ℕ) (d : Segment) (segments : List Segment) → index < length segments → max end (greatest_end (drop index segments)) ≡ whole
    → max (max end (file_end_of (get_or segments index d))) (greatest_end (drop (index + 1) segments)) ≡ whole
one_more end index whole d segments inside so_far =
    let e : greatest_end (drop index segments) ≡ max (file_end_of (get_or segments index d)) (greatest_end (drop (index + 1) segments)) =
    ap greatest_end (drop_more segments index d inside) in
    omega arith

none_more : (end index : ℕ) (segments : List Segment) → length segments ≤ index → max end (greatest_end (drop index segments)) ≡ greatest_end segments → end ≡ greatest_end segments
none_more end index segments past so_far =
    let e : greatest_end (drop index segments) ≡ 0 = ap greatest_end (drop_all index segments past) in
    omega arith

pub overflow_add-segment : goal.overflow_add-segment
overflow_add-segment c = let l = each_lies 0 c.loop-segment.segment-index (record { address = 0; offset = 0; size = 0 }) c.args.segments.now c.requires c.loop-segment-test.true in omega (arith, l.file_end)

pub returns : goal.returns
returns c = none_more c.loop-segment.end c.loop-segment.segment-index c.args.segments.now c.loop-segment-test.false c.loop-segment.invariant

pub loop-segment-preserved : goal.loop-segment-preserved
loop-segment-preserved c =
    let more = one_more c.loop-segment.end c.loop-segment.segment-index (greatest_end c.args.segments.now) (record { address = 0; offset = 0; size = 0 }) c.args.segments.now c.loop-segment-test.true c.loop-segment.invariant in
    grind (arith, nat_tests)
