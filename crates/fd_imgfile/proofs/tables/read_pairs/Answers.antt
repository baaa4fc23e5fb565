-- One more pair is read.
use Rattle.std.proofs.Common.{◌≡◌, ℕ, List, [], ◌∷◌, ◌++◌, map, ap, ◌∙◌, arith}
use Rattle.std.specs.List.{flat_map}
use Rattle.std.proofs.lemmas.List.{length_push}
use Rattle.fd_imgfile.specs.Front.{second}
use Rattle.fd_imgfile.specs.Spelling.{avail_bytes}
use Rattle.fd_imgfile.proofs.Pairs.{pair_more, second_more}
use Rattle.fd_imgfile.proofs.tables.read_pairs.Goals as goal

pub loop-i-preserved : goal.loop-i-preserved
loop-i-preserved c =
    let pairs : List (ℕ × ℕ) = c.loop-i.pairs.items in
    let a : ℕ = c.get_u64_le-first.result in
    let b : ℕ = c.get_u64_le-second.result in
    let pushed : c.push.new.self.items ≡ pairs ++ (a, b) ∷ [] = c.in_ok-push.ensures.items in
    record {
      count = rw pushed (omega (arith, length_push pairs (a, b), c.loop-i.invariant.count));
      spelling =
          ap (flat_map avail_bytes) pushed ∙ pair_more c.args.bytes.now pairs a b c.loop-i.i c.loop-i.invariant.spelling c.get_u64_le-first.ensures.spelling c.get_u64_le-second.ensures.spelling;
      seconds = ap (map second) pushed ∙ second_more c.args.bytes.now pairs a b c.loop-i.i c.loop-i.invariant.seconds c.get_u64_le-second.ensures.value;
    }
