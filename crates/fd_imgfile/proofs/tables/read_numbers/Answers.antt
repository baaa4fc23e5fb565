-- One more number is read.
use Rattle.std.proofs.Common.{◌≡◌, ℕ, List, [], ◌∷◌, ◌++◌, ap, ◌∙◌, arith}
use Rattle.std.specs.List.{flat_map}
use Rattle.std.proofs.lemmas.List.{length_push}
use Rattle.fd_imgfile.specs.Spelling.{u64}
use Rattle.fd_imgfile.proofs.Pairs.{number_more}
use Rattle.fd_imgfile.proofs.tables.read_numbers.Goals as goal

pub loop-i-preserved : goal.loop-i-preserved
loop-i-preserved c =
    let numbers : List ℕ = c.loop-i.numbers.items in
    let n : ℕ = c.get_u64_le.result in
    let pushed : c.push.new.self.items ≡ numbers ++ n ∷ [] = c.in_ok-push.ensures.items in
    record {
      count = rw pushed (omega (arith, length_push numbers n, c.loop-i.invariant.count));
      spelling = ap (flat_map u64) pushed ∙ number_more c.args.bytes.now numbers n c.loop-i.i c.loop-i.invariant.spelling c.get_u64_le.ensures.spelling;
    }
