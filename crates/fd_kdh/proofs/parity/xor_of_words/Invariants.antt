use Rattle.std.proofs.Common.{◌≡◌, bit_xor, length}
use Rattle.fd_kdh.specs.Parity.{words, xor_all}
use Rattle.fd_kdh.proofs.parity.xor_of_words.Given as goal

abbrev pub invariant-loop-rest : goal.invariant-loop-rest
invariant-loop-rest l = bit_xor l.all (xor_all (words l.rest)) ≡ xor_all (words l.bytes)

abbrev pub decreases-loop-rest : goal.decreases-loop-rest
decreases-loop-rest l = length l.rest
