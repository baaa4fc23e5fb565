-- The digits that are still to be written, and those that are, are all of the address.
use Rattle.std.proofs.Common.{◌≡◌, ◌≤◌, ◌-◌, ◌++◌, length, take, drop}
use Rattle.fd_way.proofs.Digits.{last_digits}
use Rattle.fd_way.proofs.text.put_address.Given as goal

abbrev pub invariant-loop-place : goal.invariant-loop-place
invariant-loop-place l = record {
  within : l.place ≤ 16;
  long : length l.line ≡ 65;
  digits : last_digits l.place l.rest ++ take (16 - l.place) (drop l.place l.line) ≡ last_digits 16 l.va;
}

abbrev pub decreases-loop-place : goal.decreases-loop-place
decreases-loop-place l = l.place
