-- The rules so far have no place.
use Rattle.std.proofs.Common.{◌≡◌, ◌+◌, drop}
use Rattle.fd_image.specs.Image.{first_breach}
use Rattle.fd_image.proofs.rules.first_breach.Given as goal

abbrev pub invariant-loop-breach : goal.invariant-loop-breach
invariant-loop-breach l = record {
  number : l.rule ≡ l.breach-index + 1;
  so_far : first_breach 1 l.breaches ≡ first_breach l.rule (drop l.breach-index l.breaches);
}
