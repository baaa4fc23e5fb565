-- What is found in the rest is found in all.
use Rattle.std.proofs.Common.{◌≡◌, drop}
use Rattle.fd_imgfile.specs.Reading.{first_broken}
use Rattle.fd_imgfile.proofs.front.first_broken.Given as goal

abbrev pub invariant-loop-kept : goal.invariant-loop-kept
invariant-loop-kept l = first_broken l.checks ≡ first_broken (drop l.kept-index l.checks)
