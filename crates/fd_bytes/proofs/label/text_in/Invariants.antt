use Rattle.std.proofs.Common.{◌≡◌, ◌++◌, take, drop}
use Rattle.fd_bytes.specs.Label.{text_of}
use Rattle.fd_bytes.proofs.label.text_in.Given as goal

abbrev pub invariant-loop-i : goal.invariant-loop-i
invariant-loop-i l = text_of l.bytes ≡ take l.i l.bytes ++ text_of (drop l.i l.bytes)
