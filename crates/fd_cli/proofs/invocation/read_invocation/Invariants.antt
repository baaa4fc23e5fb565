-- The words that were taken, and those that are left, are all.
use Rattle.std.proofs.Common.{◌≡◌, map, ◌++◌}
use Rattle.std.specs.String.{string_bytes}
use Rattle.fd_cli.proofs.invocation.read_invocation.Given as goal

abbrev pub invariant-loop-word : goal.invariant-loop-word
invariant-loop-word l = l.named.items ++ map string_bytes l.word-iterator.rest.items ≡ map string_bytes l.initial.word-iterator.rest.items
