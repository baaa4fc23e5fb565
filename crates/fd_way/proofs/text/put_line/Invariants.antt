-- The address and the bytes so far are written.
use Rattle.std.proofs.Common.{◌≡◌, ◌+◌, ◌*◌, ◌++◌, take}
use Rattle.std.specs.List.{flat_map}
use Rattle.fd_bytes.specs.Printed.{hex}
use Rattle.fd_way.specs.ReadText.{byte_text}
use Rattle.fd_way.proofs.text.put_line.Given as goal

abbrev pub invariant-loop-byte : goal.invariant-loop-byte
invariant-loop-byte l = record {
  place : l.at ≡ 16 + 3 * l.byte-index;
  written : take l.at l.line ≡ hex 16 l.va ++ flat_map byte_text (take l.byte-index l.bytes);
}
