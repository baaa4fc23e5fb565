use Rattle.std.proofs.Common.{◌≡◌, ◌+◌, ◌*◌, ◌≤◌, ◌++◌, length, take}
use Rattle.arrayvec.specs.ArrayVec.{array_vec_len}
use Rattle.fd_info.specs.Info.{escaped}
use Rattle.fd_info.proofs.printing.put_text.Given as goal

abbrev pub invariant-loop-byte : goal.invariant-loop-byte
invariant-loop-byte l = record {
  items : l.text.items ≡ (l.fn.text.items ++ l.key) ++ escaped (take l.byte-index l.value);
  len : array_vec_len l.text ≤ array_vec_len l.fn.text + length l.key + 4 * l.byte-index;
}
