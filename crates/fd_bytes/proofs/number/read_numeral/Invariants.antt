use Rattle.std.proofs.Common.{◌≡◌, ◌<◌, ◌^◌, true, take, drop}
use Rattle.std.specs.List.{list_all}
use Rattle.std.specs.Char.{is_digit}
use Rattle.fd_bytes.specs.Number.{place_value}
use Rattle.fd_bytes.proofs.Numerals.{worth}
use Rattle.fd_bytes.proofs.number.read_numeral.Given as goal

abbrev pub invariant-loop-byte : goal.invariant-loop-byte
invariant-loop-byte l = record {
  digits : list_all (λ c. is_digit c l.radix) (take l.byte-index l.digits) ≡ true;
  value : worth l.radix l.value (drop l.byte-index l.digits) ≡ place_value l.radix l.digits;
  small : l.value < 2 ^ 64;
}
