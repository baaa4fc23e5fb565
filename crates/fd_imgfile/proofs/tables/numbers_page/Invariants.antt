-- The numbers so far.
use Rattle.std.proofs.Common.{◌≡◌, ◌*◌, length, take}
use Rattle.std.specs.List.{flat_map}
use Rattle.fd_imgfile.specs.Spelling.{u64}
use Rattle.fd_imgfile.proofs.tables.numbers_page.Given as goal

abbrev pub invariant-loop-number : goal.invariant-loop-number
invariant-loop-number l = record {
  put : l.page ≡ flat_map u64 (take l.number-index l.numbers);
  len : length l.page ≡ 8 * l.number-index;
}
