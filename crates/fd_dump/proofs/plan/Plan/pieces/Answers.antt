-- A valid image's minidump has a multiple of 4096 bytes, and not too many.
use Rattle.std.proofs.Common.{arith}
use Rattle.fd_dump.proofs.Sizes.{minidump_pages, minidump_small}
use Rattle.fd_dump.proofs.plan.Plan.pieces.Goals as goal

pub invariant_of-result : goal.invariant_of-result
invariant_of-result c = record {
  made = c.requires;
  whole = omega (arith, c.length.ensures c.args.image.now c.requires, minidump_pages c.args.image.now c.requires.valid);
}

pub returns-clause-pages : goal.returns-clause-pages
returns-clause-pages c = minidump_pages c.args.image.now c.requires.valid

pub returns-clause-small : goal.returns-clause-small
returns-clause-small c = minidump_small c.args.image.now c.requires.valid
