-- The labels of a header are shorter than their fields.
use Rattle.std.proofs.Common.{subst, sym}
use Rattle.fd_kdh.specs.Header.{FitsFields}
use Rattle.fd_dump.proofs.Headers.{header_within_fields}
use Rattle.fd_dump.proofs.plan.Plan.header.Goals as goal

pub returns-clause-labels : goal.returns-clause-labels
returns-clause-labels c =
    subst FitsFields (sym c.fields.ensures) (header_within_fields c.args.image.now c.args.block c.requires.valid c.ranges.block.fits).fits
