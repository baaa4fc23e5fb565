-- The tables stand one after another.
use Rattle.std.proofs.Common.{◌*◌, arith}
use Rattle.std.specs.List.{flat_map}
use Rattle.fd_imgfile.specs.Spelling.{avail_bytes, u64}
use Rattle.fd_imgfile.proofs.Pairs.{tables_joined}
use Rattle.fd_imgfile.proofs.tables.tables_in.Goals as goal

pub returns-clause-spelling : goal.returns-clause-spelling
returns-clause-spelling c =
    tables_joined c.args.table.now c.args.ranges.now (flat_map avail_bytes c.in_ok-read_pairs.field-0.items)
    (flat_map avail_bytes c.in_ok-read_pairs-2.field-0.items) (flat_map u64 c.in_ok-read_numbers.field-0.items) (16 * c.args.front.now.avail) (omega (arith, c.requires.ranges))
    c.in_ok-read_pairs.ensures.spelling c.in_ok-read_pairs-2.ensures.spelling c.in_ok-read_numbers.ensures.spelling
