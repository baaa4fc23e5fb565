use Rattle.std.proofs.Common.{length, ap, arith}
use Rattle.fd_kdh.proofs.tests.header.Goals as goal

pub returns : goal.returns
returns c = record {
  architecture = omega (arith, ap length c.cut.ensures);
  hostname = omega (arith, ap length c.cut-2.ensures);
  versionstring = omega (arith, ap length c.cut_version.ensures);
  panicstring = omega (arith, ap length c.cut-3.ensures);
}
