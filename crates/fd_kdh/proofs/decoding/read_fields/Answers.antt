use Rattle.std.proofs.Common.{slice_index}
use Rattle.fd_kdh.specs.Header.{fields_of}
use Rattle.fd_kdh.proofs.decoding.read_fields.Goals as goal

pub returns : goal.returns
unfolding fields_of
returns c = λ i. record {
  architecture = c.label_at.ensures i;
  architectureversion = c.get_u32_be.ensures.value i;
  dumplength = c.get_u64_be.ensures.value i;
  dumptime = c.get_u64_be-2.ensures.value i;
  dumpkeysize = c.get_u32_be-2.ensures.value i;
  blocksize = c.get_u32_be-3.ensures.value i;
  hostname = c.label_at-2.ensures i;
  versionstring = c.label_at-3.ensures i;
  panicstring = c.label_at-4.ensures i;
  compression = slice_index c.args.bytes.now 495;
  dumpextent = c.get_u64_be-3.ensures.value i;
}
