-- The windows spell their five numbers.
use Rattle.fd_imgfile.proofs.Fields.{windows_spelled}
use Rattle.fd_imgfile.proofs.front.windows_in.Goals as goal

pub returns : goal.returns
returns c =
    windows_spelled c.args.bytes.now _ c.get_u64_le.ensures.spelling c.get_u64_le-2.ensures.spelling c.get_u64_le-3.ensures.spelling c.get_u64_le-4.ensures.spelling c.get_u64_le-5.ensures.spelling
