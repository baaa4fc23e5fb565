-- The five numbers, one after another.
use Rattle.std.proofs.Common.{append_assoc}
use Rattle.fd_imgfile.proofs.front.put_windows.Goals as goal

pub returns-clause-bytes : goal.returns-clause-bytes
returns-clause-bytes c =
    rw (c.put_u64_le-5.ensures.bytes, c.put_u64_le-4.ensures.bytes, c.put_u64_le-3.ensures.bytes, c.put_u64_le-2.ensures.bytes, c.put_u64_le.ensures.bytes) (simp append_assoc)
