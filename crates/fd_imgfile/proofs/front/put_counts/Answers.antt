-- The counts and the lengths, one after another.
use Rattle.std.proofs.Common.{append_assoc}
use Rattle.fd_imgfile.proofs.front.put_counts.Goals as goal

pub returns-clause-bytes : goal.returns-clause-bytes
returns-clause-bytes c =
    rw (
      c.put_u32_le-7.ensures.bytes,
      c.put_u32_le-6.ensures.bytes,
      c.put_u32_le-5.ensures.bytes,
      c.put_u32_le-4.ensures.bytes,
      c.put_u32_le-3.ensures.bytes,
      c.put_u32_le-2.ensures.bytes,
      c.put_u32_le.ensures.bytes,
    ) (simp append_assoc)
