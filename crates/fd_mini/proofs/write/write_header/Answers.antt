-- The page that was filled is that of the header.
use Rattle.std.proofs.Common.{refl}
use Rattle.fd_mini.specs.Page.{page_of}
use Rattle.fd_mini.proofs.write.write_header.Goals as goal

pub returns : goal.returns
unfolding page_of
returns c =
    rw (
      c.bytes.ensures.bytes,
      c.put_u32_when-2.ensures.bytes,
      c.put_u32_when.ensures.bytes,
      c.put_u64_le-3.ensures.bytes,
      c.put_u64_le-2.ensures.bytes,
      c.put_u64_when.ensures.bytes,
      c.put_u64_le.ensures.bytes,
      c.put_u32_le-4.ensures.bytes,
      c.put_u32_le-3.ensures.bytes,
      c.put_u32_le-2.ensures.bytes,
      c.put_u32_le.ensures.bytes,
      c.put.ensures.bytes,
      c.new-page.ensures,
      c.magic_of.ensures.value,
      c.layout_of-layout.ensures,
    ) refl
