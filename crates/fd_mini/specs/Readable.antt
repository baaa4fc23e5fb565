-- The headers that a page holds and a reader takes.
use Rattle.std.specs.Prelude.{◌≡◌, ◌%◌, ◌^◌, ◌<◌, ◌≤◌, false, IsTrue}
use Rattle.fd_mini.specs.Layout.{has_version, layout_of}
use Rattle.fd_mini.specs.declared.header.MiniHeader.{MiniHeader}

-- each number is within the type of its field
pub record IsTyped (h : MiniHeader) : Type 0 where
  pub version : h.version < 2 ^ 32
  pub msgbufsize : h.msgbufsize < 2 ^ 32
  pub bitmapsize : h.bitmapsize < 2 ^ 32
  pub pmapsize : h.pmapsize < 2 ^ 32
  pub kernbase : h.kernbase < 2 ^ 64
  pub dmapphys : h.dmapphys < 2 ^ 64
  pub dmapbase : h.dmapbase < 2 ^ 64
  pub dmapend : h.dmapend < 2 ^ 64
  pub dumpavailsize : h.dumpavailsize < 2 ^ 32
  pub flags : h.flags < 2 ^ 32

-- a header of a version that is known, with 0 in each field that the page doesn't have, within the limits
pub record IsReadable (h : MiniHeader) : Type 0 where
  pub typed : IsTyped h
  pub known : IsTrue (has_version h.arch h.version)
  pub no_dmapphys : (layout_of h.arch h.version).has_dmapphys ≡ false → h.dmapphys ≡ 0
  pub no_dumpavailsize : (layout_of h.arch h.version).has_dumpavailsize ≡ false → h.dumpavailsize ≡ 0
  pub no_flags : (layout_of h.arch h.version).has_flags ≡ false → h.flags ≡ 0
  pub small_granule : h.flags % 4 ≡ 0
  pub avail_within : h.dumpavailsize ≤ 2 ^ 20
  pub bitmap_within : h.bitmapsize ≤ 2 ^ 26
