-- The header page of a minidump: struct minidumphdr (minidump.h of each architecture). Numbers are little-endian.
use Rattle.std.specs.Prelude.{ℕ, ◌+◌, Bool, if◌then◌else◌, List, [], ◌++◌}
use Rattle.std.specs.Int.{w32, w64, to_le_bytes}
use Rattle.fd_bytes.specs.Field.{u32_le_at, u64_le_at}
use Rattle.fd_bytes.specs.Page.{filled}
use Rattle.fd_bytes.specs.declared.arch.Arch.{Arch}
use Rattle.fd_mini.specs.Layout.{layout_of, magic_of}
use Rattle.fd_mini.specs.declared.header.MiniHeader.{MiniHeader}
use Rattle.fd_mini.specs.declared.layout.Layout.{Layout}

-- the bytes of a field that the page may not have
abbrev pub when : Bool → List ℕ → List ℕ
when has_field bytes = if has_field then bytes else []

-- the fields in their order, as a page of this layout has them
abbrev pub front_by : Layout → MiniHeader → List ℕ
front_by layout h =
    magic_of h.arch
    ++ to_le_bytes w32 h.version
    ++ to_le_bytes w32 h.msgbufsize
    ++ to_le_bytes w32 h.bitmapsize
    ++ to_le_bytes w32 h.pmapsize
    ++ to_le_bytes w64 h.kernbase
    ++ when layout.has_dmapphys (to_le_bytes w64 h.dmapphys)
    ++ to_le_bytes w64 h.dmapbase
    ++ to_le_bytes w64 h.dmapend
    ++ when layout.has_dumpavailsize (to_le_bytes w32 h.dumpavailsize)
    ++ when layout.has_flags (to_le_bytes w32 h.flags)

-- the header page of these fields, laid out as its version is
unfoldable pub page_of : MiniHeader → List ℕ
page_of h = filled 4096 (front_by (layout_of h.arch h.version) h)

-- how many bytes dmapphys takes, which only some pages have
abbrev pub shift_of : Bool → ℕ
shift_of has_dmapphys = if has_dmapphys then 8 else 0

-- the fields of a page of this layout; the fields after dmapphys stand behind it, where there is one
abbrev pub fields_by : Arch → Layout → List ℕ → MiniHeader
fields_by arch layout page =
    let shift = shift_of layout.has_dmapphys in
    record {
      arch = arch;
      version = u32_le_at page 24;
      msgbufsize = u32_le_at page 28;
      bitmapsize = u32_le_at page 32;
      pmapsize = u32_le_at page 36;
      kernbase = u64_le_at page 40;
      dmapphys = if layout.has_dmapphys then u64_le_at page 48 else 0;
      dmapbase = u64_le_at page (48 + shift);
      dmapend = u64_le_at page (56 + shift);
      dumpavailsize = if layout.has_dumpavailsize then u32_le_at page (64 + shift) else 0;
      flags = if layout.has_flags then u32_le_at page (68 + shift) else 0;
    }

-- the fields of an architecture's header page, laid out as its version is
abbrev pub fields_in : Arch → List ℕ → MiniHeader
fields_in arch page = fields_by arch (layout_of arch (u32_le_at page 24)) page
