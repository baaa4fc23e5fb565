-- What reading a header page answers: its fields, or the first reason to refuse it. The limits are this project's own.
use Rattle.std.specs.Prelude.{ℕ, ◌%◌, ◌^◌, ◌==◌, nat_le, if◌then◌else◌, List, take, Option, Some, None, Result, Ok, Err}
use Rattle.fd_bytes.specs.Field.{u32_le_at}
use Rattle.fd_bytes.specs.declared.arch.Arch.{Arch}
use Rattle.fd_mini.specs.Layout.{has_version, arch_of_magic}
use Rattle.fd_mini.specs.Page.{fields_in}
use Rattle.fd_mini.specs.declared.header.MiniHeader.{MiniHeader}
use Rattle.fd_mini.specs.declared.mini_fault.MiniFault.{MiniFault}
use Rattle.fd_mini.specs.declared.mini_fault.MiniFault.TheVariants.{BadMagic, UnknownVersion, BigGranule, TooLarge}
use Rattle.fd_mini.specs.declared.mini_fault.MiniField.TheVariants.{DumpAvail, Bitmap}

-- a bitmap of at most 2^26 bytes
abbrev pub bitmap_within : MiniHeader → Result MiniHeader MiniFault
bitmap_within h = if nat_le h.bitmapsize (2 ^ 26) then Ok h else Err (TooLarge Bitmap h.bitmapsize)

-- ranges of at most 2^20 bytes
abbrev pub avail_within : MiniHeader → Result MiniHeader MiniFault
avail_within h = if nat_le h.dumpavailsize (2 ^ 20) then bitmap_within h else Err (TooLarge DumpAvail h.dumpavailsize)

-- flags whose low two bits, MINIDUMP_FLAG_PS_MASK, name pages of 4 KiB
abbrev pub within_limits : MiniHeader → Result MiniHeader MiniFault
within_limits h = if h.flags % 4 == 0 then avail_within h else Err (BigGranule h.flags)

-- a version that is known
abbrev pub of_known_version : Arch → List ℕ → Result MiniHeader MiniFault
of_known_version arch page =
    if has_version arch (u32_le_at page 24) then within_limits (fields_in arch page) else Err (UnknownVersion (u32_le_at page 24))

-- a magic that is known
abbrev pub of_known_magic : Option Arch → List ℕ → Result MiniHeader MiniFault
of_known_magic None page = Err BadMagic
of_known_magic (Some arch) page = of_known_version arch page

-- what reading a page answers
unfoldable pub header_in : List ℕ → Result MiniHeader MiniFault
header_in page = of_known_magic (arch_of_magic (take 24 page)) page
