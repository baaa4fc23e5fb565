-- The header of a kernel dump, version 4, as it is written and read (sys/kerneldump.h).
use Rattle.std.specs.Prelude.{ℕ, ◌<◌, ◌^◌, ◌==◌, List, [], ◌∷◌, ◌++◌, length, slice_index, codes, if◌then◌else◌, Result, Ok, Err}
use Rattle.std.specs.Int.{w32, w64, to_be_bytes}
use Rattle.std.specs.List.{concat}
use Rattle.std.specs.Str.{bytes_eq}
use Rattle.fd_bytes.specs.Field.{u32_be_at, u64_be_at}
use Rattle.fd_bytes.specs.Label.{IsByteText, text_of}
use Rattle.fd_bytes.specs.Page.{filled}
use Rattle.fd_kdh.specs.Layout.{Magic, Architecture, Version, ArchitectureVersion, DumpLength, DumpTime, DumpKeySize, BlockSize, HostName}
use Rattle.fd_kdh.specs.Layout.{VersionString, PanicString, Compression, DumpExtent, bytes_of, size_of, start_of}
use Rattle.fd_kdh.specs.Parity.{words, xor_all}
use Rattle.fd_kdh.specs.declared.header.Header.{Header}
use Rattle.fd_kdh.specs.declared.header.HeaderFault.{HeaderFault}
use Rattle.fd_kdh.specs.declared.header.HeaderFault.TheVariants.{NoMagic, TextDump, Cleared, UnknownVersion, BadParity}

-- KERNELDUMPMAGIC: a dump lies behind the header
abbrev pub live_magic : List ℕ
live_magic = filled (size_of Magic) (codes "FreeBSD Kernel Dump")

-- TEXTDUMPMAGIC: a text dump does
abbrev pub text_magic : List ℕ
text_magic = filled (size_of Magic) (codes "FreeBSD Text Dump")

-- KERNELDUMPMAGIC_CLEARED: the dump was saved
abbrev pub cleared_magic : List ℕ
cleared_magic = filled (size_of Magic) (codes "Cleared Kernel Dump")

-- the fields in their order, all but the parity word
abbrev pub fields_before_parity : Header → List (List ℕ)
fields_before_parity h =
    live_magic
    ∷ filled (size_of Architecture) h.architecture
    ∷ to_be_bytes w32 4
    ∷ to_be_bytes w32 h.architectureversion
    ∷ to_be_bytes w64 h.dumplength
    ∷ to_be_bytes w64 h.dumptime
    ∷ to_be_bytes w32 h.dumpkeysize
    ∷ to_be_bytes w32 h.blocksize
    ∷ filled (size_of HostName) h.hostname
    ∷ filled (size_of VersionString) h.versionstring
    ∷ filled (size_of PanicString) h.panicstring
    ∷ (h.compression ∷ [])
    ∷ to_be_bytes w64 h.dumpextent
    ∷ to_be_bytes w32 0
    ∷ []

-- bytes, and the word that makes the exclusive or of all words 0
abbrev pub with_parity : List ℕ → List ℕ
with_parity bytes = bytes ++ to_be_bytes w32 (xor_all (words bytes))

-- the bytes of a header
unfoldable pub dump_header : Header → List ℕ
dump_header h = with_parity (concat (fields_before_parity h))

-- what the fields hold, whatever else the bytes are
unfoldable pub fields_of : List ℕ → Header
fields_of bytes = record {
  architecture = text_of (bytes_of Architecture bytes);
  architectureversion = u32_be_at bytes (start_of ArchitectureVersion);
  dumplength = u64_be_at bytes (start_of DumpLength);
  dumptime = u64_be_at bytes (start_of DumpTime);
  dumpkeysize = u32_be_at bytes (start_of DumpKeySize);
  blocksize = u32_be_at bytes (start_of BlockSize);
  hostname = text_of (bytes_of HostName bytes);
  versionstring = text_of (bytes_of VersionString bytes);
  panicstring = text_of (bytes_of PanicString bytes);
  compression = slice_index bytes (start_of Compression);
  dumpextent = u64_be_at bytes (start_of DumpExtent);
}

-- the header by its parity, by its version, and by its magic
abbrev pub by_parity : ℕ → List ℕ → Result Header HeaderFault
by_parity sum bytes = if sum == 0 then Ok (fields_of bytes) else Err (BadParity sum)

abbrev pub by_version : ℕ → List ℕ → Result Header HeaderFault
by_version version bytes = if version == 4 then by_parity (xor_all (words bytes)) bytes else Err (UnknownVersion version)

abbrev pub by_magic : List ℕ → List ℕ → Result Header HeaderFault
by_magic magic bytes =
    if bytes_eq text_magic magic then Err TextDump
    else (if bytes_eq cleared_magic magic then Err Cleared
    else (if bytes_eq live_magic magic then by_version (u32_be_at bytes (start_of Version)) bytes
    else Err NoMagic))

-- the header that the bytes are, or their first fault
unfoldable pub decoded : List ℕ → Result Header HeaderFault
decoded bytes = by_magic (bytes_of Magic bytes) bytes

-- each label is shorter than its field, so that a zero byte ends it there
pub record FitsFields (h : Header) : Type 0 where
  pub architecture : length h.architecture < size_of Architecture
  pub hostname : length h.hostname < size_of HostName
  pub versionstring : length h.versionstring < size_of VersionString
  pub panicstring : length h.panicstring < size_of PanicString

-- each number is within the type of its field, and each label is a text that is shorter than its field
pub record IsWithinFields (h : Header) : Type 0 where
  pub fits : FitsFields h
  pub architecture : IsByteText h.architecture
  pub architectureversion : h.architectureversion < 2 ^ 32
  pub dumplength : h.dumplength < 2 ^ 64
  pub dumptime : h.dumptime < 2 ^ 64
  pub dumpkeysize : h.dumpkeysize < 2 ^ 32
  pub blocksize : h.blocksize < 2 ^ 32
  pub hostname : IsByteText h.hostname
  pub versionstring : IsByteText h.versionstring
  pub panicstring : IsByteText h.panicstring
  pub compression : h.compression < 256
  pub dumpextent : h.dumpextent < 2 ^ 64
