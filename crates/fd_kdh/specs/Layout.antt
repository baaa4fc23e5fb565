-- The layout of a header, version 4 (struct kerneldumpheader of sys/kerneldump.h).
use Rattle.std.specs.Prelude.{ℕ, ◌+◌, List, slice_range}

-- the fields, in their order
pub data Field : Type 0 where
  Magic : Field
  Architecture : Field
  Version : Field
  ArchitectureVersion : Field
  DumpLength : Field
  DumpTime : Field
  DumpKeySize : Field
  BlockSize : Field
  HostName : Field
  VersionString : Field
  PanicString : Field
  Compression : Field
  DumpExtent : Field
  Unused : Field
  Parity : Field

-- where each field begins, and how many bytes it has
abbrev pub place_of : Field → ℕ × ℕ
place_of Magic = (0, 20)
place_of Architecture = (20, 12)
place_of Version = (32, 4)
place_of ArchitectureVersion = (36, 4)
place_of DumpLength = (40, 8)
place_of DumpTime = (48, 8)
place_of DumpKeySize = (56, 4)
place_of BlockSize = (60, 4)
place_of HostName = (64, 64)
place_of VersionString = (128, 192)
place_of PanicString = (320, 175)
place_of Compression = (495, 1)
place_of DumpExtent = (496, 8)
place_of Unused = (504, 4)
place_of Parity = (508, 4)

abbrev pub start_of : Field → ℕ
start_of field = (place_of field).0

abbrev pub size_of : Field → ℕ
size_of field = (place_of field).1

-- the bytes of a field
abbrev pub bytes_of : Field → List ℕ → List ℕ
bytes_of field bytes = slice_range bytes (start_of field) (start_of field + size_of field)
