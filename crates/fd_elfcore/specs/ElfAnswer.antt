-- What a read of addresses gives of an ELF core: bytes as a read of kernel addresses gives them, where an address that no
-- segment has is outside.
use Rattle.std.specs.Prelude.{ℕ, ◌+◌, ◌-◌, Bool, ◌&&◌, nat_le, nat_lt, List, slice_index, find, Option, Some, None, Result, Ok, Err}
use Rattle.fd_mini.specs.Kernel.{KernelBytes, kernel_bytes}
use Rattle.fd_mini.specs.declared.address_fault.AddressFault.{AddressFault}
use Rattle.fd_mini.specs.declared.address_fault.AddressFault.TheVariants.{Outside}
use Rattle.fd_elfcore.specs.Opening.{elf_opened, end_of}
use Rattle.fd_elfcore.specs.declared.elf_fault.ElfOpenFault.{ElfOpenFault}
use Rattle.fd_elfcore.specs.declared.segment.Segment.{Segment}

abbrev pub has_address : (va : ℕ) → Segment → Bool
has_address va segment = nat_le segment.address va && nat_lt va (end_of segment)

-- the segment that has an address
abbrev pub segment_with : List Segment → (va : ℕ) → Option Segment
segment_with segments va = find (has_address va) segments

abbrev pub byte_of : List ℕ → (va : ℕ) → Option Segment → Result ℕ AddressFault
byte_of f va (Some segment) = Ok (slice_index f (segment.offset + (va - segment.address)))
byte_of f va None = Err (Outside va)

-- the byte at an address, by the segments of the file
abbrev pub elf_byte : List ℕ → List Segment → (va : ℕ) → Result ℕ AddressFault
elf_byte f segments va = byte_of f va (segment_with segments va)

-- what a read gives of a file with these segments
abbrev pub elf_bytes : List ℕ → List Segment → (va count : ℕ) → KernelBytes
elf_bytes f segments va count = kernel_bytes (elf_byte f segments) va count

-- what a read gives of a file that is opened
abbrev pub bytes_by_segments : List ℕ → (va count : ℕ) → Result (List Segment) ElfOpenFault → Result KernelBytes ElfOpenFault
bytes_by_segments f va count (Err fault) = Err fault
bytes_by_segments f va count (Ok segments) = Ok (elf_bytes f segments va count)

-- what a read gives of any file, or why the file is refused
abbrev pub elf_answer_of : List ℕ → (va count : ℕ) → Result KernelBytes ElfOpenFault
elf_answer_of f va count = bytes_by_segments f va count (elf_opened f)
