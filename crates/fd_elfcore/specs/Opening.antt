-- What opening an ELF core answers: its segments, or the first reason to refuse it. The fields are those of Elf64_Ehdr and
-- Elf64_Phdr (sys/elf64.h; elf(5)); which ELF files are taken is this project's own.
use Rattle.std.specs.Prelude.{◌≡◌, ℕ, zero, suc, ◌+◌, ◌^◌, ◌≤◌, Bool, ◌&&◌, not, ◌==◌, nat_le, nat_lt, max, if◌then◌else◌, List, [], ◌∷◌, ◌++◌, length, take}
use Rattle.std.specs.Prelude.{Option, Some, None, IsSomeAnd, Result, Ok, Err}
use Rattle.fd_bytes.specs.Field.{u64_le_at}
use Rattle.fd_elf.specs.Field.{u16_le_at}
use Rattle.fd_elf.specs.Header.{first_refused, identity}
use Rattle.fd_elf.specs.declared.file_type.FileType.TheVariants as file_type
use Rattle.fd_elf.specs.declared.header.HeaderField.{HeaderField}
use Rattle.fd_elfcore.specs.Layout.{headers_end, program_header_at}
use Rattle.fd_elfcore.specs.declared.elf_fault.ElfOpenFault.{ElfOpenFault}
use Rattle.fd_elfcore.specs.declared.elf_fault.ElfOpenFault.TheVariants.{BadSegment, NoFile, NoMemory, NotElf, Short, SiteFault}
use Rattle.fd_elfcore.specs.declared.program_header.ProgramHeader.{ProgramHeader}
use Rattle.fd_elfcore.specs.declared.segment.Segment.{Segment}

-- e_phnum
abbrev pub count_in : (header : List ℕ) → ℕ
count_in header = u16_le_at header 56

-- The other fields of a header that are looked at, behind those that say that it is an ELF core: e_phoff, e_phentsize, and
-- e_phnum, whose greatest value, PN_XNUM, says that the number stands elsewhere.
abbrev pub other_fields : (header : List ℕ) → List HeaderField
other_fields header =
    record { place = 32; is_taken = u64_le_at header 32 == 64 }
    ∷ record { place = 54; is_taken = u16_le_at header 54 == 56 }
    ∷ record { place = 56; is_taken = not (count_in header == 65535) }
    ∷ []

-- the place of the first field whose value isn't taken
unfoldable pub refused_place : (header : List ℕ) → Option ℕ
refused_place header = first_refused (identity header (file_type.Core ∷ []) ++ other_fields header)

-- where a segment's addresses end, and where its bytes end in the file
abbrev pub end_of : Segment → ℕ
end_of segment = segment.address + segment.size

abbrev pub file_end_of : Segment → ℕ
file_end_of segment = segment.offset + segment.size

-- a segment that isn't empty, of addresses from `least` up to 2^64, whose bytes end below 2^64 in the file
abbrev pub lies_from : (least : ℕ) → Segment → Bool
lies_from least segment =
    not (segment.size == 0) && (nat_le (end_of segment) (2 ^ 64) && (nat_lt (file_end_of segment) (2 ^ 64) && nat_le least segment.address))

-- the segment of a program header
abbrev pub loaded : ProgramHeader → Segment
loaded h = record { address = h.p_vaddr; offset = h.p_offset; size = h.p_filesz }

-- a program header that is taken: PT_LOAD, of as many bytes in the file as in memory
abbrev pub is_taken : (least : ℕ) → ProgramHeader → Bool
is_taken least h = h.p_type == 1 && (h.p_filesz == h.p_memsz && lies_from least (loaded h))

-- the program header of this index
abbrev pub program_header : List ℕ → (index : ℕ) → ProgramHeader
program_header f index = program_header_at f (headers_end index)

-- a segment before others
abbrev pub segment_then : Segment → Result (List Segment) ElfOpenFault → Result (List Segment) ElfOpenFault
segment_then segment (Ok later) = Ok (segment ∷ later)
segment_then segment (Err fault) = Err fault

-- the segments of so many program headers from an index on, none of which has an address below the end of the one before
unfoldable pub segments_from : List ℕ → (index count least : ℕ) → Result (List Segment) ElfOpenFault
segments_from f index zero least = Ok []
segments_from f index (suc count) least =
    if is_taken least (program_header f index)
    then segment_then (loaded (program_header f index)) (segments_from f (index + 1) count (end_of (loaded (program_header f index))))
    else Err (BadSegment index)

-- the greatest end of a segment's bytes in the file
abbrev pub greatest_end : List Segment → ℕ
greatest_end [] = 0
greatest_end (segment ∷ later) = max (file_end_of segment) (greatest_end later)

-- the answer, unless the file ends before so many bytes
abbrev pub long_enough : List ℕ → (need : ℕ) → Result (List Segment) ElfOpenFault → Result (List Segment) ElfOpenFault
long_enough f need answer = if nat_lt (length f) need then Err (Short need (length f)) else answer

abbrev pub by_segments : List ℕ → Result (List Segment) ElfOpenFault → Result (List Segment) ElfOpenFault
by_segments f (Ok segments) = long_enough f (greatest_end segments) (Ok segments)
by_segments f (Err fault) = Err fault

abbrev pub by_count : List ℕ → (count : ℕ) → Result (List Segment) ElfOpenFault
by_count f count = long_enough f (headers_end count) (by_segments f (segments_from f 0 count 0))

abbrev pub by_header : List ℕ → (header : List ℕ) → Option ℕ → Result (List Segment) ElfOpenFault
by_header f header (Some place) = Err (NotElf place)
by_header f header None = by_count f (count_in header)

-- what opening a file's bytes answers
unfoldable pub elf_opened : List ℕ → Result (List Segment) ElfOpenFault
elf_opened f = long_enough f 64 (by_header f (take 64 f) (refused_place (take 64 f)))

-- what opening a file answers, if there is the file
abbrev pub elf_opened_file : Option (List ℕ) → Result (List Segment) ElfOpenFault
elf_opened_file None = Err NoFile
elf_opened_file (Some f) = elf_opened f

-- a file with a header that is taken, and with all its program headers
pub record HasHeaders (f : List ℕ) : Type 0 where
  pub header : refused_place (take 64 f) ≡ None
  pub whole : headers_end (count_in (take 64 f)) ≤ length f

-- What a call may answer, by what it answers of the file: a fault of the site says nothing of the file, and want of memory
-- comes only where memory is taken.
abbrev pub IsElfAnswer : Result (List Segment) ElfOpenFault → (memory_is_taken : Type 0) → Result (List Segment) ElfOpenFault → Type 0
IsElfAnswer answer memory_is_taken (Err SiteFault) = Unit {0}
IsElfAnswer answer memory_is_taken (Err NoMemory) = memory_is_taken
IsElfAnswer answer memory_is_taken result = answer ≡ result

-- what opening a file may answer: memory is taken only for a file that has its headers
abbrev pub IsElfOpening : Option (List ℕ) → Result (List Segment) ElfOpenFault → Type 0
IsElfOpening file result = IsElfAnswer (elf_opened_file file) (IsSomeAnd file HasHeaders) result
