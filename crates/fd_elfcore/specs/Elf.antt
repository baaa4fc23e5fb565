-- An ELF core that was opened, and what its reads answer.
use Rattle.std.specs.Prelude.{◌≡◌, ℕ, Bool, true, ◌&&◌, List, [], ◌∷◌, ◌++◌, length, drop, Some, None, IsSomeAnd, Result, Ok, Err}
use Rattle.fd_site.specs.Contents.{Contents, file_of}
use Rattle.fd_mini.specs.Kernel.{KernelBytes}
use Rattle.fd_mini.specs.declared.address_fault.AddressFault.TheVariants as of_address
use Rattle.fd_elfcore.specs.Opening.{elf_opened, end_of, lies_from}
use Rattle.fd_elfcore.specs.declared.elf_fault.ElfOpenFault.{ElfOpenFault}
use Rattle.fd_elfcore.specs.declared.elf_fault.ElfReadFault.{ElfReadFault}
use Rattle.fd_elfcore.specs.declared.elf_fault.ElfReadFault.TheVariants.{Absent, PastTop, SiteFault}
use Rattle.fd_elfcore.specs.declared.segment.Segment.{Segment}

-- a file's name, and its segments
pub record ElfFile : Type 0 where
  pub name : List ℕ
  pub segments : List Segment

-- it stands for the file of its name: opening that gives its segments
abbrev pub ElfStandsFor : ElfFile → Contents → Type 0
ElfStandsFor elf c = IsSomeAnd (file_of c elf.name) (λ f. elf_opened f ≡ Ok elf.segments)

-- the segments of an ELF core that was opened
abbrev pub segments_of : Result ElfFile ElfOpenFault → Result (List Segment) ElfOpenFault
segments_of (Ok elf) = Ok elf.segments
segments_of (Err fault) = Err fault

-- segments from an address on, none of which has an address below the end of the one before
abbrev pub rise_from : (least : ℕ) → List Segment → Bool
rise_from least [] = true
rise_from least (segment ∷ later) = lies_from least segment && rise_from (end_of segment) later

-- What a read may answer, and what its buffer then holds, by what the addresses give: all the bytes; or those before the
-- first address that no segment has, and the rest of the buffer as it was; or nothing of a range that ends past 2^64. A
-- fault of the site says nothing.
abbrev pub IsElfRead : KernelBytes → (old new : List ℕ) → Result (Unit {0}) ElfReadFault → Type 0
IsElfRead given old new (Ok done) = (given.fault ≡ None) × (new ≡ given.bytes)
IsElfRead given old new (Err (Absent va)) = (given.fault ≡ Some (of_address.Outside va)) × (new ≡ given.bytes ++ drop (length given.bytes) old)
IsElfRead given old new (Err PastTop) = (given.fault ≡ Some of_address.PastTop) × (new ≡ old)
IsElfRead given old new (Err SiteFault) = Unit {0}
