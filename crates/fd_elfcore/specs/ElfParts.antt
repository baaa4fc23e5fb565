-- What the parts of opening and reading an ELF core need and answer. No public clause cites these.
use Rattle.std.specs.Prelude.{◌≡◌, ℕ, ◌+◌, ◌<◌, ◌≤◌, ◌^◌, List, length, drop, take, Option, Some, None, IsSomeAnd, Result, Ok, Err, Vec}
use Rattle.std.specs.Option.{option_map}
use Rattle.std.specs.declared.alloc.Global.{Global}
use Rattle.fd_mini.specs.Kernel.{bytes_from}
use Rattle.fd_mini.specs.declared.address_fault.AddressFault.{AddressFault}
use Rattle.fd_mini.specs.declared.address_fault.AddressFault.TheVariants.{Outside}
use Rattle.fd_elfcore.specs.declared.elf_fault.ElfOpenFault.{ElfOpenFault}
use Rattle.fd_elfcore.specs.declared.elf_fault.ElfReadFault.{ElfReadFault}
use Rattle.fd_elfcore.specs.declared.elf_fault.ElfReadFault.TheVariants.{Absent, PastTop, SiteFault}
use Rattle.fd_elfcore.specs.declared.segment.Segment.{Segment}

-- there is a file, of this length
abbrev pub HasLength : Option (List ℕ) → ℕ → Type 0
HasLength file len = Some len ≡ option_map (λ f. length f) file

-- there is a file, of at least so many bytes
abbrev pub HasRoom : Option (List ℕ) → ℕ → Type 0
HasRoom file need = IsSomeAnd file (λ f. need ≤ length f)

-- a segment that has an address, and whose bytes end below 2^64 in the file
pub record HasAddress (va : ℕ) (segment : Segment) : Type 0 where
  pub from : segment.address ≤ va
  pub below : va < segment.address + segment.size
  pub low : segment.offset + segment.size < 2 ^ 64

-- the segments that were read
abbrev pub items_of : Result (Vec Segment Global) ElfOpenFault → Result (List Segment) ElfOpenFault
items_of (Ok segments) = Ok segments.items
items_of (Err fault) = Err fault

-- so many bytes from the first address on came to the front of a buffer, and no other changed
pub record IsElfFront (byte_at : ℕ → Result ℕ AddressFault) (va : ℕ) (old new : List ℕ) (count : ℕ) : Type 0 where
  pub bytes : bytes_from byte_at va count ≡ record { bytes = take count new; fault = None }
  pub rest : drop count new ≡ drop count old

-- some bytes came to the front of a buffer, or no segment has the first address
abbrev pub IsElfStep : (ℕ → Result ℕ AddressFault) → (va : ℕ) → (old new : List ℕ) → Result ℕ ElfReadFault → Type 0
IsElfStep byte_at va old new (Ok count) = IsElfFront byte_at va old new count
IsElfStep byte_at va old new (Err (Absent at)) = (at ≡ va) × (byte_at va ≡ Err (Outside va)) × (new ≡ old)
IsElfStep byte_at va old new (Err PastTop) = ⊥
IsElfStep byte_at va old new (Err SiteFault) = Unit {0}
