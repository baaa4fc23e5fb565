-- What opening a vmcore answers: its header, the pages that have a bit, and the bits, or the first reason to refuse it.
use Rattle.std.specs.Prelude.{◌≡◌, ℕ, ◌+◌, ◌*◌, Bool, false, ◌==◌, ◌≤◌, nat_lt, if◌then◌else◌, List, length, take}
use Rattle.std.specs.Prelude.{slice_get, slice_range, unwrap_or, Option, Some, None, IsSomeAnd, Result, Ok, Err, IsOkAnd}
use Rattle.std.specs.Option.{option_and_then}
use Rattle.fd_mini.specs.Places.{places_of}
use Rattle.fd_mini.specs.Read.{header_in}
use Rattle.fd_mini.specs.declared.header.MiniHeader.{MiniHeader}
use Rattle.fd_mini.specs.declared.mini_fault.MiniFault.{MiniFault}
use Rattle.fd_bitmap.specs.Bits.{bits_of, set_count}
use Rattle.fd_bitmap.specs.Pages.{first_bad, bit_of}
use Rattle.fd_vmcore.specs.Ranges.{ranges_of, pages_in}
use Rattle.fd_vmcore.specs.declared.open.OpenFault.{OpenFault}
use Rattle.fd_vmcore.specs.declared.open.OpenFault.TheVariants.{NoFile, Short, Mini, BadAvail, SiteFault, NoMemory}

-- a vmcore's header page, the pages that have a bit, in the order of their bits, and the bits
pub record Sections : Type 0 where
  pub header : MiniHeader
  pub pages : List ℕ
  pub bits : List Bool

-- the bits of the bitmap
abbrev pub bits_in : List ℕ → MiniHeader → List Bool
bits_in f h = bits_of (slice_range f (places_of h).bitmap ((places_of h).bitmap + h.bitmapsize))

-- where the dumped pages end
abbrev pub pages_end : Sections → ℕ
pages_end s = (places_of s.header).pages + 4096 * set_count s.bits

-- the sections, unless the file ends before so many bytes
abbrev pub long_enough : List ℕ → (need : ℕ) → Result Sections OpenFault → Result Sections OpenFault
long_enough f need answer = if nat_lt (length f) need then Err (Short need (length f)) else answer

-- by the end of the dumped pages
abbrev pub by_pages : List ℕ → Sections → Result Sections OpenFault
by_pages f s = long_enough f (pages_end s) (Ok s)

-- by the first bad pair of the ranges, of which there are none where their size is 0
abbrev pub bad_range : List ℕ → MiniHeader → Option ℕ
bad_range f h = if h.dumpavailsize == 0 then None else first_bad (ranges_of f h)

abbrev pub by_ranges : List ℕ → MiniHeader → Option ℕ → Result Sections OpenFault
by_ranges f h (Some index) = Err (BadAvail index)
by_ranges f h None = by_pages f (record { header = h; pages = pages_in f h; bits = bits_in f h })

-- by what the header page answers
abbrev pub by_header : List ℕ → Result MiniHeader MiniFault → Result Sections OpenFault
by_header f (Err fault) = Err (Mini fault)
by_header f (Ok h) = long_enough f (places_of h).pages (by_ranges f h (bad_range f h))

-- what opening a file's bytes answers
unfoldable pub opened : List ℕ → Result Sections OpenFault
opened f = long_enough f 4096 (by_header f (header_in (take 4096 f)))

-- what opening a file answers, if there is the file
abbrev pub opened_file : Option (List ℕ) → Result Sections OpenFault
opened_file None = Err NoFile
opened_file (Some f) = opened f

-- whether a bit is set, which none past the end is
abbrev pub has_bit : List Bool → ℕ → Bool
has_bit bits bit = unwrap_or (slice_get bits bit) false

-- where the page of a bit stands in the file, if it is dumped: behind the pages of the set bits below
abbrev pub offset_of_bit : Sections → ℕ → Option ℕ
offset_of_bit s bit = if has_bit s.bits bit then Some ((places_of s.header).pages + 4096 * set_count (take bit s.bits)) else None

-- where the page of a physical address stands in the file, if it is dumped
abbrev pub page_offset : Sections → ℕ → Option ℕ
page_offset s pa = option_and_then (offset_of_bit s) (bit_of s.pages pa)

-- What a call may answer, by what it answers of the file: a fault of the site says nothing of the file, and want of memory
-- comes only where memory is taken.
abbrev pub IsAnswer : Result Sections OpenFault → (memory_is_taken : Type 0) → Result Sections OpenFault → Type 0
IsAnswer answer memory_is_taken (Err SiteFault) = Unit {0}
IsAnswer answer memory_is_taken (Err NoMemory) = memory_is_taken
IsAnswer answer memory_is_taken result = answer ≡ result

-- a file with a header page that is taken, and with all that stands before its dumped pages
abbrev pub HasSections : List ℕ → Type 0
HasSections f = IsOkAnd (header_in (take 4096 f)) (λ h. (places_of h).pages ≤ length f)

-- what opening a file may answer: memory is taken only for a file that has its sections
abbrev pub IsOpening : Option (List ℕ) → Result Sections OpenFault → Type 0
IsOpening file result = IsAnswer (opened_file file) (IsSomeAnd file HasSections) result
