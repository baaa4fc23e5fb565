-- The ranges of physical memory in a vmcore, and the pages that have a bit.
-- Source: dump_avail in the kernel's minidump_machdep.c; that a size of 0 stands for all pages is that of older minidumps.
use Rattle.std.specs.Prelude.{ℕ, ◌+◌, ◌*◌, ◌/◌, Bool, not, ◌==◌, if◌then◌else◌, List, map, slice_range}
use Rattle.std.specs.List.{range_with_len, take_while}
use Rattle.fd_bytes.specs.Field.{u64_le_at}
use Rattle.fd_mini.specs.Places.{places_of}
use Rattle.fd_mini.specs.declared.header.MiniHeader.{MiniHeader}
use Rattle.fd_bitmap.specs.Pages.{consecutive, pages_of}

-- the pair of this index: a start and an end
abbrev pub pair_at : List ℕ → ℕ → ℕ × ℕ
pair_at section index = (u64_le_at section (16 * index), u64_le_at section (16 * index + 8))

-- a pair whose end is 0 ends the list
abbrev pub goes_on : ℕ × ℕ → Bool
goes_on pair = not (pair.1 == 0)

-- the pairs of a section, up to the first whose end is 0; bytes that are no whole pair are ignored
abbrev pub pairs_in : List ℕ → (size : ℕ) → List (ℕ × ℕ)
pairs_in section size = take_while goes_on (map (pair_at section) (range_with_len 0 (size / 16)))

-- the section dump_avail of a file
abbrev pub avail_section : List ℕ → MiniHeader → List ℕ
avail_section f h = slice_range f (places_of h).avail ((places_of h).avail + h.dumpavailsize)

-- the file's ranges
abbrev pub ranges_of : List ℕ → MiniHeader → List (ℕ × ℕ)
ranges_of f h = pairs_in (avail_section f h) h.dumpavailsize

-- the pages that have a bit, in the order of their bits: those of the ranges, or all of them from the first on
abbrev pub pages_in : List ℕ → MiniHeader → List ℕ
pages_in f h = if h.dumpavailsize == 0 then consecutive 0 (8 * h.bitmapsize) else pages_of (ranges_of f h)
