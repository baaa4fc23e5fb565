-- The minidump of a machine image: the header page, the message buffer, the ranges of available memory, the bitmap, the
-- page directory and the dumped pages, each filled with zeros to a multiple of 4096 bytes.
-- Source: sys/amd64/include/minidump.h, sys/arm64/include/minidump.h and sys/riscv/include/minidump.h.
use Rattle.std.specs.Prelude.{ℕ, ◌-◌, ◌*◌, ◌/◌, Bool, List, ◌++◌, length, map, replicate}
use Rattle.std.specs.Int.{w64, to_le_bytes, div_ceil}
use Rattle.std.specs.List.{concat, filter_map, flat_map, range_with_len}
use Rattle.fd_bytes.specs.Profile.{profile_of}
use Rattle.fd_image.specs.Image.{MachineImage}
use Rattle.fd_image.specs.Physical as physical
use Rattle.fd_pte.specs.Architecture.{directory_height_of, expansion_of}
use Rattle.fd_pte.specs.Entry.{bytes_under}
use Rattle.fd_walk.specs.Directory.{DirectoryForm, directory_form, directory_bytes}
use Rattle.fd_bitmap.specs.Bits.{byte_at}
use Rattle.fd_mini.specs.Page as mini
use Rattle.fd_mini.specs.Places.{rounded_up}
use Rattle.fd_mini.specs.declared.header.MiniHeader.{MiniHeader}
use Rattle.fd_dump.specs.Dumped.{tables_in, dumped_bits, dumped_pages}

-- a section's bytes, and zeros to a multiple of 4096
abbrev pub filled : List ℕ → List ℕ
filled bytes = bytes ++ replicate (rounded_up (length bytes) - length bytes) 0

-- dump_avail: the pairs, and a pair of zeros
abbrev pub avail_bytes : List (ℕ × ℕ) → List ℕ
avail_bytes avail = flat_map (λ pair. to_le_bytes w64 pair.0 ++ to_le_bytes w64 pair.1) avail ++ replicate 16 0

-- so many bytes as bits take, the lowest bit of a byte first
abbrev pub bitmap_bytes : List Bool → List ℕ
bitmap_bytes bits = map (byte_at bits) (range_with_len 0 (div_ceil (length bits) 8))

-- the form of the directory's entries, and how many there are
abbrev pub form_of : MachineImage → DirectoryForm
form_of m = directory_form (directory_height_of m.arch) (expansion_of m.arch)

abbrev pub entry_count : MachineImage → ℕ
entry_count m = m.windows.kernspan / bytes_under (directory_height_of m.arch)

-- the page directory of the kernel window
abbrev pub directory_of : MachineImage → List ℕ
directory_of m = directory_bytes (tables_in m) (form_of m) m.windows.kernbase (entry_count m)

-- the dumped pages' bytes
abbrev pub memory_of : MachineImage → List ℕ
memory_of m = concat (filter_map (physical.page_of m) (dumped_pages m))

-- the fields of the header page
abbrev pub mini_header_of : MachineImage → MiniHeader
mini_header_of m = record {
  arch = m.arch;
  version = (profile_of m.arch).minidump_version;
  msgbufsize = length m.texts.msgbuf;
  bitmapsize = rounded_up (div_ceil (length (dumped_bits m)) 8);
  pmapsize = 8 * entry_count m;
  kernbase = m.windows.kernbase;
  dmapphys = m.windows.dmapphys;
  dmapbase = m.windows.dmapbase;
  dmapend = m.windows.dmapend;
  dumpavailsize = rounded_up (length (avail_bytes m.avail));
  flags = 0;
}

-- the minidump
unfoldable pub minidump_of : MachineImage → List ℕ
minidump_of m =
    mini.page_of (mini_header_of m) ++ filled m.texts.msgbuf ++ filled (avail_bytes m.avail) ++ filled (bitmap_bytes (dumped_bits m)) ++ directory_of m ++ memory_of m
