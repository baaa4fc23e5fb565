-- Where the sections of an image's minidump stand, and how long they are.
use Rattle.std.proofs.Common.{◌≡◌, ℕ, ◌+◌, List, [], ◌++◌, length, ◌∙◌, ap, arith, append_assoc, append-nil, length-append}
use Rattle.std.specs.Int.{div_ceil}
use Rattle.fd_image.specs.Image.{MachineImage, IsValid}
use Rattle.fd_mini.specs.Page as mini
use Rattle.fd_mini.specs.Places.{rounded_up, places_of}
use Rattle.fd_mini.specs.declared.header.MiniHeader.{MiniHeader}
use Rattle.fd_mini.proofs.Layouts.{length-page_of}
use Rattle.fd_dump.specs.Dumped.{tables_in, dumped_bits}
use Rattle.fd_dump.specs.Minidump.{filled, avail_bytes, bitmap_bytes, form_of, entry_count, directory_of, memory_of, mini_header_of, minidump_of}
use Rattle.fd_dump.proofs.Directory.{whole_of}
use Rattle.fd_dump.proofs.Limits.{window_divided}
use Rattle.fd_dump.proofs.Sizes as sizes
use Rattle.fd_dump.proofs.Sizes.{length-filled, length-directory}
use Rattle.fd_dump.proofs.Stands.{Stands}

-- a multiple of a page's size is rounded up already
rounded_up-twice : (size : ℕ) → rounded_up (rounded_up size) ≡ rounded_up size
rounded_up-twice size = omega arith

-- six pieces joined, each between those before it and those behind it
module _ (p m a b d r : List ℕ) where
  first : p ++ m ++ a ++ b ++ d ++ r ≡ [] ++ (p ++ (m ++ a ++ b ++ d ++ r))
  first = simp append_assoc

  second : p ++ m ++ a ++ b ++ d ++ r ≡ p ++ (m ++ (a ++ b ++ d ++ r))
  second = simp append_assoc

  third : p ++ m ++ a ++ b ++ d ++ r ≡ (p ++ m) ++ (a ++ (b ++ d ++ r))
  third = simp append_assoc

  fourth : p ++ m ++ a ++ b ++ d ++ r ≡ (p ++ m ++ a) ++ (b ++ (d ++ r))
  fourth = simp append_assoc

  fifth : p ++ m ++ a ++ b ++ d ++ r ≡ (p ++ m ++ a ++ b) ++ (d ++ r)
  fifth = simp append_assoc

  sixth : p ++ m ++ a ++ b ++ d ++ r ≡ (p ++ m ++ a ++ b ++ d) ++ (r ++ [])
  sixth = simp (append_assoc, append-nil)

module _ (m : MachineImage) (valid : IsValid m) where
  -- the file, its header and its sections
  abbrev file : List ℕ
  file = minidump_of m

  abbrev header : MiniHeader
  header = mini_header_of m

  abbrev page : List ℕ
  page = mini.page_of header

  abbrev msgbuf : List ℕ
  msgbuf = filled m.texts.msgbuf

  abbrev ranges : List ℕ
  ranges = filled (avail_bytes m.avail)

  abbrev bitmap : List ℕ
  bitmap = filled (bitmap_bytes (dumped_bits m))

  pub length-ranges : length ranges ≡ header.dumpavailsize
  length-ranges = length-filled (avail_bytes m.avail)

  pub length-bitmap : length bitmap ≡ header.bitmapsize
  length-bitmap = length-filled (bitmap_bytes (dumped_bits m)) ∙ ap rounded_up (sizes.length-bitmap (dumped_bits m))

  pub length-directory_of : length (directory_of m) ≡ header.pmapsize
  length-directory_of = length-directory (tables_in m) (form_of m) m.windows.kernbase (entry_count m)

  -- the directory is a multiple of a page's size
  directory_rounded : rounded_up header.pmapsize ≡ header.pmapsize
  directory_rounded = omega (arith, whole_of m.arch m.windows (window_divided m valid))

  pub Stands-header : Stands page 0 file
  unfolding minidump_of
  Stands-header = record {
    front = [];
    rest = msgbuf ++ ranges ++ bitmap ++ directory_of m ++ memory_of m;
    before = omega arith;
    joined = first page msgbuf ranges bitmap (directory_of m) (memory_of m);
  }

  pub Stands-msgbuf : Stands msgbuf (places_of header).msgbuf file
  unfolding minidump_of
  Stands-msgbuf = record {
    front = page;
    rest = ranges ++ bitmap ++ directory_of m ++ memory_of m;
    before = length-page_of header;
    joined = second page msgbuf ranges bitmap (directory_of m) (memory_of m);
  }

  before_ranges : length (page ++ msgbuf) ≡ (places_of header).avail
  before_ranges = omega (arith, length-append page msgbuf, length-page_of header, length-filled m.texts.msgbuf)

  pub Stands-ranges : Stands ranges (places_of header).avail file
  unfolding minidump_of
  Stands-ranges = record {
    front = page ++ msgbuf;
    rest = bitmap ++ directory_of m ++ memory_of m;
    before = before_ranges;
    joined = third page msgbuf ranges bitmap (directory_of m) (memory_of m);
  }

  before_bitmap : length (page ++ msgbuf ++ ranges) ≡ (places_of header).bitmap
  before_bitmap = omega (arith, length-append (page ++ msgbuf) ranges, before_ranges, length-ranges, rounded_up-twice (length (avail_bytes m.avail)))

  pub Stands-bitmap : Stands bitmap (places_of header).bitmap file
  unfolding minidump_of
  Stands-bitmap = record {
    front = page ++ msgbuf ++ ranges;
    rest = directory_of m ++ memory_of m;
    before = before_bitmap;
    joined = fourth page msgbuf ranges bitmap (directory_of m) (memory_of m);
  }

  before_directory : length (page ++ msgbuf ++ ranges ++ bitmap) ≡ (places_of header).directory
  before_directory = omega (arith, length-append (page ++ msgbuf ++ ranges) bitmap, before_bitmap, length-bitmap, rounded_up-twice (div_ceil (length (dumped_bits m)) 8))

  pub Stands-directory : Stands (directory_of m) (places_of header).directory file
  unfolding minidump_of
  Stands-directory = record {
    front = page ++ msgbuf ++ ranges ++ bitmap;
    rest = memory_of m;
    before = before_directory;
    joined = fifth page msgbuf ranges bitmap (directory_of m) (memory_of m);
  }

  before_memory : length (page ++ msgbuf ++ ranges ++ bitmap ++ directory_of m) ≡ (places_of header).pages
  before_memory = omega (arith, length-append (page ++ msgbuf ++ ranges ++ bitmap) (directory_of m), before_directory, length-directory_of, directory_rounded)

  pub Stands-memory : Stands (memory_of m) (places_of header).pages file
  unfolding minidump_of
  Stands-memory = record {
    front = page ++ msgbuf ++ ranges ++ bitmap ++ directory_of m;
    rest = [];
    before = before_memory;
    joined = sixth page msgbuf ranges bitmap (directory_of m) (memory_of m);
  }

  pub length-file : length file ≡ (places_of header).pages + length (memory_of m)
  unfolding minidump_of
  length-file =
      length-append (page ++ msgbuf ++ ranges ++ bitmap ++ directory_of m) (memory_of m) ∙ ap (λ n. n + length (memory_of m)) before_memory
