-- The machine image of an architecture and a number. It is this project's own, and keeps all rules of an image.
use Rattle.std.specs.Prelude.{ℕ, ◌+◌, ◌*◌, ◌-◌, ◌%◌, ◌^◌, ◌==◌, false, List, [], ◌∷◌, ◌++◌, map, codes}
use Rattle.std.specs.Fmt.{decimal}
use Rattle.std.specs.List.{filter, range_with_len}
use Rattle.fd_bytes.specs.declared.arch.Arch.{Arch}
use Rattle.fd_image.specs.Image.{MachineImage, end_of}
use Rattle.fd_image.specs.declared.parts.Seg.{Seg}
use Rattle.fd_image.specs.declared.parts.Texts.{Texts}
use Rattle.fd_gen.specs.Entries.{entry_at}
use Rattle.fd_gen.specs.Layout.{data_pages, first_pages, upper_tables, last_tables, data_address, windows_of}
use Rattle.fd_gen.specs.Spelled.{pages_of}

-- the word of data at a physical address
abbrev pub data_word : (number pa : ℕ) → ℕ
data_word number pa = (pa + number * 2 ^ 40) % 2 ^ 64

-- a segment of page tables, and one of data
abbrev pub table_segment : Arch → (pages : ℕ) → Seg
table_segment arch pages = record {
  start = 0x8000_0000;
  bytes = pages_of (entry_at arch pages) (upper_tables arch + last_tables pages);
}

abbrev pub data_segment : (number start count : ℕ) → Seg
data_segment number first count = record {
  start = first;
  bytes = pages_of (λ page index. data_word number (first + 4096 * page + 8 * index)) count;
}

-- the segments: the page tables, and the data in two parts
unfoldable pub segments : Arch → ℕ → List Seg
segments arch number =
    let pages = data_pages number in
    table_segment arch pages
    ∷ data_segment number 0x9000_0000 (first_pages pages)
    ∷ data_segment number 0xa000_0000 (pages - first_pages pages) ∷ []

-- a segment's first address and the address past its last
abbrev pub extent_of : Seg → ℕ × ℕ
extent_of seg = (seg.start, end_of seg)

-- wanted are the first table, and of every six pages of data the third
unfoldable pub wanted_pages : (pages : ℕ) → List ℕ
wanted_pages pages = 0x8000_0000 ∷ map (data_address pages) (filter (λ page. page % 6 == 2) (range_with_len 0 pages))

-- printable characters in turn
unfoldable pub message_bytes : (number len : ℕ) → List ℕ
message_bytes number len = map (λ at. 0x20 + (at + number) % 95) (range_with_len 0 len)

unfoldable pub texts_of : ℕ → Texts
texts_of number = record {
  host = codes "gen";
  version = codes "FreeBSD 14 generated";
  panic = codes "generated " ++ decimal number;
  msgbuf = message_bytes number 8000;
  time = 1700000000;
}

-- the image: all its segments are available memory, and its tables have the architecture's usual levels
unfoldable pub generated : Arch → ℕ → MachineImage
generated arch number = record {
  arch = arch;
  sv48 = false;
  segs = segments arch number;
  avail = map extent_of (segments arch number);
  wanted = wanted_pages (data_pages number);
  root = 0x8000_0000;
  windows = windows_of arch (data_pages number);
  texts = texts_of number;
}
