-- Words and pages of a machine image at physical addresses.
use Rattle.std.specs.Prelude.{ℕ, ◌+◌, ◌-◌, ◌%◌, ◌*◌, Bool, ◌&&◌, nat_le, nat_lt, if◌then◌else◌, List, [], find, slice_range, Option, None, option_map, unwrap_or}
use Rattle.fd_bytes.specs.Field.{u64_le_at}
use Rattle.fd_image.specs.Image.{MachineImage, end_of, is_multiple}
use Rattle.fd_image.specs.declared.parts.Seg.{Seg}

-- the segment has a byte at this address
abbrev pub has_address : ℕ → Seg → Bool
has_address pa seg = nat_le seg.start pa && nat_lt pa (end_of seg)

-- the segment in which an address lies
abbrev pub segment_of : MachineImage → ℕ → Option Seg
segment_of m pa = find (has_address pa) m.segs

-- the first address of the page of an address
abbrev pub page_start : ℕ → ℕ
page_start pa = pa - pa % 4096

-- the physical word: the little-endian number of the eight bytes at an address that is a multiple of 8 and lies in a
-- segment
abbrev pub word_in : Seg → ℕ → ℕ
word_in seg pa = u64_le_at seg.bytes (pa - seg.start)

unfoldable pub word_of : MachineImage → ℕ → Option ℕ
word_of m pa = if is_multiple 8 pa then option_map (λ seg. word_in seg pa) (segment_of m pa) else None

-- the physical page: the 4096 bytes of the page of an address that lies in a segment
abbrev pub page_in : Seg → ℕ → List ℕ
page_in seg pa = slice_range seg.bytes (page_start pa - seg.start) (page_start pa - seg.start + 4096)

unfoldable pub page_of : MachineImage → ℕ → Option (List ℕ)
page_of m pa = option_map (λ seg. page_in seg pa) (segment_of m pa)

-- the physical pages from an address on: the bytes of at most this many, from the page of the address on, as far as its
-- segment goes; none where it lies in no segment
abbrev pub pages_in : Seg → ℕ → ℕ → List ℕ
pages_in seg pa most = slice_range seg.bytes (page_start pa - seg.start) (page_start pa - seg.start + 4096 * most)

unfoldable pub pages_from : MachineImage → ℕ → ℕ → List ℕ
pages_from m pa most = unwrap_or (option_map (λ seg. pages_in seg pa most) (segment_of m pa)) []
