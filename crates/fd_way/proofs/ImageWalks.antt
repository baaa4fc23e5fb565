-- The walk of an image's minidump gives the image's pages.
--
-- Piece by piece of the kernel window: the directory translates the piece's address as the image's tables do, and the last
-- entry allows what the leaf there allows (`Translated`); the page stands where the set bits below say (`Located`). Bit by bit:
-- the bits of the file are those of the image, with clear ones behind them.
use Rattle.std.proofs.Common.{◌≡◌, ℕ, ◌+◌, ◌-◌, ◌*◌, ◌/◌, ◌%◌, ◌^◌, ◌<◌, ◌≤◌, min, Bool, true, false, if◌then◌else◌, not, List, ◌++◌}
use Rattle.std.proofs.Common.{filter, length, take, get_or, Option, Some, None, Result, Ok, Err, refl, sym, ◌∙◌, ap, arith, append-nil}
use Rattle.std.specs.Int.{div_ceil}
use Rattle.std.specs.List.{filter_map, range_with_len}
use Rattle.std.specs.Option.{option_and_then, option_map}
use Rattle.std.proofs.lemmas.List.{get_or-map, get_or_append_left, take-append-le, length-append, length-map}
use Rattle.std.proofs.lemmas.Option.{slice_get-get_or, slice_get_past, unwrap_or-slice_get}
use Rattle.fd_bytes.specs.declared.arch.Arch.{Arch}
use Rattle.fd_bytes.specs.declared.arch.Arch.TheVariants.{Amd64, Arm64, Riscv}
use Rattle.fd_image.specs.Image.{MachineImage, IsValid}
use Rattle.fd_image.specs.Physical.{page_start}
use Rattle.fd_image.specs.declared.parts.Windows.{Windows}
use Rattle.fd_pte.specs.Architecture.{directory_height_of}
use Rattle.fd_pte.specs.Entry.{bytes_under}
use Rattle.fd_bitmap.specs.Bits.{set_count}
use Rattle.fd_bitmap.specs.Pages.{bit_of, page_of, pages_of}
use Rattle.fd_mini.specs.Places.{places_of}
use Rattle.fd_mini.specs.declared.address_fault.AddressFault.{AddressFault}
use Rattle.fd_mini.specs.declared.header.MiniHeader.{MiniHeader}
use Rattle.fd_vmcore.specs.Sections.{Sections, has_bit, offset_of_bit}
use Rattle.fd_kvm.specs.Walk.{dumped_page, dumped_pages, has_page, mapped_page, page_at, page_of_bit, piece_count, walk_by_sections, walk_in, walk_of, window_page, window_pages}
use Rattle.fd_kvm.specs.declared.page.Page.{Page}
use Rattle.fd_kvm.proofs.Visited.{mapped_more, mapped_none, mapped_same}
use Rattle.fd_dump.proofs.Limits.{IsDivided, window_divided}
use Rattle.fd_dump.proofs.Sizes.{length-bits}
use Rattle.fd_dump.specs.Dumped.{is_dumped, dumped_bits, pages_with_bits}
use Rattle.fd_dump.specs.Minidump.{entry_count, mini_header_of, minidump_of}
use Rattle.fd_dump.specs.Translation.{by_tables}
use Rattle.fd_way.specs.ImageWalk.{image_walk, mapped_pages, page_of_translation, page_with_bit, pages_by_bit}
use Rattle.fd_way.proofs.Located.{with_bit}
use Rattle.fd_way.proofs.Opening.{AreReadBack, clear_bits, opens, sections_of}
use Rattle.fd_way.proofs.Translated.{by_directory_is, protection_is}
use Rattle.fd_way.proofs.Units.{entry_height}

map_if : {X Y : Type 0} (f : X → Y) (b : Bool) (x : X) → option_map f (if b then Some x else None) ≡ (if b then Some (f x) else None)
map_if f true x = refl
map_if f false x = refl

-- the window has as many pieces as its size says
pieces_of : (arch : Arch) (w : Windows) → IsDivided arch w
    → min (8 * (w.kernspan / bytes_under (directory_height_of arch)) / 8 * (bytes_under (directory_height_of arch) / 4096)) (div_ceil (2 ^ 64 - w.kernbase) 4096) ≡ w.kernspan / 4096
pieces_of Amd64 w divided = (let span : w.kernspan % bytes_under 2 ≡ 0 = divided.span in omega (arith, divided.end))
pieces_of Arm64 w divided = (let span : w.kernspan % bytes_under 1 ≡ 0 = divided.span in omega (arith, divided.end))
pieces_of Riscv w divided = (let span : w.kernspan % bytes_under 1 ≡ 0 = divided.span in omega (arith, divided.end))

-- the directory has an entry for each piece
entry_of : (arch : Arch) (w : Windows) (piece : ℕ) → IsDivided arch w → piece < w.kernspan / 4096
    → (w.kernbase + 4096 * piece - w.kernbase) / bytes_under (directory_height_of arch) < w.kernspan / bytes_under (directory_height_of arch)
entry_of Amd64 w piece divided within = (let span : w.kernspan % bytes_under 2 ≡ 0 = divided.span in omega arith)
entry_of Arm64 w piece divided within = (let span : w.kernspan % bytes_under 1 ≡ 0 = divided.span in omega arith)
entry_of Riscv w piece divided within = (let span : w.kernspan % bytes_under 1 ≡ 0 = divided.span in omega arith)

module _ (m : MachineImage) (valid : IsValid m) where
  abbrev file : List ℕ
  file = minidump_of m

  abbrev header : MiniHeader
  header = mini_header_of m

  abbrev sections : Sections
  sections = sections_of m

  abbrev start : ℕ
  start = (places_of header).pages

  -- a page of the file is the image's
  by_bit_of :
      (kva : Option ℕ) (prot pa : ℕ) (bit : Option ℕ) → bit_of (pages_of m.avail) pa ≡ bit
      → option_map (page_at header (pa / 4096 * 4096) kva prot) (option_and_then (offset_of_bit sections) bit) ≡ page_with_bit m kva prot (page_start pa) bit
  by_bit_of kva prot pa None is = refl
  by_bit_of kva prot pa (Some bit) is =
      let has = with_bit m valid pa bit is in
      let bits : List Bool = dumped_bits m ++ clear_bits m in
      let first : pa / 4096 * 4096 ≡ page_start pa = omega arith in
      let page : ℕ → Page = page_at header (pa / 4096 * 4096) kva prot in
      ap (λ (b : Bool). option_map page (if b then Some (start + 4096 * set_count (take bit bits)) else None)) has.is_set
      ∙ ap (λ (l : List Bool). option_map page (if is_dumped m (page_start pa) then Some (start + 4096 * set_count l) else None)) has.below
      ∙ map_if page (is_dumped m (page_start pa)) (start + 4096 * set_count (take bit (dumped_bits m)))
      ∙ ap (λ n. if is_dumped m (page_start pa) then Some (page_at header n kva prot (start + 4096 * set_count (take bit (dumped_bits m)))) else None) first

  same_page : (kva : Option ℕ) (prot pa : ℕ) → dumped_page sections kva prot pa ≡ page_with_bit m kva prot (page_start pa) (bit_of (pages_of m.avail) pa)
  same_page kva prot pa = by_bit_of kva prot pa (bit_of (pages_of m.avail) pa) refl

  -- the page of an address of the kernel window
  module _ (va : ℕ) (from : m.windows.kernbase ≤ va) (within : (va - m.windows.kernbase) / bytes_under (directory_height_of m.arch) < entry_count m) where
    by_answer : (answer : Result ℕ AddressFault) → by_tables m va ≡ answer → mapped_page file sections va answer ≡ page_of_translation m va answer
    by_answer (Err fault) is = refl
    by_answer (Ok pa) is = ap (λ prot. dumped_page sections (Some va) prot pa) (protection_is m valid va from within pa is) ∙ same_page (Some va) _ pa

    same_mapped : window_page file sections va ≡ page_of_translation m va (by_tables m va)
    unfolding window_page
    same_mapped = ap (mapped_page file sections va) (by_directory_is m valid va from within) ∙ by_answer (by_tables m va) refl

  pieces : piece_count header ≡ m.windows.kernspan / 4096
  pieces =
      ap (λ h. min (8 * entry_count m / 8 * (bytes_under h / 4096)) (div_ceil (2 ^ 64 - m.windows.kernbase) 4096)) (entry_height m)
      ∙ pieces_of m.arch m.windows (window_divided m valid)

  same_window : window_pages file sections ≡ mapped_pages m
  same_window =
      let count = m.windows.kernspan / 4096 in
      let of_file : ℕ → Option Page = λ piece. window_page file sections (m.windows.kernbase + 4096 * piece) in
      let of_image : ℕ → Option Page = λ piece. page_of_translation m (m.windows.kernbase + 4096 * piece) (by_tables m (m.windows.kernbase + 4096 * piece)) in
      ap (λ n. filter_map of_file (range_with_len 0 n)) pieces
      ∙ mapped_same of_file of_image 0 count (λ piece low high.
      same_mapped (m.windows.kernbase + 4096 * piece) (omega arith) (entry_of m.arch m.windows piece (window_divided m valid) (omega arith)))

  -- the page of a bit
  same_bit : (bit : ℕ) → bit < length (pages_with_bits m) → page_of_bit sections bit ≡ page_with_bit m None 3 (get_or (pages_with_bits m) bit 0) (Some bit)
  same_bit bit within =
      let inside : bit < length (pages_of m.avail) = omega (arith, length-map (pages_of m.avail) (λ (page : ℕ). page * 4096)) in
      let bits : List Bool = dumped_bits m ++ clear_bits m in
      let number : ℕ = get_or (pages_of m.avail) bit 0 in
      let address : get_or (pages_with_bits m) bit 0 ≡ number * 4096 = get_or-map (λ (page : ℕ). page * 4096) (pages_of m.avail) bit 0 0 inside in
      let there : page_of (pages_of m.avail) bit ≡ Some (number * 4096) = ap (option_map (λ (page : ℕ). page * 4096)) (slice_get-get_or (pages_of m.avail) bit 0 inside) in
      let long : bit < length (dumped_bits m) = omega (arith, inside, length-bits m) in
      let set : has_bit bits bit ≡ is_dumped m (get_or (pages_with_bits m) bit 0) =
      unwrap_or-slice_get bits bit false ∙ get_or_append_left (dumped_bits m) (clear_bits m) false bit long ∙ get_or-map (is_dumped m) (pages_with_bits m) bit 0 false within in
      let below : take bit bits ≡ take bit (dumped_bits m) = take-append-le bit (dumped_bits m) (clear_bits m) (omega arith) in
      let page : ℕ → Page = page_at header (number * 4096) None 3 in
      let dumped = is_dumped m (get_or (pages_with_bits m) bit 0) in
      ap (option_and_then (λ pa. option_map (page_at header pa None 3) (offset_of_bit sections bit))) there
      ∙ ap (λ (b : Bool). option_map page (if b then Some (start + 4096 * set_count (take bit bits)) else None)) set
      ∙ ap (λ (l : List Bool). option_map page (if dumped then Some (start + 4096 * set_count l) else None)) below
      ∙ map_if page dumped (start + 4096 * set_count (take bit (dumped_bits m)))
      ∙ ap (λ n. if dumped then Some (page_at header n None 3 (start + 4096 * set_count (take bit (dumped_bits m)))) else None) (sym address)

  past_pages : (bit : ℕ) → length (pages_of m.avail) ≤ bit → page_of_bit sections bit ≡ None
  past_pages bit past =
      ap (λ o. option_and_then (λ pa. option_map (page_at header pa None 3) (offset_of_bit sections bit)) (option_map (λ (page : ℕ). page * 4096) o)) (slice_get_past (pages_of m.avail) bit past)

  same_dumped : dumped_pages sections ≡ pages_by_bit m
  same_dumped =
      let count = length (pages_with_bits m) in
      let more = length (clear_bits m) in
      let all : length (dumped_bits m ++ clear_bits m) ≡ count + more = length-append (dumped_bits m) (clear_bits m) ∙ ap (λ n. n + more) (length-map (pages_with_bits m) (is_dumped m)) in
      let of_image : ℕ → Option Page = λ bit. page_with_bit m None 3 (get_or (pages_with_bits m) bit 0) (Some bit) in
      let past : length (pages_of m.avail) ≡ count = sym (length-map (pages_of m.avail) (λ (page : ℕ). page * 4096)) in
      ap (λ n. filter_map (page_of_bit sections) (range_with_len 0 n)) all
      ∙ mapped_more (page_of_bit sections) 0 count more
      ∙ ap (λ l. filter_map (page_of_bit sections) (range_with_len 0 count) ++ l)
      (mapped_same (page_of_bit sections) (λ bit. None) (0 + count) more (λ bit low high. past_pages bit (omega arith)) ∙ mapped_none (λ bit. None) (0 + count) more (λ bit. refl))
      ∙ append-nil (filter_map (page_of_bit sections) (range_with_len 0 count))
      ∙ mapped_same (page_of_bit sections) of_image 0 count (λ bit low high. same_bit bit (omega arith))

  same_walk : walk_of file sections ≡ image_walk m
  unfolding walk_of image_walk
  same_walk =
      ap (λ l. l ++ filter (λ page. not (has_page l page.offset)) (dumped_pages sections)) same_window
      ∙ ap (λ l. mapped_pages m ++ filter (λ page. not (has_page (mapped_pages m) page.offset)) l) same_dumped

  pub walk_is : AreReadBack → walk_in file ≡ Ok (image_walk m)
  walk_is back = ap (walk_by_sections file) (opens m valid back) ∙ ap (λ l. Ok l) same_walk
