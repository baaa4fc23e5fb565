-- What the parts of a walk give. No public clause cites these.
use Rattle.std.specs.Prelude.{◌≡◌, ℕ, ◌+◌, ◌-◌, ◌*◌, ◌/◌, ◌%◌, ◌<◌, Bool, true, ◌||◌, if◌then◌else◌, min, List, length, take, slice_range, Option, Some, None, Result, Ok, Err}
use Rattle.std.specs.List.{filter_map, range_with_len}
use Rattle.fd_site.specs.declared.fault.SiteFault.{SiteFault}
use Rattle.fd_bytes.specs.Field.{u64_le_at}
use Rattle.fd_bitmap.specs.Bits.{set_count}
use Rattle.fd_mini.specs.Layout.{unit_of}
use Rattle.fd_mini.specs.Places.{places_of}
use Rattle.fd_pte.specs.Architecture.{kind_of}
use Rattle.fd_pte.specs.declared.entry.Kind.{Kind}
use Rattle.fd_pte.specs.declared.entry.Kind.TheVariants.{Absent, Table, Leaf}
use Rattle.fd_vmcore.specs.Sections.{Sections, has_bit, page_offset}
use Rattle.fd_kvm.specs.Visits.{AreFirst, AreGiven, Took}
use Rattle.fd_kvm.specs.Walk.{dumped_page, has_page, page_of_bit, pages_of_pieces, piece_count, protection_of}
use Rattle.fd_kvm.specs.declared.page.Page.{Page}

-- where the dumped pages begin in the file
abbrev pub first_place : Sections → ℕ
first_place s = (places_of s.header).pages

-- exactly the marks of these pages were added: the mark of a page has the number of the page's place in the file
pub record AreMarked (s : Sections) (pages : List Page) (before after : List Bool) : Type 0 where
  pub len : length after ≡ length before
  pub marks : (number : ℕ) → number < length before → has_bit after number ≡ (has_bit before number || has_page pages (first_place s + 4096 * number))

-- the page stands at the place of this number, of which there is a mark
pub record HasNumber (s : Sections) (page : Page) : Type 0 where
  pub number : ℕ
  pub place : page.offset ≡ first_place s + 4096 * number
  pub marked : number < set_count s.bits

-- by what a part of a walk answers
abbrev pub goes_on : Result Bool SiteFault → Bool
goes_on (Ok went_on) = went_on
goes_on (Err fault) = true

abbrev pub AreOfPart : (all pages : List Page) → Result Bool SiteFault → Type 0
AreOfPart all pages (Ok went_on) = AreGiven pages all went_on
AreOfPart all pages (Err fault) = AreFirst pages all

-- what a visitor took
pub record IsTaken {V : Type 0} (took : V → Page → Bool → V → Type 0) (old new : V) (went_on : Bool) (Are : List Page → Type 0) : Type 0 where
  pub pages : List Page
  pub taken : Took took old pages went_on new
  pub are : Are pages

-- what a visitor took in a part of a walk, and that it was marked
pub record IsPart {V : Type 0} (took : V → Page → Bool → V → Type 0) (s : Sections) (old new : V) (before after : List Bool) (went_on : Bool) (Are : List Page → Type 0) : Type 0 where
  pub pages : List Page
  pub taken : Took took old pages went_on new
  pub marked : AreMarked s pages before after
  pub are : Are pages

-- the page of a piece of the kernel window, by the directory's entry, its kind, and the page table that it names
abbrev pub by_last_entry : Sections → (va entry : ℕ) → Kind → Option Page
by_last_entry s va entry (Leaf address) = dumped_page s (Some va) (protection_of s.header.arch entry) (address + va % 4096)
by_last_entry s va entry kind = None

abbrev pub table_word : (table : List ℕ) → (va : ℕ) → ℕ
table_word table va = u64_le_at table (8 * (va / 4096 % 512))

unfoldable pub page_by_kind : Sections → (bits : ℕ) → (table : List ℕ) → Kind → (va : ℕ) → Option Page
page_by_kind s bits table Absent va = None
page_by_kind s bits table (Leaf address) va =
    dumped_page s (Some va) (protection_of s.header.arch bits) (address + (va - s.header.kernbase) % unit_of s.header)
page_by_kind s bits table (Table place) va = by_last_entry s va (table_word table va) (kind_of s.header.arch (table_word table va) 0)

-- the pages of so many pieces by the same entry
abbrev pub pages_by_kind : Sections → (bits : ℕ) → (table : List ℕ) → Kind → (first count : ℕ) → List Page
pages_by_kind s bits table kind first count =
    filter_map (λ piece. page_by_kind s bits table kind (s.header.kernbase + 4096 * piece)) (range_with_len first count)

-- the page of a bit, unless it is marked
abbrev pub unless_marked : List Bool → (number : ℕ) → Option Page → Option Page
unless_marked marks number page = if has_bit marks number then None else page

abbrev pub other_page : Sections → List Bool → (bit : ℕ) → Option Page
other_page s marks bit = unless_marked marks (set_count (take bit s.bits)) (page_of_bit s bit)

abbrev pub other_pages : Sections → List Bool → (count : ℕ) → List Page
other_pages s marks count = filter_map (other_page s marks) (range_with_len 0 count)

-- a page table that was read, by where it stands, if it is dumped: else the entry that names it stands for nothing
abbrev pub IsTableAt : List ℕ → (kind : Kind) → Option ℕ → (found : Kind) → (table : List ℕ) → Type 0
IsTableAt f kind None found table = found ≡ Absent
IsTableAt f kind (Some place) found table = (found ≡ kind) × (table ≡ slice_range f place (place + 4096))

-- the kind of an entry, with the page table that it names
abbrev pub IsTable : List ℕ → Sections → (kind found : Kind) → (table : List ℕ) → Type 0
IsTable f s (Table place) found table = IsTableAt f (Table place) (page_offset s place) found table
IsTable f s kind found table = found ≡ kind

-- the block of 4096 bytes of the directory in which the entry of this index stands
abbrev pub IsBlock : List ℕ → Sections → (index : ℕ) → (block : List ℕ) → Type 0
IsBlock f s index block =
    let place = (places_of s.header).directory + 4096 * (index / 512) in
    block ≡ slice_range f place (place + 4096)

-- how many pieces an entry of the directory maps
abbrev pub entry_pieces : Sections → ℕ
entry_pieces s = unit_of s.header / 4096

-- the pages of the first so many entries of the directory
abbrev pub pages_of_entries : List ℕ → Sections → (count : ℕ) → List Page
pages_of_entries f s count = pages_of_pieces f s 0 (min (entry_pieces s * count) (piece_count s.header))

-- the pieces of the entry of this index: the first, and how many they are
abbrev pub first_of_entry : Sections → (index : ℕ) → ℕ
first_of_entry s index = entry_pieces s * index

abbrev pub count_of_entry : Sections → (index : ℕ) → ℕ
count_of_entry s index = min (first_of_entry s index + entry_pieces s) (piece_count s.header) - first_of_entry s index

-- its pages
abbrev pub pages_of_entry : List ℕ → Sections → (index : ℕ) → List Page
pages_of_entry f s index = pages_of_pieces f s (first_of_entry s index) (count_of_entry s index)
