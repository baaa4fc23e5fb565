-- The pages of pieces of the kernel window by the directory's entry, and by the file.
use Rattle.std.proofs.Common.{◌≡◌, ℕ, ◌+◌, ◌-◌, ◌*◌, ◌/◌, ◌%◌, ◌^◌, ◌<◌, ◌≤◌, ◌⊎◌, inl, inr, Bool, true, false, if◌then◌else◌, nat_le, min, List, []}
use Rattle.std.proofs.Common.{◌++◌, take, drop, slice_range, Option, Some, None, Result, Ok, Err, refl, sym, ap, subst, ◌∙◌, arith, append_assoc}
use Rattle.std.specs.Int.{w64, div_ceil, from_le_bytes}
use Rattle.std.specs.List.{filter_map, range_with_len}
use Rattle.std.proofs.lemmas.List.{take-take, drop-take, drop-drop}
use Rattle.fd_bytes.specs.Field.{u64_le_at}
use Rattle.fd_bytes.specs.Profile.{profile_of}
use Rattle.fd_bytes.specs.declared.arch.Arch.{Arch}
use Rattle.fd_bytes.specs.declared.arch.Arch.TheVariants.{Amd64, Arm64, Riscv}
use Rattle.fd_mini.specs.Layout.{entry_height_of, unit_of}
use Rattle.fd_mini.specs.Places.{places_of}
use Rattle.fd_mini.specs.declared.header.MiniHeader.{MiniHeader}
use Rattle.fd_mini.specs.declared.address_fault.AddressFault.{AddressFault}
use Rattle.fd_pte.specs.Architecture.{kind_of}
use Rattle.fd_pte.specs.declared.entry.Kind.{Kind}
use Rattle.fd_pte.specs.declared.entry.Kind.TheVariants.{Absent, Table, Leaf}
use Rattle.fd_vmcore.specs.Sections.{Sections, page_offset}
use Rattle.fd_kvm.specs.Parts.{IsTable, IsTableAt, by_last_entry, entry_pieces, page_by_kind, pages_by_kind, pages_of_entries, pages_of_entry, table_word}
use Rattle.fd_kvm.specs.Place.{by_directory, by_entry, by_table, by_table_entry, directory_entry, entry_index, table_entry}
use Rattle.fd_kvm.specs.Visits.{AreFirst}
use Rattle.fd_kvm.specs.Walk.{dumped_page, entry_by_kind, entry_by_table, last_entry, mapped_page, pages_of_pieces, piece_count, protection_of, window_page, window_pages}
use Rattle.fd_kvm.specs.declared.page.Page.{Page}
use Rattle.fd_kvm.proofs.Visited.{mapped_more, mapped_none, mapped_same}

-- an entry that stands for nothing has none
pub absent_none : (s : Sections) (bits : ℕ) (table : List ℕ) (kind : Kind) (first count : ℕ) → kind ≡ Absent → pages_by_kind s bits table kind first count ≡ []
unfolding page_by_kind
absent_none s bits table kind first count is =
    mapped_none (λ piece. page_by_kind s bits table kind (s.header.kernbase + 4096 * piece)) first count
    (λ n. ap (λ k. page_by_kind s bits table k (s.header.kernbase + 4096 * n)) is)

-- an entry of the directory maps one piece, or 512
one_or_many : (height : ℕ) → (height ≡ 0) ⊎ (height ≡ 1) → (2 ^ (12 + 9 * height) ≡ 4096) ⊎ (2 ^ (12 + 9 * height) ≡ 2097152)
one_or_many height (inl low) = inl (ap (λ n. 2 ^ (12 + 9 * n)) low)
one_or_many height (inr high) = inr (ap (λ n. 2 ^ (12 + 9 * n)) high)

directory_heights : (arch : Arch) → ((profile_of arch).directory_height ≡ 0) ⊎ ((profile_of arch).directory_height ≡ 1)
directory_heights Amd64 = inr refl
directory_heights Arm64 = inl refl
directory_heights Riscv = inl refl

heights : (arch : Arch) (test : Bool) → ((if test then (profile_of arch).directory_height else 0) ≡ 0) ⊎ ((if test then (profile_of arch).directory_height else 0) ≡ 1)
heights arch true = directory_heights arch
heights arch false = inl refl

pub units : (h : MiniHeader) → (unit_of h ≡ 4096) ⊎ (unit_of h ≡ 2097152)
units h = one_or_many (entry_height_of h) (heights h.arch (nat_le 2 h.version))

each_of : (h : MiniHeader) → ((unit_of h ≡ 4096) × (unit_of h / 4096 ≡ 1)) ⊎ ((unit_of h ≡ 2097152) × (unit_of h / 4096 ≡ 512))
each_of h = elim (units h) [ inl one ↦ inl (one, ap (λ n. n / 4096) one) | inr many ↦ inr (many, ap (λ n. n / 4096) many) ]

there_by : (unit each entries index : ℕ) → ((unit ≡ 4096) × (each ≡ 1)) ⊎ ((unit ≡ 2097152) × (each ≡ 512)) → each * index < entries * each → index < entries
there_by unit each entries index (inl one) within =
    let P : ℕ → Type 0 = λ n. n * index < entries * n in
    let w = subst P one.1 within in omega arith
there_by unit each entries index (inr many) within =
    let P : ℕ → Type 0 = λ n. n * index < entries * n in
    let w = subst P many.1 within in omega arith

-- the directory has an entry for each of its pieces
pub entry_there : (h : MiniHeader) (index : ℕ) → unit_of h / 4096 * index < piece_count h → index < h.pmapsize / 8
entry_there h index within = there_by (unit_of h) (unit_of h / 4096) (h.pmapsize / 8) index (each_of h) (omega arith)

-- each of its pieces has that entry
low_by : (unit each index count : ℕ) → ((unit ≡ 4096) × (each ≡ 1)) ⊎ ((unit ≡ 2097152) × (each ≡ 512)) → each * index < count → count ≤ 2 ^ 52 → index < 2 ^ 52
low_by unit each index count (inl one) within few = (let P : ℕ → Type 0 = λ n. n * index < count in let w = subst P one.1 within in omega arith)
low_by unit each index count (inr many) within few = (let P : ℕ → Type 0 = λ n. n * index < count in let w = subst P many.1 within in omega arith)

-- there are few of them
pub entry_low : (h : MiniHeader) (index : ℕ) → unit_of h / 4096 * index < piece_count h → index < 2 ^ 52
entry_low h index within = low_by (unit_of h) (unit_of h / 4096) index (piece_count h) (each_of h) within (omega arith)

same_entry_by : (unit each index piece : ℕ) → ((unit ≡ 4096) × (each ≡ 1)) ⊎ ((unit ≡ 2097152) × (each ≡ 512)) → each * index ≤ piece → piece < each * index + each → 4096 * piece / unit ≡ index
same_entry_by unit each index piece (inl one) low high =
    rw one.0 (let a : 1 * index ≤ piece = subst (λ n. n * index ≤ piece) one.1 low in let b : piece < 1 * index + 1 =
    subst (λ n. piece < n * index + n) one.1 high in omega arith)
same_entry_by unit each index piece (inr many) low high =
    rw many.0 (let a : 512 * index ≤ piece = subst (λ n. n * index ≤ piece) many.1 low in let b : piece < 512 * index + 512 =
    subst (λ n. piece < n * index + n) many.1 high in omega arith)

all_pieces : (unit each all count : ℕ) → ((unit ≡ 4096) × (each ≡ 1)) ⊎ ((unit ≡ 2097152) × (each ≡ 512)) → count ≡ div_ceil all each → min (each * count) all ≡ all
all_pieces unit each all count (inl one) is =
    let c : count ≡ div_ceil all 1 = is ∙ ap (div_ceil all) one.1 in
    ap (λ n. min (n * count) all) one.1 ∙ omega arith
all_pieces unit each all count (inr many) is =
    let c : count ≡ div_ceil all 512 = is ∙ ap (div_ceil all) many.1 in
    ap (λ n. min (n * count) all) many.1 ∙ omega arith

first_below : (unit each all index : ℕ) → ((unit ≡ 4096) × (each ≡ 1)) ⊎ ((unit ≡ 2097152) × (each ≡ 512)) → index < div_ceil all each → each * index < all
first_below unit each all index (inl one) within =
    let w : index < div_ceil all 1 = subst (λ n. index < div_ceil all n) one.1 within in
    let P : ℕ → Type 0 = λ n. n * index < all in subst P (sym one.1) (omega arith)
first_below unit each all index (inr many) within =
    let w : index < div_ceil all 512 = subst (λ n. index < div_ceil all n) many.1 within in
    let P : ℕ → Type 0 = λ n. n * index < all in subst P (sym many.1) (omega arith)

-- the first piece of an entry that is there begins below the window's end
pub first_inside : (h : MiniHeader) (index : ℕ) → index < div_ceil (piece_count h) (unit_of h / 4096) → unit_of h / 4096 * index < piece_count h
first_inside h index within = first_below (unit_of h) (unit_of h / 4096) (piece_count h) index (each_of h) within

same_entry : (h : MiniHeader) (index piece : ℕ) → unit_of h / 4096 * index ≤ piece → piece < unit_of h / 4096 * index + unit_of h / 4096 → entry_index h (h.kernbase + 4096 * piece) ≡ index
same_entry h index piece low high =
    let away : h.kernbase + 4096 * piece - h.kernbase ≡ 4096 * piece = omega arith in
    ap (λ n. n / unit_of h) away ∙ same_entry_by (unit_of h) (unit_of h / 4096) index piece (each_of h) low high

-- a word of a page table that was read
pub word_read : (f table : List ℕ) (place at : ℕ) → table ≡ slice_range f place (place + 4096) → at + 8 ≤ 4096 → u64_le_at table at ≡ u64_le_at f (place + at)
unfolding u64_le_at
word_read f table place at read within =
    let size : place + 4096 - place ≡ at + (4096 - at) = omega arith in
    let eight : at + 8 - at ≡ 8 = omega arith in
    let last : 8 ≡ place + at + 8 - (place + at) = omega arith in
    let rest : List ℕ = drop place f in
    ap (λ (l : List ℕ). from_le_bytes w64 l)
    (ap (λ n. take n (drop at table)) eight
    ∙ ap (λ (l : List ℕ). take 8 (drop at l)) (read ∙ ap (λ n. take n rest) size)
    ∙ ap (take 8) (drop-take at (4096 - at) rest)
    ∙ take-take 8 (4096 - at) (drop at rest) (omega arith)
    ∙ ap (take 8) (drop-drop at place f)
    ∙ ap (λ n. take n (drop (place + at) f)) last)

-- the page by the last entry that is asked, and by what that answers
by_answer : Sections → (va entry : ℕ) → Result ℕ AddressFault → Option Page
by_answer s va entry (Err fault) = None
by_answer s va entry (Ok pa) = dumped_page s (Some va) (protection_of s.header.arch entry) pa

by_answer_mapped : (f : List ℕ) (s : Sections) (va : ℕ) (answer : Result ℕ AddressFault) → mapped_page f s va answer ≡ by_answer s va (last_entry f s va) answer
unfolding by_answer
by_answer_mapped f s va (Err fault) = refl
by_answer_mapped f s va (Ok pa) = refl

by_last : (s : Sections) (va entry : ℕ) (kind : Kind) → by_last_entry s va entry kind ≡ by_answer s va entry (by_table_entry va kind)
unfolding by_answer
by_last s va entry Absent = refl
by_last s va entry (Table place) = refl
by_last s va entry (Leaf address) = refl

by_place : (f : List ℕ) (s : Sections) (va bits table : ℕ) (read : List ℕ) (found : Kind) (place : Option ℕ) → page_offset s table ≡ place → IsTableAt f (Table table) place found read
    → page_by_kind s bits read found va ≡ by_answer s va (entry_by_table f bits va place) (by_table f s.header.arch va place)
unfolding page_by_kind by_answer
by_place f s va bits table read found None at is = ap (λ k. page_by_kind s bits read k va) is
by_place f s va bits table read found (Some place) at is =
    let word : table_word read va ≡ table_entry f place va = word_read f read place (8 * (va / 4096 % 512)) is.1 (omega arith) in
    ap (λ k. page_by_kind s bits read k va) is.0
    ∙ ap (λ n. by_last_entry s va n (kind_of s.header.arch n 0)) word
    ∙ by_last s va (table_entry f place va) (kind_of s.header.arch (table_entry f place va) 0)

by_every_kind : (f : List ℕ) (s : Sections) (va bits : ℕ) (read : List ℕ) (kind found : Kind) → IsTable f s kind found read
    → page_by_kind s bits read found va ≡ by_answer s va (entry_by_kind f s bits va kind) (by_entry f s va kind)
unfolding page_by_kind by_answer
by_every_kind f s va bits read Absent found is = ap (λ k. page_by_kind s bits read k va) is
by_every_kind f s va bits read (Leaf address) found is = ap (λ k. page_by_kind s bits read k va) is
by_every_kind f s va bits read (Table table) found is = by_place f s va bits table read found (page_offset s table) refl is

-- the page of a piece, by the directory's entry that was read
page_read :
    (f : List ℕ) (s : Sections) (va bits : ℕ) (read : List ℕ) (kind found : Kind) → bits ≡ directory_entry f s.header va → kind ≡ kind_of s.header.arch bits (entry_height_of s.header)
    → IsTable f s kind found read → page_by_kind s bits read found va ≡ window_page f s va
unfolding window_page
page_read f s va bits read kind found entry is table =
    let same : kind ≡ kind_of s.header.arch (directory_entry f s.header va) (entry_height_of s.header) = is ∙ ap (λ n. kind_of s.header.arch n (entry_height_of s.header)) entry in
    by_every_kind f s va bits read kind found table
    ∙ ap (λ n. by_answer s va (entry_by_kind f s n va kind) (by_entry f s va kind)) entry
    ∙ ap (λ k. by_answer s va (entry_by_kind f s (directory_entry f s.header va) va k) (by_entry f s va k)) same
    ∙ sym (by_answer_mapped f s va (by_directory f s va))

-- the pages of an entry of the directory
entry_pages :
    (f : List ℕ) (s : Sections) (index end bits : ℕ) (read : List ℕ) (kind found : Kind) → bits ≡ u64_le_at f ((places_of s.header).directory + 8 * index)
    → kind ≡ kind_of s.header.arch bits (entry_height_of s.header) → IsTable f s kind found read → end ≡ min (entry_pieces s * index + entry_pieces s) (piece_count s.header)
    → pages_by_kind s bits read found (entry_pieces s * index) (end - entry_pieces s * index) ≡ pages_of_entry f s index
entry_pages f s index end bits read kind found entry is table ends =
    let first = entry_pieces s * index in
    let h : ℕ → Option Page = λ piece. page_by_kind s bits read found (s.header.kernbase + 4096 * piece) in
    let k : ℕ → Option Page = λ piece. window_page f s (s.header.kernbase + 4096 * piece) in
    mapped_same h k first (end - first) (λ n low high.
    page_read f s (s.header.kernbase + 4096 * n) bits read kind found
    (entry ∙ ap (λ i. u64_le_at f ((places_of s.header).directory + 8 * i)) (sym (same_entry s.header index n low (omega arith)))) is table)
    ∙ ap (λ n. filter_map k (range_with_len first (n - first))) ends

pub pages_of_read_entry :
    (f : List ℕ) (s : Sections) (each index end bits : ℕ) (read : List ℕ) (kind found : Kind) → each ≡ entry_pieces s → bits ≡ u64_le_at f ((places_of s.header).directory + 8 * index)
    → kind ≡ kind_of s.header.arch bits (entry_height_of s.header) → IsTable f s kind found read → end ≡ min (each * index + each) (piece_count s.header)
    → pages_by_kind s bits read found (each * index) (end - each * index) ≡ pages_of_entry f s index
pages_of_read_entry f s each index end bits read kind found same entry is table ends =
    let P : ℕ → Type 0 = λ n. end ≡ min (n * index + n) (piece_count s.header) → pages_by_kind s bits read found (n * index) (end - n * index) ≡ pages_of_entry f s index in
    subst P (sym same) (entry_pages f s index end bits read kind found entry is table) ends

-- the pages of the entries so far, and of the next
pub entries_more : (f : List ℕ) (s : Sections) (index : ℕ) → entry_pieces s * index < piece_count s.header → pages_of_entries f s (index + 1) ≡ pages_of_entries f s index ++ pages_of_entry f s index
entries_more f s index within =
    let each = entry_pieces s in
    let count = piece_count s.header in
    let first = each * index in
    let k : ℕ → Option Page = λ piece. window_page f s (s.header.kernbase + 4096 * piece) in
    let next : each * (index + 1) ≡ first + each = omega arith in
    let so_far : first ≡ min first count = omega arith in
    let more : min (first + each) count ≡ first + (min (first + each) count - first) = omega arith in
    let from : 0 + first ≡ first = omega arith in
    ap (λ n. filter_map k (range_with_len 0 (min n count))) next
    ∙ ap (λ n. filter_map k (range_with_len 0 n)) more
    ∙ mapped_more k 0 first (min (first + each) count - first)
    ∙ ap (λ n. filter_map k (range_with_len 0 first) ++ filter_map k (range_with_len n (min (first + each) count - first))) from
    ∙ ap (λ n. filter_map k (range_with_len 0 n) ++ filter_map k (range_with_len first (min (first + each) count - first))) so_far

-- all entries have all pieces
pub entries_all : (f : List ℕ) (s : Sections) (count : ℕ) → count ≡ div_ceil (piece_count s.header) (entry_pieces s) → pages_of_entries f s count ≡ window_pages f s
entries_all f s count is =
    let all : min (entry_pieces s * count) (piece_count s.header) ≡ piece_count s.header = all_pieces (unit_of s.header) (entry_pieces s) (piece_count s.header) count (each_of s.header) is in
    ap (λ n. pages_of_pieces f s 0 n) all

-- those of the first entries are the first pages
pub entries_first : (f : List ℕ) (s : Sections) (count : ℕ) → AreFirst (pages_of_entries f s count) (window_pages f s)
entries_first f s count =
    let so_far = min (entry_pieces s * count) (piece_count s.header) in
    let rest = piece_count s.header - so_far in
    let all : piece_count s.header ≡ so_far + rest = omega arith in
    let k : ℕ → Option Page = λ piece. window_page f s (s.header.kernbase + 4096 * piece) in
    (filter_map k (range_with_len (0 + so_far) rest), sym (ap (λ n. filter_map k (range_with_len 0 n)) all ∙ mapped_more k 0 so_far rest))

-- and so are the first of the next entry behind them
pub entries_then : (f : List ℕ) (s : Sections) (index : ℕ) (front pages : List Page) →
    entry_pieces s * index < piece_count s.header → front ≡ pages_of_entries f s index →
    AreFirst pages (pages_of_entry f s index) → AreFirst (front ++ pages) (window_pages f s)
entries_then f s index front pages within is first =
    let entry = pages_of_entry f s index in
    let more = entries_first f s (index + 1) in
    let later = first.0 in (
      later ++ more.0,
      append_assoc front pages (later ++ more.0)
          ∙ ap (λ l. front ++ l) (sym (append_assoc pages later more.0) ∙ ap (λ l. l ++ more.0) first.1)
          ∙ ap (λ l. l ++ (entry ++ more.0)) is
          ∙ sym (append_assoc (pages_of_entries f s index) entry more.0)
          ∙ ap (λ l. l ++ more.0) (sym (entries_more f s index within))
          ∙ more.1,
    )

-- how many pages there are at most after one more entry
pub few_more : (each count index front pages : ℕ) → each * index < count → front ≤ min (each * index) count →
    pages ≤ min (each * index + each) count - each * index → front + pages ≤ min (each * (index + 1)) count
few_more each count index front pages inside first next =
    let more : each * (index + 1) ≡ each * index + each = omega arith in
    omega arith
