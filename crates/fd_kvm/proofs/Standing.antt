-- What is read of the file for which a reader stands.
use Rattle.std.proofs.Common.{◌≡◌, ℕ, ◌+◌, ◌-◌, ◌*◌, ◌/◌, ◌%◌, ◌<◌, ◌≤◌, Bool, true, false, if◌then◌else◌, List, [], length}
use Rattle.std.proofs.Common.{take, drop, slice_range, Option, Some, None, IsSomeAnd, IfSome, Ok, refl, ap, subst, ◌∙◌, arith}
use Rattle.std.specs.Int.{w64, from_le_bytes}
use Rattle.std.specs.Option.{option_and_then}
use Rattle.std.proofs.lemmas.List.{take_all, take-take, drop-take, drop-drop}
use Rattle.std.proofs.lemmas.Slice.{between_from_start}
use Rattle.fd_bytes.specs.Field.{u64_le_at}
use Rattle.fd_mini.specs.Places.{places_of}
use Rattle.fd_mini.specs.declared.header.MiniHeader.{MiniHeader}
use Rattle.fd_cache.specs.Pages.{HoldsPagesOf}
use Rattle.fd_cache.proofs.Held.{holds_none}
use Rattle.fd_bitmap.specs.Bits.{set_count}
use Rattle.fd_bitmap.specs.Pages.{bit_of}
use Rattle.fd_vmcore.specs.Sections.{Sections, opened, opened_file, page_offset, offset_of_bit, has_bit}
use Rattle.fd_vmcore.proofs.Opened.{whole, page_inside}
use Rattle.fd_kvm.specs.OpenFile.{HasBlock}
use Rattle.fd_kvm.specs.Reader.{IsFileOf}

-- what holds of each file that opens as these sections holds of the file for which a reader stands
pub of_file :
    (P : List ℕ → Type 0) (file : Option (List ℕ)) (s : Sections) (pages : List (ℕ × List ℕ)) → IsSomeAnd file (IsFileOf s pages)
    → ((f : List ℕ) → file ≡ Some f → opened f ≡ Ok s → P f) → IsSomeAnd file P
of_file P None s pages stands each = stands
of_file P (Some f) s pages stands each = each f refl stands.opens

pub opens : (file : Option (List ℕ)) (s : Sections) (pages : List (ℕ × List ℕ)) (f : List ℕ) → IsSomeAnd file (IsFileOf s pages) → file ≡ Some f → opened f ≡ Ok s
opens file s pages f stands there =
    let P : Option (List ℕ) → Type 0 = λ o. IsSomeAnd o (IsFileOf s pages) in
    let here : IsFileOf s pages f = subst P there stands in
    here.opens

-- a file that was just opened, of which no page is kept
pub stands_fresh : (file : Option (List ℕ)) (s : Sections) → opened_file file ≡ Ok s → IsSomeAnd file (IsFileOf s [])
stands_fresh None s is = absurd (cc)
stands_fresh (Some f) s is = record { opens = is; holds = holds_none f }

-- the pages that are kept are the file's
pub holds_of : (file : Option (List ℕ)) (s : Sections) (pages : List (ℕ × List ℕ)) → IsSomeAnd file (IsFileOf s pages) → IfSome file (HoldsPagesOf pages)
holds_of None s pages stands = tt
holds_of (Some f) s pages stands = stands.holds

-- and so are those that are kept after a read
pub still_stands :
    (file : Option (List ℕ)) (s : Sections) (old new : List (ℕ × List ℕ)) → IsSomeAnd file (IsFileOf s old) → IfSome file (HoldsPagesOf new) → IsSomeAnd file (IsFileOf s new)
still_stands None s old new stands held = stands
still_stands (Some f) s old new stands held = record { opens = stands.opens; holds = held }

-- the page directory begins at a block of 4096 bytes
pub directory_whole : (h : MiniHeader) → (places_of h).directory % 4096 ≡ 0
directory_whole h = omega arith

-- and so does each page that is dumped
page_whole_at : (s : Sections) (found : Bool) (count place : ℕ) → (if found then Some ((places_of s.header).pages + 4096 * count) else None) ≡ Some place → place % 4096 ≡ 0
page_whole_at s false count place is = absurd (cc)
page_whole_at s true count place is =
    let e : (places_of s.header).pages + 4096 * count ≡ place = cc in
    omega arith

page_whole_by : (s : Sections) (bit : Option ℕ) (place : ℕ) → option_and_then (offset_of_bit s) bit ≡ Some place → place % 4096 ≡ 0
page_whole_by s None place is = absurd (cc)
page_whole_by s (Some bit) place is = page_whole_at s (has_bit s.bits bit) (set_count (take bit s.bits)) place is

pub page_whole : (s : Sections) (pa place : ℕ) → page_offset s pa ≡ Some place → place % 4096 ≡ 0
page_whole s pa place is = page_whole_by s (bit_of s.pages pa) place is

-- the block of an entry of the directory lies in the file
pub entry_block : (f : List ℕ) (s : Sections) (index : ℕ) → opened f ≡ Ok s → index < s.header.pmapsize / 8 → HasBlock ((places_of s.header).directory + 8 * index) f
entry_block f s index is below =
    let w = whole f s is in
    omega (arith, w.sections)

-- and so does that of an entry of a page table that is dumped
pub table_block : (f : List ℕ) (s : Sections) (table place index : ℕ) → opened f ≡ Ok s → page_offset s table ≡ Some place → index < 512 → HasBlock (place + 8 * index) f
table_block f s table place index is found below =
    let inside = page_inside f s table place (whole f s is) found in
    let begins = page_whole s table place found in
    omega arith

-- a part of a block that was read
pub part_read :
    (f block out : List ℕ) (place count : ℕ) → block ≡ slice_range f (place - place % 4096) (place - place % 4096 + 4096) → place % 4096 + count ≤ 4096
    → out ≡ slice_range block (place % 4096) (place % 4096 + count) → out ≡ slice_range f place (place + count)
part_read f block out place count read few is =
    let start = place - place % 4096 in
    let offset = place % 4096 in
    let size : start + 4096 - start ≡ offset + (4096 - offset) = omega arith in
    let part : offset + count - offset ≡ count = omega arith in
    let rest : 4096 - offset ≡ count + (4096 - offset - count) = omega arith in
    let same : start + offset ≡ place = omega arith in
    let last : count ≡ place + count - place = omega arith in
    is
    ∙ ap (λ n. take n (drop offset block)) part
    ∙ ap (λ (l : List ℕ). take count (drop offset l)) (read ∙ ap (λ n. take n (drop start f)) size)
    ∙ ap (take count) (drop-take offset (4096 - offset) (drop start f))
    ∙ take-take count (4096 - offset) (drop offset (drop start f)) (omega arith)
    ∙ ap (take count) (drop-drop offset start f ∙ ap (λ n. drop n f) same)
    ∙ ap (λ n. take n (drop place f)) last

-- what was read of the file of this name
pub read_of : (P : List ℕ → Type 0) (file : Option (List ℕ)) (f : List ℕ) → file ≡ Some f → IfSome file P → P f
read_of P file f there read = subst (λ o. IfSome o P) there read

-- eight bytes that were read are the entry
pub entry_read : (f bytes : List ℕ) (place : ℕ) → length bytes ≡ 8 → bytes ≡ slice_range f place (place + 8) → u64_le_at bytes 0 ≡ u64_le_at f place
unfolding u64_le_at
entry_read f bytes place whole read =
    ap (λ l. from_le_bytes w64 l) (between_from_start bytes 8 ∙ take_all 8 bytes (omega arith) ∙ read)
