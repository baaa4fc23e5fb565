-- The page directory of a minidump translates the addresses of the kernel window as the image's tables do, and allows what they
-- allow.
use Rattle.std.proofs.Common.{◌≡◌, ℕ, ◌+◌, ◌-◌, ◌*◌, ◌/◌, ◌%◌, ◌<◌, ◌≤◌, ◌^◌, Bool, true, false, not, ◌&&◌, List, get_or}
use Rattle.std.proofs.Common.{Option, Some, None, Result, Ok, Err, refl, sym, ◌∙◌, ap, subst, arith, inl, inr, lit<}
use Rattle.std.specs.Prelude.{if◌then◌else◌}
use Rattle.std.specs.Int.{w64, to_le_bytes}
use Rattle.std.specs.List.{range_with_len}
use Rattle.std.proofs.lemmas.Bool.{cases_lt}
use Rattle.std.proofs.lemmas.List.FromFn.{length-range_with_len, get_or-range_with_len}
use Rattle.fd_bytes.specs.Field.{u64_le_at}
use Rattle.fd_bytes.specs.declared.arch.Arch.{Arch}
use Rattle.fd_bytes.specs.declared.arch.Arch.TheVariants.{Amd64, Arm64, Riscv}
use Rattle.fd_image.specs.Image.{MachineImage, IsValid, levels_of}
use Rattle.fd_image.specs.Physical.{page_start}
use Rattle.fd_pte.specs.Architecture.{kind_of, directory_height_of}
use Rattle.fd_pte.specs.Entry.{bytes_under, IsPlaced}
use Rattle.fd_pte.specs.declared.entry.Kind.{Kind}
use Rattle.fd_pte.specs.declared.entry.Kind.TheVariants.{Absent, Table, Leaf}
use Rattle.fd_walk.specs.Descent.{IsTable}
use Rattle.fd_walk.specs.Directory as walk
use Rattle.fd_walk.specs.Directory.{DirectoryForm, expanded_leaf, entry_or_expanded, directory_bytes}
use Rattle.fd_walk.specs.Leaf.{MappedBy, leaf_of_kind, leaf_at, last_table, table_of_kind}
use Rattle.fd_walk.specs.PageTables.{PageTables, entry_at, kind_of_entry, kind_at}
use Rattle.fd_walk.proofs.DirectoryEntries.{unit_within}
use Rattle.fd_walk.proofs.Spans.{entry_at-same}
use Rattle.fd_walk.proofs.TablePath.{word_under, entry_at-below}
use Rattle.fd_walk.proofs.Ways.{no_table}
use Rattle.fd_mini.specs.Places.{places_of}
use Rattle.fd_mini.specs.declared.header.MiniHeader.{MiniHeader}
use Rattle.fd_mini.specs.declared.address_fault.AddressFault.{AddressFault}
use Rattle.fd_mini.specs.declared.address_fault.AddressFault.TheVariants.{NotMapped, TableMissing}
use Rattle.fd_vmcore.specs.Sections.{Sections, page_offset}
use Rattle.fd_kvm.specs.Place as kvm
use Rattle.fd_kvm.specs.Place.{by_table_entry, table_entry, by_table, by_entry, by_directory}
use Rattle.fd_kvm.specs.Walk.{entry_by_kind, entry_by_table, last_entry, protection_of}
use Rattle.fd_dump.specs.Dumped.{tables_in, dumps_last_tables, is_dumped}
use Rattle.fd_dump.specs.Minidump.{form_of, entry_count, directory_of, mini_header_of, minidump_of}
use Rattle.fd_dump.specs.Translation.{by_leaf, is_table_missing, by_tables}
use Rattle.fd_dump.proofs.Stands.{Stands, Stands-inner}
use Rattle.fd_way.specs.ImageWalk.{leaf_protection}
use Rattle.fd_way.proofs.ImageWords.{word_short, word_of-page}
use Rattle.fd_way.proofs.Limits.{windows_of}
use Rattle.fd_way.proofs.Located.{IsDumpedAt, IsNotDumped, located}
use Rattle.fd_way.proofs.Opening.{sections_of}
use Rattle.fd_dump.proofs.SectionPlaces.{Stands-directory}
use Rattle.fd_way.proofs.TableEntries.{IsLeafOf, leaf_at-lowest, leaf_at-no_table, none_below, leaf_below-same, leaf_found, entry_short}
use Rattle.fd_way.proofs.Units.{some_levels, most_levels, entry_height, placed_kind, zero_absent, IsUnitLeaf, expanded, unit_start, IsInUnit, in_unit, place_in_leaf}
use Rattle.fd_way.proofs.Pieces.{Stands-piece, u64_le_at-Stands, u64_le_at-within}

-- a table that isn't dumped is missing where tables ought to be dumped
missing_nowhere : (m : MachineImage) (last : Option ℕ) → dumps_last_tables m.arch ≡ false → is_table_missing m last ≡ false
missing_nowhere m None without = refl
missing_nowhere m (Some table) without = ap (λ (b : Bool). b && not (is_dumped m table)) without

-- only amd64 has tables below the directory
has_tables : (arch : Arch) → 0 < directory_height_of arch → (directory_height_of arch ≡ 1) × (dumps_last_tables arch ≡ true)
has_tables Amd64 above = (refl, refl)
has_tables Arm64 above = absurd (omega arith)
has_tables Riscv above = absurd (omega arith)

-- at height 0 a kind is a leaf or absent
by_lowest : (va bits : ℕ) (kind : Kind) → IsPlaced 0 kind → by_table_entry va kind ≡ by_leaf va (leaf_of_kind 0 bits kind)
by_lowest va bits (Leaf address) placed = refl
by_lowest va bits (Table table) placed = absurd (omega (arith, placed.0))
by_lowest va bits Absent placed = refl

-- an address that isn't mapped has no place
never : {P : Type 0} (fault : AddressFault) (pa : ℕ) (answer : Result ℕ AddressFault) → answer ≡ Err fault → answer ≡ Ok pa → P
never fault pa answer none some = absurd (let no_such : Err fault ≡ Ok pa = sym none ∙ some in cc)

-- a leaf of the lowest height allows what its entry allows
leaf_allows : (arch : Arch) (va bits pa : ℕ) (kind : Kind) → by_leaf va (leaf_of_kind 0 bits kind) ≡ Ok pa → protection_of arch bits ≡ leaf_protection arch (leaf_of_kind 0 bits kind)
leaf_allows arch va bits pa (Leaf address) is = refl
leaf_allows arch va bits pa (Table table) is = never (NotMapped va) pa (Err (NotMapped va)) refl is
leaf_allows arch va bits pa Absent is = never (NotMapped va) pa (Err (NotMapped va)) refl is

leaf_names_none : (address : ℕ) (kind : Kind) → kind ≡ Leaf address → ¬ IsTable kind
leaf_names_none address kind is names = let no_such : Leaf address ≡ Table names.0 = sym is ∙ names.1 in cc

absent_names_none : (kind : Kind) → kind ≡ Absent → ¬ IsTable kind
absent_names_none kind is names = let no_such : Absent ≡ Table names.0 = sym is ∙ names.1 in cc

module _ (m : MachineImage) (valid : IsValid m) where
  abbrev file : List ℕ
  file = minidump_of m

  abbrev header : MiniHeader
  header = mini_header_of m

  abbrev sections : Sections
  sections = sections_of m

  abbrev tables : PageTables
  tables = tables_in m

  abbrev height : ℕ
  height = directory_height_of m.arch

  abbrev unit : ℕ
  unit = bytes_under height

  abbrev start : ℕ → ℕ
  start va = unit_start m.arch m.windows.kernbase va

  -- a leaf of the directory's height
  leaf_is : (va address : ℕ) → by_entry file sections va (Leaf address) ≡ Ok (address + (va - m.windows.kernbase) % unit)
  leaf_is va address = ap (λ h. Ok (address + (va - m.windows.kernbase) % bytes_under h)) (entry_height m)

  short : (h va bits : ℕ) → h < levels_of m → entry_at tables h va ≡ Some bits → bits < 2 ^ 64
  short h va bits within some = entry_short tables (word_short m valid) h va bits within some

  -- what the tables say, where no table is missing
  by_tables_is : (va : ℕ) (leaf : Option MappedBy) → is_table_missing m (last_table tables va) ≡ false → leaf_at tables va ≡ leaf → by_tables m va ≡ by_leaf va leaf
  by_tables_is va leaf there is =
      ap (λ (missing : Bool). if missing then Err (TableMissing va) else by_leaf va (leaf_at tables va)) there ∙ ap (by_leaf va) is

  none_missing-in : (arch : Arch) → m.arch ≡ arch → (va : ℕ) → ¬ IsTable (kind_at tables (directory_height_of arch) va) → is_table_missing m (last_table tables va) ≡ false
  none_missing-in Amd64 is va names_none = ap (is_table_missing m) (no_table (kind_at tables 1 va) names_none)
  none_missing-in Arm64 is va names_none = missing_nowhere m (last_table tables va) (ap dumps_last_tables is)
  none_missing-in Riscv is va names_none = missing_nowhere m (last_table tables va) (ap dumps_last_tables is)

  none_missing : (va : ℕ) → ¬ IsTable (kind_at tables height va) → is_table_missing m (last_table tables va) ≡ false
  none_missing va names_none = none_missing-in m.arch refl va names_none

  -- where the tables map an address, an entry allows what the leaf there allows
  abbrev Allows : ℕ → ℕ → Type 0
  Allows va entry = (pa : ℕ) → by_tables m va ≡ Ok pa → protection_of m.arch entry ≡ leaf_protection m.arch (leaf_at tables va)

  -- a last-level table that the directory's entry names
  module _ (va bits table : ℕ) (some : entry_at tables height va ≡ Some bits) (names : kind_of m.arch bits height ≡ Table table) (placed : IsPlaced height (Table table)) where
    one : (height ≡ 1) × (dumps_last_tables m.arch ≡ true)
    one = has_tables m.arch placed.0

    aligned : page_start table ≡ table
    aligned = omega (arith, placed.1.aligned)

    kind_is : kind_at tables 1 va ≡ Table table
    kind_is = ap (λ h. kind_at tables h va) (sym one.0) ∙ ap (λ entry. kind_of_entry (kind_of m.arch) height entry) some ∙ names

    missing_is : is_table_missing m (last_table tables va) ≡ not (is_dumped m table)
    missing_is = ap (λ kind. is_table_missing m (table_of_kind kind)) kind_is ∙ ap (λ (b : Bool). b && not (is_dumped m table)) one.1

    -- it translates an address as the tables do, and allows what they allow
    record AgreesBelow : Type 0 where
      same : by_table file m.arch va (page_offset sections table) ≡ by_tables m va
      allows : Allows va (entry_by_table file bits va (page_offset sections table))

    missing_table : IsNotDumped m valid table → by_table file m.arch va (page_offset sections table) ≡ by_tables m va
    missing_table not_dumped =
        ap (by_table file m.arch va) not_dumped.offset
        ∙ sym (ap (λ (missing : Bool). if missing then Err (TableMissing va) else by_leaf va (leaf_at tables va)) (missing_is ∙ ap not (ap (is_dumped m) (sym aligned) ∙ not_dumped.not_dumped)))

    without_table : IsNotDumped m valid table → AgreesBelow
    without_table not_dumped = record {
      same = missing_table not_dumped;
      allows = λ pa is. never (TableMissing va) pa (by_tables m va) (sym (missing_table not_dumped) ∙ ap (by_table file m.arch va) not_dumped.offset) is;
    }

    with_table : IsDumpedAt m valid table → AgreesBelow
    with_table dumped =
        let index : ℕ = va / 4096 % 512 in
        let within : index < 512 = omega arith in
        let word : ℕ = u64_le_at dumped.page (8 * index) in
        let read : table_entry file dumped.place va ≡ word = u64_le_at-within dumped.page file dumped.place (8 * index) dumped.stands (omega (arith, dumped.whole)) in
        let entry : entry_at tables 0 va ≡ Some word =
        entry_at-below tables 0 va (omega (arith, some_levels m, one.0))
        ∙ ap (λ kind. word_under tables 0 va kind) kind_is
        ∙ word_of-page m valid table index dumped.page aligned within dumped.is in
        let levels : 0 < levels_of m = omega (arith, some_levels m) in
        let leaf : leaf_at tables va ≡ leaf_of_kind 0 word (kind_of m.arch word 0) = leaf_at-lowest tables 0 va word levels entry (λ h below. absurd (omega arith)) in
        let there : is_table_missing m (last_table tables va) ≡ false = missing_is ∙ ap not (ap (is_dumped m) (sym aligned) ∙ dumped.dumped) in
        record {
          same = ap (by_table file m.arch va) dumped.offset
              ∙ ap (λ n. by_table_entry va (kind_of m.arch n 0)) read
              ∙ by_lowest va word (kind_of m.arch word 0) (placed_kind m.arch word 0 (short 0 va word levels entry) (omega arith))
              ∙ sym (by_tables_is va (leaf_of_kind 0 word (kind_of m.arch word 0)) there leaf);
          allows = λ pa is.
              ap (λ o. protection_of m.arch (entry_by_table file bits va o)) dumped.offset
              ∙ ap (protection_of m.arch) read
              ∙ leaf_allows m.arch va word pa (kind_of m.arch word 0) (sym (by_tables_is va (leaf_of_kind 0 word (kind_of m.arch word 0)) there leaf) ∙ is)
              ∙ sym (ap (leaf_protection m.arch) leaf);
        }

    by_last_table : AgreesBelow
    by_last_table = elim (located m valid table) [ inl dumped ↦ with_table dumped | inr not_dumped ↦ without_table not_dumped ]

  -- an entry of the directory fits its field and translates an address as the tables do
  record Agrees (va entry : ℕ) : Type 0 where
    fits : entry < 2 ^ 64
    same : by_entry file sections va (kind_of m.arch entry height) ≡ by_tables m va
    allows : Allows va (entry_by_kind file sections entry va (kind_of m.arch entry height))

  record AgreesAs (va entry : ℕ) (kind : Kind) : Type 0 where
    same : by_entry file sections va kind ≡ by_tables m va
    allows : Allows va (entry_by_kind file sections entry va kind)

  module _ (va : ℕ) (from : m.windows.kernbase ≤ va) where
    place : IsInUnit m.arch m.windows.kernbase va
    place = in_unit m.arch m.windows.kernbase va (windows_of m valid).kernbase from

    -- the tables have an entry of the directory's height
    by_kind : (bits : ℕ) (kind : Kind) → entry_at tables height va ≡ Some bits → kind_of m.arch bits height ≡ kind → IsPlaced height kind → AgreesAs va bits kind
    by_kind bits (Leaf address) some is placed =
        let kind_is : kind_at tables height va ≡ Leaf address = ap (λ entry. kind_of_entry (kind_of m.arch) height entry) some ∙ is in
        let leaf : leaf_at tables va ≡ Some (record { height = height; bits = bits; address = address }) =
        leaf_at-no_table tables height va bits (some_levels m) some (leaf_names_none address (kind_of m.arch bits height) is) ∙ ap (leaf_of_kind height bits) is in
        record {
          same = leaf_is va address
              ∙ ap (λ n. Ok (address + n)) place.inside
              ∙ sym (by_tables_is va (Some (record { height = height; bits = bits; address = address })) (none_missing va (leaf_names_none address (kind_at tables height va) kind_is)) leaf);
          allows = λ pa ok. sym (ap (leaf_protection m.arch) leaf);
        }
    by_kind bits (Table table) some is placed =
        let below = by_last_table va bits table some is placed in
        record { same = below.same; allows = below.allows }
    by_kind bits Absent some is placed =
        let kind_is : kind_at tables height va ≡ Absent = ap (λ entry. kind_of_entry (kind_of m.arch) height entry) some ∙ is in
        let leaf : leaf_at tables va ≡ None =
        leaf_at-no_table tables height va bits (some_levels m) some (absent_names_none (kind_of m.arch bits height) is) ∙ ap (leaf_of_kind height bits) is in
        let no_leaf : by_tables m va ≡ Err (NotMapped va) = by_tables_is va None (none_missing va (absent_names_none (kind_at tables height va) kind_is)) leaf in
        record { same = sym no_leaf; allows = λ pa ok. never (NotMapped va) pa (by_tables m va) no_leaf ok }

    -- they have none: the leaf is a larger one, or there is none
    module _ (none : entry_at tables height va ≡ None) where
      names_none : ¬ IsTable (kind_at tables height va)
      names_none = absent_names_none (kind_at tables height va) (ap (λ entry. kind_of_entry (kind_of m.arch) height entry) none)

      none_at_start : entry_at tables height (start va) ≡ None
      none_at_start = sym (entry_at-same tables height va (start va) place.same (levels_of m - height - 1) height (omega (arith, some_levels m)) (omega arith)) ∙ none

      same_leaf : leaf_at tables va ≡ leaf_at tables (start va)
      same_leaf =
          leaf_below-same tables va (start va) (levels_of m) (λ h within.
          elim (cases_lt height h) [
            | inl above ↦ entry_at-same tables height va (start va) place.same (levels_of m - h - 1) h (omega arith) (omega arith)
            | inr low ↦ none_below tables height va (some_levels m) none h low ∙ sym (none_below tables height (start va) (some_levels m) none_at_start h low)
          ])

      by_larger_leaf : (leaf : Option MappedBy) → leaf_at tables (start va) ≡ leaf → Agrees va (expanded_leaf (form_of m) (start va) leaf)
      by_larger_leaf None is = record {
        fits = lit< tt;
        same = ap (by_entry file sections va) (zero_absent m.arch) ∙ sym (by_tables_is va None (none_missing va names_none) (same_leaf ∙ is));
        allows = λ pa ok. never (NotMapped va) pa (by_tables m va) (by_tables_is va None (none_missing va names_none) (same_leaf ∙ is)) ok;
      }
      by_larger_leaf (Some leaf) is =
          let of_entry : IsLeafOf tables (start va) (levels_of m) leaf = leaf_found tables (start va) (levels_of m) leaf is in
          let index : ℕ = start va % bytes_under leaf.height / unit in
          let larger : height < leaf.height = above_none leaf of_entry in
          let leaf_of_unit : IsUnitLeaf m.arch leaf.bits (expanded_leaf (form_of m) (start va) (Some leaf)) (leaf.address + index * unit) =
          expanded m.arch leaf.bits leaf.height index leaf.address (short leaf.height (start va) leaf.bits of_entry.below of_entry.entry)
          (omega (arith, of_entry.below, most_levels m)) larger (unit_within (start va) height leaf.height larger) of_entry.kind in
          let inside : index * unit + va % unit ≡ va % bytes_under leaf.height = place_in_leaf height leaf.height va (start va) larger place.same in
          let same_place : leaf.address + index * unit + (va - m.windows.kernbase) % unit ≡ leaf.address + va % bytes_under leaf.height = omega (arith, place.inside, inside) in
          record {
            fits = leaf_of_unit.fits;
            same = ap (by_entry file sections va) leaf_of_unit.leaf
                ∙ leaf_is va (leaf.address + index * unit)
                ∙ ap Ok same_place
                ∙ sym (by_tables_is va (Some leaf) (none_missing va names_none) (same_leaf ∙ is));
            allows = λ pa ok.
                ap (λ kind. protection_of m.arch (entry_by_kind file sections (expanded_leaf (form_of m) (start va) (Some leaf)) va kind)) leaf_of_unit.leaf
                ∙ leaf_of_unit.same_protection
                ∙ sym (ap (leaf_protection m.arch) (same_leaf ∙ is));
          }
        where
          above_none : (leaf : MappedBy) → IsLeafOf tables (start va) (levels_of m) leaf → height < leaf.height
          above_none leaf of_entry =
              elim (cases_lt height leaf.height) [
                | inl above ↦ above
                | inr low ↦
                    let no_such : None ≡ Some leaf.bits = sym (none_below tables height (start va) (some_levels m) none_at_start leaf.height low) ∙ of_entry.entry in
                    cc
              ]

    by_option : (entry : Option ℕ) → entry_at tables height va ≡ entry → Agrees va (entry_or_expanded (form_of m) (start va) entry (leaf_at tables (start va)))
    by_option None none = by_larger_leaf none (leaf_at tables (start va)) refl
    by_option (Some bits) some =
        let fits : bits < 2 ^ 64 = short height va bits (some_levels m) some in
        let agrees_as = by_kind bits (kind_of m.arch bits height) some refl (placed_kind m.arch bits height fits (omega (arith, some_levels m, most_levels m))) in
        record { fits = fits; same = agrees_as.same; allows = agrees_as.allows }

    agrees : Agrees va (walk.directory_entry tables (form_of m) (start va))
    agrees =
        let same : entry_at tables height va ≡ entry_at tables height (start va) =
        entry_at-same tables height va (start va) place.same (levels_of m - height - 1) height (omega (arith, some_levels m)) (omega arith) in
        by_option (entry_at tables height (start va)) same

    -- the entry is read in the file
    abbrev index : ℕ
    index = (va - m.windows.kernbase) / unit

    entry_read : index < entry_count m → kvm.directory_entry file header va ≡ walk.directory_entry tables (form_of m) (start va)
    unfolding directory_bytes
    entry_read within =
        let entry = λ (number : ℕ). walk.directory_entry tables (form_of m) (m.windows.kernbase + number * unit) in
        let at : get_or (range_with_len 0 (entry_count m)) index 0 ≡ index = get_or-range_with_len 0 (entry_count m) index 0 within ∙ omega arith in
        let piece : Stands (to_le_bytes w64 (entry index)) (8 * index) (directory_of m) =
        subst (λ number. Stands (to_le_bytes w64 (entry number)) (8 * index) (directory_of m)) at
        (Stands-piece (λ (number : ℕ). to_le_bytes w64 (entry number)) 8 (range_with_len 0 (entry_count m)) index 0 (λ number. refl) (omega (arith, length-range_with_len 0 (entry_count m)))) in
        ap (λ h. u64_le_at file ((places_of header).directory + 8 * ((va - m.windows.kernbase) / bytes_under h))) (entry_height m)
        ∙ u64_le_at-Stands file ((places_of header).directory + 8 * index) (entry index)
        (Stands-inner (to_le_bytes w64 (entry index)) (directory_of m) file (8 * index) (places_of header).directory
        ((places_of header).directory + 8 * index) refl piece (Stands-directory m valid))
        agrees.fits

    pub by_directory_is : index < entry_count m → by_directory file sections va ≡ by_tables m va
    by_directory_is within =
        ap (λ h. by_entry file sections va (kind_of m.arch (kvm.directory_entry file header va) h)) (entry_height m)
        ∙ ap (λ entry. by_entry file sections va (kind_of m.arch entry height)) (entry_read within)
        ∙ agrees.same

    -- and what the last entry allows is what the leaf there allows
    pub protection_is : index < entry_count m → Allows va (last_entry file sections va)
    protection_is within pa ok =
        ap (λ h. protection_of m.arch (entry_by_kind file sections (kvm.directory_entry file header va) va (kind_of m.arch (kvm.directory_entry file header va) h))) (entry_height m)
        ∙ ap (λ entry. protection_of m.arch (entry_by_kind file sections entry va (kind_of m.arch entry height))) (entry_read within)
        ∙ agrees.allows pa ok
