-- The section headers of a kernel, Elf64_Shdr of sys/elf64.h, each of 64 bytes, and the two tables that they name.
use Rattle.std.specs.Prelude.{ℕ, ◌+◌, ◌*◌, ◌/◌, ◌%◌, ◌^◌, ◌<◌, ◌≤◌, ◌&&◌, ◌==◌, max, nat_le, nat_lt, List, [], ◌∷◌, ◌++◌, length, map, Option, Some, None, find, Result, Ok, Err}
use Rattle.std.specs.List.{range_with_len}
use Rattle.fd_bytes.specs.Field.{u32_le_at, u64_le_at}
use Rattle.fd_elf.specs.Header.{first_refused}
use Rattle.fd_elf.specs.declared.header.HeaderField.{HeaderField}
use Rattle.fd_nlist.specs.declared.sections.SectionHeader.{SectionHeader}
use Rattle.fd_nlist.specs.declared.sections.Tables.{Tables}

-- the section header of an index, where the first stands in the file at `start`
abbrev pub section_at : (start : ℕ) → (headers : List ℕ) → (index : ℕ) → SectionHeader
section_at start headers index =
    let at = 64 * index in
    record {
      place = start + at;
      sh_type = u32_le_at headers (at + 4);
      sh_offset = u64_le_at headers (at + 24);
      sh_size = u64_le_at headers (at + 32);
      sh_link = u32_le_at headers (at + 40);
      sh_entsize = u64_le_at headers (at + 56);
    }

-- all of them, in their order
abbrev pub sections_in : (start : ℕ) → (headers : List ℕ) → List SectionHeader
sections_in start headers = map (section_at start headers) (range_with_len 0 (length headers / 64))

-- the symbol table: the first section of type SHT_SYMTAB
abbrev pub symbol_table : (start : ℕ) → (headers : List ℕ) → Option SectionHeader
symbol_table start headers = find (λ section. section.sh_type == 2) (sections_in start headers)

-- The fields that are looked at of the two tables' headers, in their order, by their places in the file: that the symbol
-- table is one of Elf64_Sym and has at most 2^26 bytes, that its strings are one of so many sections, ..
abbrev pub symbol_fields : (count : ℕ) → SectionHeader → List HeaderField
symbol_fields count symbols =
    record { place = symbols.place + 56; is_taken = symbols.sh_entsize == 24 }
    ∷ record { place = symbols.place + 32; is_taken = (symbols.sh_size % 24 == 0) && nat_le symbols.sh_size (2 ^ 26) }
    ∷ record { place = symbols.place + 40; is_taken = nat_lt symbols.sh_link count }
    ∷ []

-- .. that this one has type SHT_STRTAB and at most 2^26 bytes, and that both end below 2^64
abbrev pub string_fields : Tables → List HeaderField
string_fields t =
    record { place = t.strings.place + 4; is_taken = t.strings.sh_type == 3 }
    ∷ record { place = t.strings.place + 32; is_taken = nat_le t.strings.sh_size (2 ^ 26) }
    ∷ record { place = t.symbols.place + 24; is_taken = nat_lt (t.symbols.sh_offset + t.symbols.sh_size) (2 ^ 64) }
    ∷ record { place = t.strings.place + 24; is_taken = nat_lt (t.strings.sh_offset + t.strings.sh_size) (2 ^ 64) }
    ∷ []

-- the two tables, unless a field is refused, by its place
abbrev pub tables_by : Option ℕ → Tables → Result Tables ℕ
tables_by (Some place) t = Err place
tables_by None t = Ok t

-- the symbol table and the strings that it links to
abbrev pub tables_with : (start : ℕ) → (headers : List ℕ) → (symbols : SectionHeader) → Tables
tables_with start headers symbols = record { symbols = symbols; strings = section_at start headers symbols.sh_link }

-- the same, or the first field that is refused
unfoldable pub linked_tables : (start : ℕ) → (headers : List ℕ) → (symbols : SectionHeader) → Result Tables ℕ
linked_tables start headers symbols =
    let t = tables_with start headers symbols in
    tables_by (first_refused (symbol_fields (length headers / 64) symbols ++ string_fields t)) t

-- where the two tables end: the greater end
abbrev pub tables_end : Tables → ℕ
tables_end t = max (t.symbols.sh_offset + t.symbols.sh_size) (t.strings.sh_offset + t.strings.sh_size)

-- the sizes of tables that are read
pub record AreRead (t : Tables) : Type 0 where
  pub symbols : t.symbols.sh_size ≤ 2 ^ 26
  pub strings : t.strings.sh_size ≤ 2 ^ 26
  pub symbols_end : t.symbols.sh_offset + t.symbols.sh_size < 2 ^ 64
  pub strings_end : t.strings.sh_offset + t.strings.sh_size < 2 ^ 64
