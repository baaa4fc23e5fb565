-- The symbols of a kernel: its table, in which each is an Elf64_Sym of sys/elf64.h of 24 bytes, with their names.
use Rattle.std.specs.Prelude.{ℕ, ◌+◌, ◌*◌, ◌/◌, Bool, false, not, ◌&&◌, ◌==◌, nat_lt, if◌then◌else◌, List, length, map, drop, Option, Some, None, find}
use Rattle.std.specs.List.{range_with_len}
use Rattle.std.specs.Option.{option_map, option_map_or}
use Rattle.std.specs.Str.{bytes_eq}
use Rattle.fd_bytes.specs.Field.{u32_le_at, u64_le_at}
use Rattle.fd_bytes.specs.Label.{text_of}
use Rattle.fd_elf.specs.Field.{u16_le_at}
use Rattle.fd_nlist.specs.declared.symbol.Symbol.{Symbol}

-- a symbol: its place in the table, its name, where it has one, and its fields
pub record Entry : Type 0 where
  pub index : ℕ
  pub name : Option (List ℕ)
  pub st_shndx : ℕ
  pub st_value : ℕ
  pub st_size : ℕ

-- the machine of a kernel, and its symbols in the order of the table
pub record SymbolTable : Type 0 where
  pub machine : ℕ
  pub entries : List Entry

-- the name at a place of the strings: the bytes to the first zero byte or to the strings' end
abbrev pub name_at : (strings : List ℕ) → (place : ℕ) → Option (List ℕ)
name_at strings place = if nat_lt place (length strings) then Some (text_of (drop place strings)) else None

-- the symbol of an index, whose st_name is the place of its name in the strings
abbrev pub entry_at : (symbols : List ℕ) → (strings : List ℕ) → (index : ℕ) → Entry
entry_at symbols strings index =
    let at = 24 * index in
    record {
      index = index;
      name = name_at strings (u32_le_at symbols at);
      st_shndx = u16_le_at symbols (at + 6);
      st_value = u64_le_at symbols (at + 8);
      st_size = u64_le_at symbols (at + 16);
    }

-- all of them, in their order
abbrev pub entries_in : (symbols : List ℕ) → (strings : List ℕ) → List Entry
entries_in symbols strings = map (entry_at symbols strings) (range_with_len 0 (length symbols / 24))

-- there is a name, and it is this one
abbrev pub has_name : List ℕ → Option (List ℕ) → Bool
has_name name named = option_map_or (λ other. bytes_eq other name) named false

-- a symbol that has a section, which is any but SHN_UNDEF, and this name
abbrev pub is_named : List ℕ → Entry → Bool
is_named name entry = not (entry.st_shndx == 0) && has_name name entry.name

-- what is told of a symbol
abbrev pub symbol_of : Entry → Symbol
symbol_of entry = record { index = entry.index; value = entry.st_value; size = entry.st_size }

-- the first symbol of this name that has a section, where there is one
abbrev pub first_symbol : List Entry → (name : List ℕ) → Option Symbol
first_symbol entries name = option_map symbol_of (find (is_named name) entries)
