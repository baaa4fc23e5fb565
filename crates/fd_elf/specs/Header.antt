-- The header of an ELF64 file, Elf64_Ehdr of sys/elf64.h, whose numbers are little-endian, and what a reader takes of it.
use Rattle.std.specs.Prelude.{ℕ, not, ◌==◌, List, [], ◌∷◌, ◌++◌, take, slice_index, replicate, codes, Option, is_some, find}
use Rattle.std.specs.Option.{option_map}
use Rattle.std.specs.List.{list_any}
use Rattle.std.specs.Str.{bytes_eq}
use Rattle.fd_elf.specs.Field.{u16_le_at}
use Rattle.fd_elf.specs.Machine.{arch_of_machine}
use Rattle.fd_elf.specs.declared.file_type.FileType.{FileType}
use Rattle.fd_elf.specs.declared.file_type.FileType.TheVariants.{Executable, SharedObject, Core}
use Rattle.fd_elf.specs.declared.header.HeaderField.{HeaderField}

-- ELFMAG
abbrev pub magic : List ℕ
magic = 0x7f ∷ codes "ELF"

-- e_ident, EI_NIDENT bytes: the magic, ELFCLASS64, ELFDATA2LSB, EV_CURRENT, and zeros
abbrev pub ident : List ℕ
ident = magic ++ (2 ∷ 1 ∷ 1 ∷ []) ++ replicate 9 0

-- e_type: ET_EXEC, ET_DYN and ET_CORE (sys/elf_common.h)
abbrev pub type_number : FileType → ℕ
type_number Executable = 2
type_number SharedObject = 3
type_number Core = 4

-- the first field that isn't taken, by its place, where there is one
abbrev pub first_refused : List HeaderField → Option ℕ
first_refused fields = option_map (λ field. field.place) (find (λ field. not field.is_taken) fields)

-- the fields that say what a file is, in their order: the magic, EI_CLASS and EI_DATA in e_ident, e_type, which is one of
-- these, and e_machine, which is an architecture's
abbrev pub identity : (header : List ℕ) → (types : List FileType) → List HeaderField
identity header types =
    record { place = 0; is_taken = bytes_eq (take 4 header) magic }
    ∷ record { place = 4; is_taken = slice_index header 4 == 2 }
    ∷ record { place = 5; is_taken = slice_index header 5 == 1 }
    ∷ record { place = 16; is_taken = list_any (λ t. type_number t == u16_le_at header 16) types }
    ∷ record { place = 18; is_taken = is_some (arch_of_machine (u16_le_at header 18)) }
    ∷ []
