-- The fields of an ELF core file: Elf64_Ehdr and Elf64_Phdr of sys/elf64.h (System V ABI, chapters 4 and 5; elf(5)). All
-- numbers are little-endian.
use Rattle.std.specs.Prelude.{ℕ, ◌+◌, ◌*◌, List, ◌++◌, replicate}
use Rattle.std.specs.Int.{w16, w32, w64, to_le_bytes}
use Rattle.fd_bytes.specs.Field.{u32_le_at, u64_le_at}
use Rattle.fd_bytes.specs.Profile.{profile_of}
use Rattle.fd_bytes.specs.declared.arch.Arch.{Arch}
use Rattle.fd_elf.specs.Header.{ident, type_number}
use Rattle.fd_elf.specs.declared.file_type.FileType.TheVariants as file_type
use Rattle.fd_elfcore.specs.declared.program_header.ProgramHeader.{ProgramHeader}

abbrev pub u16 : ℕ → List ℕ
u16 number = to_le_bytes w16 number

abbrev pub u32 : ℕ → List ℕ
u32 number = to_le_bytes w32 number

abbrev pub u64 : ℕ → List ℕ
u64 number = to_le_bytes w64 number

-- The header, by its machine and its number of program headers: e_ident; ET_CORE in e_type, e_machine, EV_CURRENT in
-- e_version, e_entry 0, e_phoff 64, e_shoff 0, e_flags 0, e_ehsize 64, e_phentsize 56, e_phnum; and there are no section
-- headers, so e_shentsize, e_shnum and e_shstrndx are 0.
abbrev pub header_bytes : Arch → (e_phnum : ℕ) → List ℕ
header_bytes arch e_phnum =
    ident ++ (u16 (type_number file_type.Core) ++ (u16 (profile_of arch).elf_machine ++ (u32 1 ++ (u64 0 ++ (u64 64 ++ (u64 0 ++ (u32 0 ++ (u16 64 ++ (u16 56 ++ (u16 e_phnum
    ++ replicate 6 0))))))))))

-- where the program headers end, of which there are so many
abbrev pub headers_end : (e_phnum : ℕ) → ℕ
headers_end e_phnum = 64 + 56 * e_phnum

-- a program header's bytes
abbrev pub program_header_bytes : ProgramHeader → List ℕ
program_header_bytes h =
    u32 h.p_type ++ (u32 h.p_flags ++ (u64 h.p_offset ++ (u64 h.p_vaddr ++ (u64 h.p_paddr ++ (u64 h.p_filesz ++ (u64 h.p_memsz ++ u64 h.p_align))))))

-- the program header at a place
abbrev pub program_header_at : List ℕ → (at : ℕ) → ProgramHeader
program_header_at f at = record {
  p_type = u32_le_at f at;
  p_flags = u32_le_at f (at + 4);
  p_offset = u64_le_at f (at + 8);
  p_vaddr = u64_le_at f (at + 16);
  p_paddr = u64_le_at f (at + 24);
  p_filesz = u64_le_at f (at + 32);
  p_memsz = u64_le_at f (at + 40);
  p_align = u64_le_at f (at + 48);
}
