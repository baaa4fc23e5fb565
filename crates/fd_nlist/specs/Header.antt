-- What is read of a kernel's header, Elf64_Ehdr of sys/elf64.h: the first 64 bytes of the file.
use Rattle.std.specs.Prelude.{ℕ, ◌+◌, ◌*◌, ◌^◌, ◌==◌, nat_lt, List, [], ◌∷◌, ◌++◌, Option, Some, None, Result, Ok, Err}
use Rattle.fd_bytes.specs.Field.{u64_le_at}
use Rattle.fd_elf.specs.Field.{u16_le_at}
use Rattle.fd_elf.specs.Header.{first_refused, identity}
use Rattle.fd_elf.specs.declared.file_type.FileType.TheVariants.{Executable, SharedObject}
use Rattle.fd_elf.specs.declared.header.HeaderField.{HeaderField}
use Rattle.fd_nlist.specs.declared.header.KernelHeader.{KernelHeader}

-- the fields of a header that are used
abbrev pub kernel_header : List ℕ → KernelHeader
kernel_header header = record {
  e_machine = u16_le_at header 18;
  e_shoff = u64_le_at header 40;
  e_shnum = u16_le_at header 60;
}

-- where the section headers end
abbrev pub sections_end : KernelHeader → ℕ
sections_end h = h.e_shoff + 64 * h.e_shnum

-- the fields that are looked at, in their order: what the file is, e_shentsize, and e_shoff, so that the section headers end
-- below 2^64
abbrev pub header_fields : List ℕ → List HeaderField
header_fields header =
    identity header (Executable ∷ SharedObject ∷ [])
    ++ record { place = 58; is_taken = u16_le_at header 58 == 64 }
    ∷ record { place = 40; is_taken = nat_lt (sections_end (kernel_header header)) (2 ^ 64) }
    ∷ []

-- the header, unless a field of it is refused, by its place
abbrev pub header_by : Option ℕ → List ℕ → Result KernelHeader ℕ
header_by (Some place) header = Err place
header_by None header = Ok (kernel_header header)

-- what reading a header answers
unfoldable pub header_in : List ℕ → Result KernelHeader ℕ
header_in header = header_by (first_refused (header_fields header)) header
