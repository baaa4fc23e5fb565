-- What a read of kernel addresses gives of a vmcore.
use Rattle.std.specs.Prelude.{ℕ, ◌+◌, ◌%◌, List, slice_index, Option, Some, None, Result, Ok, Err}
use Rattle.fd_mini.specs.Kernel.{KernelBytes, kernel_bytes}
use Rattle.fd_mini.specs.declared.address_fault.AddressFault.{AddressFault}
use Rattle.fd_mini.specs.declared.address_fault.AddressFault.TheVariants.{NotDumped}
use Rattle.fd_vmcore.specs.Sections.{Sections, opened, page_offset}
use Rattle.fd_vmcore.specs.declared.open.OpenFault.{OpenFault}
use Rattle.fd_kvm.specs.Place.{placed}

-- by where the page of a physical address stands, if it is dumped
abbrev pub by_offset : List ℕ → (va pa : ℕ) → Option ℕ → Result ℕ AddressFault
by_offset f va pa None = Err (NotDumped va)
by_offset f va pa (Some place) = Ok (slice_index f (place + pa % 4096))

-- the byte at a physical address that a kernel address stands for
abbrev pub by_physical : List ℕ → Sections → (va : ℕ) → Result ℕ AddressFault → Result ℕ AddressFault
by_physical f s va (Err fault) = Err fault
by_physical f s va (Ok pa) = by_offset f va pa (page_offset s pa)

-- the byte at a kernel address
abbrev pub byte_in : List ℕ → Sections → ℕ → Result ℕ AddressFault
byte_in f s va = by_physical f s va (placed f s va)

-- what a read of kernel addresses gives of a file with these sections
abbrev pub bytes_in : List ℕ → Sections → (va count : ℕ) → KernelBytes
bytes_in f s va count = kernel_bytes (byte_in f s) va count

-- what a read gives of a file that is opened
abbrev pub by_sections : List ℕ → (va count : ℕ) → Result Sections OpenFault → Result KernelBytes OpenFault
by_sections f va count (Err fault) = Err fault
by_sections f va count (Ok s) = Ok (bytes_in f s va count)

-- what a read gives of any file, or why the file is refused
abbrev pub answer_of : List ℕ → (va count : ℕ) → Result KernelBytes OpenFault
answer_of f va count = by_sections f va count (opened f)
