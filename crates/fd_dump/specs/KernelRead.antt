-- What a read of kernel addresses gives of a machine image: the bytes of its dumped pages.
use Rattle.std.specs.Prelude.{ℕ, ◌%◌, if◌then◌else◌, List, slice_index, Option, Some, None, Result, Ok, Err}
use Rattle.fd_image.specs.Image.{MachineImage}
use Rattle.fd_image.specs.Physical.{page_of, page_start}
use Rattle.fd_mini.specs.Kernel.{KernelBytes, kernel_bytes}
use Rattle.fd_mini.specs.declared.address_fault.AddressFault.{AddressFault}
use Rattle.fd_mini.specs.declared.address_fault.AddressFault.TheVariants.{NotDumped}
use Rattle.fd_dump.specs.Dumped.{is_dumped}
use Rattle.fd_dump.specs.Translation.{translated}

-- the byte of a page, if there is the page
abbrev pub by_page : (va pa : ℕ) → Option (List ℕ) → Result ℕ AddressFault
by_page va pa None = Err (NotDumped va)
by_page va pa (Some page) = Ok (slice_index page (pa % 4096))

-- the byte at a physical address that a kernel address stands for
abbrev pub by_physical : MachineImage → ℕ → Result ℕ AddressFault → Result ℕ AddressFault
by_physical m va (Err fault) = Err fault
by_physical m va (Ok pa) = if is_dumped m (page_start pa) then by_page va pa (page_of m pa) else Err (NotDumped va)

-- the byte at a kernel address
abbrev pub byte_of : MachineImage → ℕ → Result ℕ AddressFault
byte_of m va = by_physical m va (translated m va)

-- what a read of kernel addresses gives
abbrev pub kernel_read : MachineImage → (va count : ℕ) → KernelBytes
kernel_read m va count = kernel_bytes (byte_of m) va count
