-- Bytes at kernel addresses, as kvm_read of kvm(3) gives them: those before the first address that has none, and why
-- that one has none.
use Rattle.std.specs.Prelude.{ℕ, zero, suc, ◌+◌, ◌^◌, nat_lt, if◌then◌else◌, List, [], ◌∷◌, Option, Some, None, Result, Ok, Err}
use Rattle.fd_mini.specs.declared.address_fault.AddressFault.{AddressFault}
use Rattle.fd_mini.specs.declared.address_fault.AddressFault.TheVariants.{PastTop}

-- what a read of some addresses gives: where no fault ended it, one byte for each address
pub record KernelBytes : Type 0 where
  pub bytes : List ℕ
  pub fault : Option AddressFault

-- the byte of an address, before what the later addresses give
abbrev pub byte_before : Result ℕ AddressFault → KernelBytes → KernelBytes
byte_before (Ok byte) later = record { bytes = byte ∷ later.bytes; fault = later.fault }
byte_before (Err fault) later = record { bytes = []; fault = Some fault }

-- what so many addresses from one on give, where each address has a byte or a fault
unfoldable pub bytes_from : (ℕ → Result ℕ AddressFault) → (va count : ℕ) → KernelBytes
bytes_from byte_at va zero = record { bytes = []; fault = None }
bytes_from byte_at va (suc count) = byte_before (byte_at va) (bytes_from byte_at (va + 1) count)

-- what a read of a range gives: nothing of one that ends past 2^64
abbrev pub kernel_bytes : (ℕ → Result ℕ AddressFault) → (va count : ℕ) → KernelBytes
kernel_bytes byte_at va count =
    if nat_lt (2 ^ 64) (va + count) then record { bytes = []; fault = Some PastTop } else bytes_from byte_at va count
