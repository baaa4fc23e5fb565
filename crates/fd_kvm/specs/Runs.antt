-- What the parts of a read answer. No public clause cites these.
use Rattle.std.specs.Prelude.{◌≡◌, ℕ, ◌+◌, ◌-◌, ◌%◌, ◌<◌, Bool, ◌&&◌, ◌||◌, not, nat_lt, if◌then◌else◌, min, List, slice_index, take, drop, None, Result, Ok, Err}
use Rattle.fd_mini.specs.Kernel.{bytes_from}
use Rattle.fd_mini.specs.Layout.{unit_of}
use Rattle.fd_mini.specs.declared.header.MiniHeader.{MiniHeader}
use Rattle.fd_mini.specs.declared.address_fault.AddressFault.{AddressFault}
use Rattle.fd_mini.specs.declared.address_fault.AddressFault.TheVariants.{PastTop}
use Rattle.fd_kvm.specs.OpenFile.{HasBlock}
use Rattle.fd_kvm.specs.Place.{is_in_kernel_window, is_in_direct_map, window_is_first}
use Rattle.fd_kvm.specs.declared.fault.ReadFault.{ReadFault}
use Rattle.fd_kvm.specs.declared.fault.ReadFault.TheVariants.{Address, SiteFault}
use Rattle.fd_kvm.specs.declared.run.Run.{Run}
use Rattle.fd_kvm.specs.declared.span.Span.{Span}

-- how many addresses there are from one up to another that lies above it; no limit where it doesn't
abbrev pub up_to : (va bound : ℕ) → ℕ
up_to va bound = if nat_lt va bound then bound - va else 18446744073709551615

-- where in its unit an address of the kernel window lies
abbrev pub unit_offset : MiniHeader → ℕ → ℕ
unit_offset h va = (va - h.kernbase) % unit_of h

-- how many addresses from this one on the same entry of the directory maps, before the direct map
abbrev pub window_limit : MiniHeader → ℕ → ℕ
window_limit h va = min (unit_of h - unit_offset h va) (up_to va h.dmapbase)

-- an address is looked for in the kernel window
abbrev pub is_by_window : MiniHeader → ℕ → Bool
is_by_window h va = is_in_kernel_window h va && (window_is_first h || not (is_in_direct_map h va))

-- The physical addresses that some kernel addresses stand for, one after another, or why the first stands for none.
abbrev pub IsSpan : (ℕ → Result ℕ AddressFault) → (va : ℕ) → Result Span ReadFault → Type 0
IsSpan placed_at va (Ok span) = (i : ℕ) → i < span.len → placed_at (va + i) ≡ Ok (span.pa + i)
IsSpan placed_at va (Err (Address fault)) = placed_at va ≡ Err fault
IsSpan placed_at va (Err SiteFault) = Unit {0}

-- kernel addresses whose bytes follow one another in a block of the file
pub record IsRun (f : List ℕ) (byte_at : ℕ → Result ℕ AddressFault) (va : ℕ) (run : Run) : Type 0 where
  pub inside : HasBlock run.place f
  pub bytes : (i : ℕ) → i < run.len → byte_at (va + i) ≡ Ok (slice_index f (run.place + i))

-- a run of bytes, or why the first address has none
abbrev pub IsLocated : List ℕ → (ℕ → Result ℕ AddressFault) → (va : ℕ) → Result Run ReadFault → Type 0
IsLocated f byte_at va (Ok run) = IsRun f byte_at va run
IsLocated f byte_at va (Err (Address fault)) = byte_at va ≡ Err fault
IsLocated f byte_at va (Err SiteFault) = Unit {0}

-- so many bytes from the first address on came to the front of a buffer, and no other changed
pub record IsFront (byte_at : ℕ → Result ℕ AddressFault) (va : ℕ) (old new : List ℕ) (count : ℕ) : Type 0 where
  pub bytes : bytes_from byte_at va count ≡ record { bytes = take count new; fault = None }
  pub rest : drop count new ≡ drop count old

-- some bytes came to the front of a buffer, or the first address has none
abbrev pub IsStep : (ℕ → Result ℕ AddressFault) → (va : ℕ) → (old new : List ℕ) → Result ℕ ReadFault → Type 0
IsStep byte_at va old new (Ok count) = IsFront byte_at va old new count
IsStep byte_at va old new (Err (Address fault)) = (byte_at va ≡ Err fault) × (new ≡ old)
IsStep byte_at va old new (Err SiteFault) = Unit {0}

-- a fault of an address names the address
abbrev pub IsOfAddress : {A : Type 0} → Result A ReadFault → Type 0
IsOfAddress (Err (Address PastTop)) = ⊥
IsOfAddress result = Unit {0}
