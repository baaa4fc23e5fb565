-- What the parts of opening need and answer, by the file's bytes. No public clause cites these.
use Rattle.std.specs.Prelude.{◌≡◌, ◌≤◌, ℕ, List, length, Option, Some, IsSomeAnd, option_map, Result, Ok, Err}
use Rattle.fd_nlist.specs.declared.fault.KernelFault.{KernelFault}
use Rattle.fd_nlist.specs.declared.fault.KernelFault.TheVariants.{SiteFault, NoMemory}

-- there is a file, of this length
abbrev pub HasLength : Option (List ℕ) → ℕ → Type 0
HasLength file len = Some len ≡ option_map (λ f. length f) file

-- there is a file, of at least so many bytes
abbrev pub HasRoom : Option (List ℕ) → ℕ → Type 0
HasRoom file need = IsSomeAnd file (λ f. need ≤ length f)

-- P holds of what was read, unless the site failed or no memory was left
abbrev pub IsReadAs : {A : Type 0} → (A → Type 0) → Result A KernelFault → Type 0
IsReadAs P (Ok part) = P part
IsReadAs P (Err SiteFault) = Unit {0}
IsReadAs P (Err NoMemory) = Unit {0}
IsReadAs P (Err fault) = ⊥
