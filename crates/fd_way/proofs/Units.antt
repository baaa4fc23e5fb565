-- The units of the page directory: what is the same for each architecture.
use Rattle.std.proofs.Common.{◌≡◌, ℕ, ◌+◌, ◌-◌, ◌*◌, ◌/◌, ◌%◌, ◌<◌, ◌≤◌, ◌^◌, Bool, true, false, if◌then◌else◌, ◌&&◌, nat_le, nat_lt, refl, sym, ◌∙◌, ap, arith, lit<, lit≤}
use Rattle.std.proofs.lemmas.Bool.Decides.{nat_tests}
use Rattle.std.proofs.lemmas.Nat.{mod-pow-add, field_of}
use Rattle.fd_bytes.specs.Profile.{profile_of}
use Rattle.fd_bytes.specs.declared.arch.Arch.{Arch}
use Rattle.fd_bytes.specs.declared.arch.Arch.TheVariants.{Amd64, Arm64, Riscv}
use Rattle.fd_image.specs.Image.{MachineImage, kernel_end, levels_of}
use Rattle.fd_image.specs.declared.parts.Windows.{Windows}
use Rattle.fd_pte.specs.Amd64Laws.{amd64_placed, amd64_expanded}
use Rattle.fd_pte.specs.Architecture.{kind_of, directory_height_of, expansion_of}
use Rattle.fd_pte.specs.Arm64Laws.{arm64_placed, arm64_expanded}
use Rattle.fd_pte.specs.Entry.{bytes_under, units_under, IsPlaced}
use Rattle.fd_pte.specs.RiscvLaws.{riscv_placed, riscv_expanded}
use Rattle.fd_pte.specs.declared.entry.Kind.TheVariants.{Absent, Leaf}
use Rattle.fd_mini.specs.Layout.{entry_height_of}
use Rattle.fd_kvm.specs.Walk.{protection_of}
use Rattle.fd_dump.specs.Minidump.{mini_header_of}
use Rattle.fd_way.proofs.Limits.{AreWindows}

-- the page tables have at most 4 levels, and some above the directory's height
levels_between : (arch : Arch) (sv48 : Bool)
    → (directory_height_of arch < (if sv48 then 4 else (profile_of arch).levels)) × ((if sv48 then 4 else (profile_of arch).levels) ≤ 4)
levels_between Amd64 true = (lit< tt, lit≤ tt)
levels_between Amd64 false = (lit< tt, lit≤ tt)
levels_between Arm64 true = (lit< tt, lit≤ tt)
levels_between Arm64 false = (lit< tt, lit≤ tt)
levels_between Riscv true = (lit< tt, lit≤ tt)
levels_between Riscv false = (lit< tt, lit≤ tt)

pub some_levels : (m : MachineImage) → directory_height_of m.arch < levels_of m
some_levels m = (levels_between m.arch m.sv48).0

pub most_levels : (m : MachineImage) → levels_of m ≤ 4
most_levels m = (levels_between m.arch m.sv48).1

-- an entry's kind is one that its height has
pub placed_kind : (arch : Arch) (bits height : ℕ) → bits < 2 ^ 64 → height ≤ 3 → IsPlaced height (kind_of arch bits height)
placed_kind Amd64 bits height fits low = amd64_placed bits height fits low
placed_kind Arm64 bits height fits low = arm64_placed bits height fits low
placed_kind Riscv bits height fits low = riscv_placed bits height fits low

-- the directory of an image's minidump has entries of the architecture's height
current_height : (arch : Arch) → (if nat_le 2 (profile_of arch).minidump_version then (profile_of arch).directory_height else 0) ≡ directory_height_of arch
current_height Amd64 = refl
current_height Arm64 = refl
current_height Riscv = refl

pub entry_height : (m : MachineImage) → entry_height_of (mini_header_of m) ≡ directory_height_of m.arch
entry_height m = current_height m.arch

-- the entry 0 is absent
pub zero_absent : (arch : Arch) → kind_of arch 0 (directory_height_of arch) ≡ Absent
zero_absent Amd64 = refl
zero_absent Arm64 = refl
zero_absent Riscv = refl

-- an entry that stands for one unit of a larger leaf is a leaf at that unit, and allows what that allows
pub record IsUnitLeaf (arch : Arch) (larger bits address : ℕ) : Type 0 where
  pub leaf : kind_of arch bits (directory_height_of arch) ≡ Leaf address
  pub same_protection : protection_of arch bits ≡ protection_of arch larger
  pub fits : bits < 2 ^ 64

pub expanded :
    (arch : Arch) (bits height index address : ℕ) → bits < 2 ^ 64 → height ≤ 3 → directory_height_of arch < height
    → index < units_under (directory_height_of arch) height → kind_of arch bits height ≡ Leaf address
    → IsUnitLeaf arch bits (expansion_of arch bits height index) (address + index * bytes_under (directory_height_of arch))
expanded Amd64 bits height index address fits low larger within leaf =
    let unit = amd64_expanded bits height index address fits low larger within leaf in record { leaf = unit.leaf; same_protection = unit.same_protection; fits = unit.fits }
expanded Arm64 bits height index address fits low larger within leaf =
    let unit = arm64_expanded bits height index address fits low larger within leaf in record { leaf = unit.leaf; same_protection = unit.same_protection; fits = unit.fits }
expanded Riscv bits height index address fits low larger within leaf =
    let unit = riscv_expanded bits height index address fits low larger within leaf in record { leaf = unit.leaf; same_protection = unit.same_protection; fits = unit.fits }

-- the first address of the unit of an address in the kernel window
abbrev pub unit_start : Arch → (kernbase va : ℕ) → ℕ
unit_start arch kernbase va = kernbase + (va - kernbase) / bytes_under (directory_height_of arch) * bytes_under (directory_height_of arch)

pub record IsInUnit (arch : Arch) (kernbase va : ℕ) : Type 0 where
  pub same : va / bytes_under (directory_height_of arch) ≡ unit_start arch kernbase va / bytes_under (directory_height_of arch)
  pub inside : (va - kernbase) % bytes_under (directory_height_of arch) ≡ va % bytes_under (directory_height_of arch)

pub in_unit : (arch : Arch) (kernbase va : ℕ) → kernbase % bytes_under (directory_height_of arch + 1) ≡ 0 → kernbase ≤ va → IsInUnit arch kernbase va
in_unit Amd64 kernbase va aligned from = record { same = omega arith; inside = omega arith }
in_unit Arm64 kernbase va aligned from = record { same = omega arith; inside = omega arith }
in_unit Riscv kernbase va aligned from = record { same = omega arith; inside = omega arith }

-- the directory has an entry for exactly the addresses of the kernel window
pub same_window : (arch : Arch) (w : Windows) (va : ℕ) → AreWindows arch w
    → (nat_le w.kernbase va && nat_lt ((va - w.kernbase) / bytes_under (directory_height_of arch)) (8 * (w.kernspan / bytes_under (directory_height_of arch)) / 8))
    ≡ (nat_le w.kernbase va && nat_lt va (kernel_end w))
same_window Amd64 w va windows =
    let span : w.kernspan % bytes_under 2 ≡ 0 = windows.kernspan in grind (arith, nat_tests)
same_window Arm64 w va windows =
    let span : w.kernspan % bytes_under 1 ≡ 0 = windows.kernspan in grind (arith, nat_tests)
same_window Riscv w va windows =
    let span : w.kernspan % bytes_under 1 ≡ 0 = windows.kernspan in grind (arith, nat_tests)

-- where an address stands in a larger leaf: in its unit, behind the units before
pub place_in_leaf :
    (low high va v : ℕ) → low < high → va / bytes_under low ≡ v / bytes_under low
    → v % bytes_under high / bytes_under low * bytes_under low + va % bytes_under low ≡ va % bytes_under high
place_in_leaf low high va v larger same =
    let more : ℕ = 9 * (high - low) in
    let exponent : 12 + 9 * high ≡ more + (12 + 9 * low) = omega arith in
    let index : v % bytes_under high / bytes_under low ≡ va / bytes_under low % 2 ^ more =
    ap (λ e. v % 2 ^ e / bytes_under low) exponent ∙ field_of v more (12 + 9 * low) ∙ ap (λ n. n % 2 ^ more) (sym same) in
    ap (λ n. n * bytes_under low + va % bytes_under low) index
    ∙ sym (ap (λ e. va % 2 ^ e) exponent ∙ mod-pow-add va more (12 + 9 * low))
